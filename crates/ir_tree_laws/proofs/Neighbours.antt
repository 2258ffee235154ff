-- The neighbours of an operation, read from its path, and the values that are visible because of them.
use Rattle.std.proofs.Common.{◌≡◌, refl, ap, sym, ◌∙◌, subst, ℕ, Bool, true, false, true≢false, cond, not, ◌&&◌, ◌||◌, eqb, eq-eqb, eqb-true, List, [], ◌∷◌, ◌++◌, length, Option, Some, None, option_map, inl, inr, arith}
use Rattle.std.specs.Prelude.{nat_lt, is_some, slice_get, option_and_then}
use Rattle.std.specs.List.{list_any}
use Rattle.std.proofs.lemmas.Bool.{lt-ltb, ltb-true}
use Rattle.ir_tree.specs.declared.value.Value.{Value}
use Rattle.ir_tree.specs.declared.value.Value.TheVariants.{Result, Arg}
use Rattle.ir_tree.specs.declared.place.Place.{Place}
use Rattle.ir_tree.specs.Tree.{OpOf, OpsOf, RegionOf, empty, block, no_ops, next, head, regions, ops_of, op_list}
use Rattle.ir_tree.specs.Ids.{HasDistinctIds, find, first_of}
use Rattle.ir_tree.specs.Places.{first_id, place_of}
use Rattle.ir_tree.specs.Sites.{arguments, results_of, shows, visible}
use Rattle.ir_tree_laws.specs.Members.{In}
use Rattle.ir_tree_laws.specs.Reads.{last_id, parent_of, next_of, ops_in, ops_at, is_among, goes_before, id_before, list_of, prev_of, in_list, is_before, is_next_to}
use Rattle.ir_tree_laws.specs.Stands.{StepOf, OpWithPathOf, op_with_path_id, op_with_path, stands, ops_stands, place_in}
use Rattle.ir_tree_laws.specs.Values.{region_at, arguments_of, arguments_at, has_value}
use Rattle.ir_tree_laws.proofs.Listed.{bool_cases, any_one, both, in_right, one_any, or_left}
use Rattle.ir_tree_laws.proofs.Readings.{step}
use Rattle.ir_tree_laws.proofs.Members.{stand, within, joined_ops, ops_child, found_stands, member, same_stand, stand_found}
use Rattle.ir_tree_laws.proofs.Around.{around_there, member_of_place, place_of_member}
use Rattle.ir_tree_laws.proofs.DominatedBy.{visible_by_cases}
use Rattle.ir_tree_laws.proofs.Put.{child}
use Rattle.ir_tree_laws.proofs.Values.{preceding_stands, got, shaped_as, split_preceding}
use Rattle.ir_tree_laws.proofs.Changed.{joined_among}
use Rattle.ir_tree_laws.proofs.Reverted.{among_split}
use Rattle.std.proofs.lemmas.Option.{slice_get_within}

pub some_got : {X : Type 0} (xs : List X) (k : ℕ) → is_some (slice_get xs k) ≡ nat_lt k (length xs)
some_got {X = X} xs k = elim (bool_cases (nat_lt k (length xs))) [
  | inl e ↦ got xs k (ltb-true k (length xs) e) ∙ sym e
  | inr e ↦ none (slice_get xs k) refl e ∙ sym e
]
  where
    none : (o : Option X) → slice_get xs k ≡ o → nat_lt k (length xs) ≡ false → is_some (slice_get xs k) ≡ false
    none None f e = ap is_some f
    none (Some x) f e = absurd (true≢false (sym (lt-ltb k (length xs) (slice_get_within xs k x f)) ∙ e))

module _ {N T A : Type 0} where
  -- the id of the last earlier operation, if there is one before the first
  abbrev last_of : Option ℕ → List (OpOf N T A) → Option ℕ
  last_of last [] = last
  last_of last (o ∷ os) = last_of (Some (head o).id) os

  last_is : (last : Option ℕ) (os : List (OpOf N T A)) → last_of last os ≡ first_of (last_id (ops_of os)) last
  last_is last [] = refl
  last_is last (o ∷ os) = last_is (Some (head o).id) os ∙ go (last_id (ops_of os))
    where
      go : (l : Option ℕ) → first_of l (Some (head o).id) ≡ first_of (first_of l (Some (head o).id)) last
      go None = refl
      go (Some y) = refl

  joined_list : (preceding : List (OpOf N T A)) (os : OpsOf N T A) → joined_ops preceding os ≡ ops_of (preceding ++ op_list os)
  joined_list [] os = whole os
    where
      whole : (os : OpsOf N T A) → os ≡ ops_of (op_list os)
      whole no_ops = refl
      whole (next o os) = ap (next o) (whole os)
  joined_list (o ∷ preceding) os = ap (next o) (joined_list preceding os)

  trailing_first : (y x : ℕ) (preceding : List (OpOf N T A)) (o : OpOf N T A) (rest : OpsOf N T A) → (head o).id ≡ x → list_any (λ f. eqb (head f).id y) preceding ≡ true → goes_before y x (joined_ops preceding (next o rest)) ≡ true
  trailing_first y x [] o rest e h = absurd (true≢false (sym h))
  trailing_first y x (f ∷ preceding) o rest e h = go (eqb (head f).id y) h (trailing_first y x preceding o rest e)
    where
      go : (b : Bool) → (b || list_any (λ f. eqb (head f).id y) preceding) ≡ true → (list_any (λ f. eqb (head f).id y) preceding ≡ true → goes_before y x (joined_ops preceding (next o rest)) ≡ true)
          → cond b (is_among x (joined_ops preceding (next o rest))) (goes_before y x (joined_ops preceding (next o rest))) ≡ true
      go true k later = joined_among x preceding (next o rest) (or_left (eqb (head o).id x) (is_among x rest) (eq-eqb (head o).id x e))
      go false k later = later k

  -- two operations of a list, one after the other
  two_split : (y x : ℕ) (os : OpsOf N T A) → goes_before y x os ≡ true
      → (pre : List (OpOf N T A)) × (g : OpOf N T A) × (mid : List (OpOf N T A)) × (z : OpOf N T A) × (rest : OpsOf N T A) × ((head g).id ≡ y) × ((head z).id ≡ x) × (os ≡ joined_ops (pre ++ g ∷ mid) (next z rest))
  two_split y x no_ops h = absurd (true≢false (sym h))
  two_split y x (next o os) h = go (eqb (head o).id y) refl h (two_split y x os)
    where
      go : (b : Bool) → eqb (head o).id y ≡ b → cond b (is_among x os) (goes_before y x os) ≡ true
          → (goes_before y x os ≡ true
          → (pre : List (OpOf N T A)) × (g : OpOf N T A) × (mid : List (OpOf N T A)) × (z : OpOf N T A) × (rest : OpsOf N T A) × ((head g).id ≡ y) × ((head z).id ≡ x) × (os ≡ joined_ops (pre ++ g ∷ mid) (next z rest)))
          → (pre : List (OpOf N T A)) × (g : OpOf N T A) × (mid : List (OpOf N T A)) × (z : OpOf N T A) × (rest : OpsOf N T A) × ((head g).id ≡ y) × ((head z).id ≡ x) × (next o os ≡ joined_ops (pre ++ g ∷ mid) (next z rest))
      go true e k later = let s = among_split x os k in ([], o, s.0, s.1, s.2, eqb-true (head o).id y e, s.4, ap (next o) s.3)
      go false e k later = let s = later k in (o ∷ s.0, s.1, s.2, s.3, s.4, s.5, s.6, ap (next o) s.7)

  pub block_at : (r : ℕ) (p : OpOf N T A) (os : OpsOf N T A) (g : Option (RegionOf N T A)) → region_at r (regions p) ≡ g → option_and_then ops_in g ≡ Some os → (args : List T) × (region_at r (regions p) ≡ Some (block args os))
  block_at r p os None f e = absurd cc
  block_at r p os (Some empty) f e = absurd cc
  block_at r p os (Some (block args l)) f e = (let same : l ≡ os = cc in (args, f ∙ ap (λ z. Some (block args z)) same))

  pub block_of : (t : OpOf N T A) (y r : ℕ) (os : OpsOf N T A) → ops_at y r t ≡ Some os → (p : OpOf N T A) × (args : List T) × (find y t ≡ Some p) × (region_at r (regions p) ≡ Some (block args os))
  block_of t y r os k = go (find y t) refl k
    where
      go : (f : Option (OpOf N T A)) → find y t ≡ f → option_and_then (λ o. option_and_then ops_in (region_at r (regions o))) f ≡ Some os → (p : OpOf N T A) × (args : List T) × (find y t ≡ Some p) × (region_at r (regions p) ≡ Some (block args os))
      go None f e = absurd cc
      go (Some p) f e = let b = block_at r p os (region_at r (regions p)) refl e in (p, b.0, f, b.1)

  -- if ids are distinct
  module _ (t : OpOf N T A) (d : HasDistinctIds t) (o : OpOf N T A) (a : StepOf N T A) (q : List (StepOf N T A)) (h : In (stand o (a ∷ q)) (stands [] t)) where
    abbrev x : ℕ
    x = (head o).id

    abbrev list : OpsOf N T A
    list = joined_ops a.preceding (next o a.rest)

    placed : place_of (head o).id t ≡ Some (record { parent = (head a.parent).id; region = a.region; before = first_id a.rest })
    placed = place_of_member t d o a q h

    up : In (stand a.parent q) (stands [] t)
    up = (around_there t o a q h).1

    parent_found : find (head a.parent).id t ≡ Some a.parent
    parent_found = stand_found t d (stand a.parent q) up

    ops_there : ops_at (head a.parent).id a.region t ≡ Some (joined_ops a.preceding (next o a.rest))
    ops_there = ap (option_and_then (λ o. option_and_then ops_in (region_at a.region (regions o)))) parent_found ∙ ap (option_and_then ops_in) (shaped_as t o a q h)

    pub parent_there : parent_of (head o).id t ≡ Some (head a.parent).id
    parent_there = ap (option_map (λ p. p.parent)) placed

    pub next_there : next_of (head o).id t ≡ first_id a.rest
    next_there = ap (option_and_then (λ p. p.before)) placed

    list_is : list_of (head o).id t ≡ Some (joined_ops a.preceding (next o a.rest))
    list_is = ap (option_and_then (λ p. ops_at p.parent p.region t)) placed ∙ ops_there

    pub list_there : list_of (head o).id t ≡ Some (ops_of (a.preceding ++ o ∷ op_list a.rest))
    list_there = list_is ∙ ap Some (joined_list a.preceding (next o a.rest))

    -- earlier operations are other operations
    others_before : (f : OpOf N T A) → In f a.preceding → eqb (head f).id (head o).id ≡ false
    others_before f k = elim (bool_cases (eqb (head f).id x)) [
      | inr e ↦ e
      | inl e ↦ (let u = preceding_stands t a.parent q a.region a.args a.preceding (next o a.rest) f up (shaped_as t o a q h) k in
          let same = same_stand t d (stand f (u.0 ∷ q)) (stand o (a ∷ q)) u.1 h (eqb-true (head f).id x e) in
          let paths : u.0 ∷ q ≡ a ∷ q = ap (λ (z : OpWithPathOf N T A). z.path) same in
          let one : u.0 ≡ a = cc in
          let l = ap (λ (z : StepOf N T A). length z.preceding) one in
          let n = u.2 in
          absurd (omega (arith, l, n)))
    ]

    id_before_is : (last : Option ℕ) (preceding : List (OpOf N T A)) → ((f : OpOf N T A) → In f preceding → eqb (head f).id (head o).id ≡ false) → id_before (head o).id last (joined_ops preceding (next o a.rest)) ≡ last_of last preceding
    id_before_is last [] g = ap (λ b. cond b last (id_before x (Some x) a.rest)) (eq-eqb x x refl)
    id_before_is last (f ∷ preceding) g = ap (λ b. cond b last (id_before x (Some (head f).id) (joined_ops preceding (next o a.rest)))) (g f (inl refl)) ∙ id_before_is (Some (head f).id) preceding (λ z k. g z (inr k))

    pub prev_there : prev_of (head o).id t ≡ last_id (ops_of a.preceding)
    prev_there = ap (option_and_then (id_before x None)) list_is ∙ id_before_is None a.preceding others_before ∙ last_is None a.preceding ∙ go (last_id (ops_of a.preceding))
      where
        go : (l : Option ℕ) → first_of l None ≡ l
        go None = refl
        go (Some y) = refl

    -- an earlier operation of its list is in the front of its path
    preceding_list : (y : ℕ) → list_any (λ f. eqb (head f).id y) a.preceding ≡ true → list_of y t ≡ Some (joined_ops a.preceding (next o a.rest))
    preceding_list y e =
        let w = one_any (λ f. eqb (head f).id y) a.preceding e in
        let id = eqb-true (head w.0).id y w.2 in
        let own = sides w.0 w.1 in
        ap (λ z. list_of z t) (sym id) ∙ ap (option_and_then (λ p. ops_at p.parent p.region t)) (place_of_member t d w.0 own.0 q own.1) ∙ (λ i. ops_at (own.2 i) (own.3 i) t) ∙ ops_there
      where
        sides : (f : OpOf N T A) → In f a.preceding → (b : StepOf N T A) × In (stand f (b ∷ q)) (stands [] t) × ((head b.parent).id ≡ (head a.parent).id) × (b.region ≡ a.region)
        sides f k =
            let s = split_preceding f a.preceding (next o a.rest) k in
            let b = step a.parent a.region a.args s.0 s.1 in (
              b,
              within a.parent q (stand f (b ∷ q)) (child a.parent q a.region a.args (joined_ops a.preceding (next o a.rest)) (stand f (b ∷ q)) (shaped_as t o a q h)
                  (subst (λ l. In (stand f (b ∷ q)) (ops_stands a.parent q a.region a.args [] l)) (sym s.2) (ops_child a.parent q a.region a.args [] s.0 f s.1))) [] t up,
              refl,
              refl,
            )

    preceding_has : (y : ℕ) → is_before y (head o).id t ≡ true → list_any (λ f. eqb (head f).id y) a.preceding ≡ true
    preceding_has y e = at_place (place_of y t) refl e
      where
        in_ops : (place : Place) (os : Option (OpsOf N T A)) → ops_at place.parent place.region t ≡ os → in_list (goes_before y (head o).id) os ≡ true → list_any (λ f. eqb (head f).id y) a.preceding ≡ true
        in_ops place None k e = absurd (true≢false (sym e))
        in_ops place (Some os) k e =
            let s = two_split y (head o).id os e in
            let b = block_of t place.parent place.region os k in
            let w = found_stands place.parent t b.0 b.2 in
            let p = b.0 in
            let c = step p place.region b.1 (s.0 ++ s.1 ∷ s.2) s.4 in
            let above : In (stand p w.0.path) (stands [] t) = subst (λ (z : OpOf N T A). In (stand z w.0.path) (stands [] t)) w.3 w.1 in
            let m : In (stand s.3 (c ∷ w.0.path)) (stands [] t) =
            within p w.0.path (stand s.3 (c ∷ w.0.path)) (child p w.0.path place.region b.1 os (stand s.3 (c ∷ w.0.path)) b.3
            (subst (λ l. In (stand s.3 (c ∷ w.0.path)) (ops_stands p w.0.path place.region b.1 [] l)) (sym s.7) (ops_child p w.0.path place.region b.1 [] (s.0 ++ s.1 ∷ s.2) s.3 s.4))) [] t above in
            let same = same_stand t d (stand s.3 (c ∷ w.0.path)) (stand o (a ∷ q)) m h s.6 in
            let paths : c ∷ w.0.path ≡ a ∷ q = ap (λ (z : OpWithPathOf N T A). z.path) same in
            let one : c ≡ a = cc in
            subst (λ (l : StepOf N T A). list_any (λ f. eqb (head f).id y) l.preceding ≡ true) one (any_one (λ f. eqb (head f).id y) (s.0 ++ s.1 ∷ s.2) s.1 (in_right s.1 s.0 (s.1 ∷ s.2) (inl refl)) (eq-eqb (head s.1).id y s.5))

        at_place : (place : Option Place) → place_of y t ≡ place → in_list (goes_before y (head o).id) (option_and_then (λ p. ops_at p.parent p.region t) place) ≡ true → list_any (λ f. eqb (head f).id y) a.preceding ≡ true
        at_place None k e = absurd (true≢false (sym e))
        at_place (Some place) k e = in_ops place (ops_at place.parent place.region t) refl e

    pub before_there : (y : ℕ) → is_before y (head o).id t ≡ list_any (λ f. eqb (head f).id y) a.preceding
    before_there y = elim (bool_cases (list_any (λ f. eqb (head f).id y) a.preceding)) [
      | inl k ↦ ap (in_list (goes_before y x)) (preceding_list y k) ∙ trailing_first y x a.preceding o a.rest refl k ∙ sym k
      | inr k ↦ elim (bool_cases (is_before y x t)) [ inr e ↦ e ∙ sym k | inl e ↦ absurd (true≢false (sym (preceding_has y e) ∙ k)) ]
    ]

    -- visibility by the place: the owner is earlier in the list, the value is an argument of the block, or it is
    -- visible at the parent
    result_next_to : (y k : ℕ) → list_any (λ f. shows (Result y k) (results_of f)) a.preceding ≡ (has_value (Result y k) t && is_before y (head o).id t)
    result_next_to y k = elim (bool_cases (list_any (λ f. eqb (head f).id y) a.preceding)) [
      | inr e ↦ none e ∙ sym (ap (λ b. has_value (Result y k) t && b) (before_there y ∙ e) ∙ never (has_value (Result y k) t))
      | inl e ↦ one e ∙ sym (ap (λ b. has_value (Result y k) t && b) (before_there y ∙ e) ∙ alone (has_value (Result y k) t))
    ]
      where
        never : (b : Bool) → (b && false) ≡ false
        never true = refl
        never false = refl

        alone : (b : Bool) → (b && true) ≡ b
        alone true = refl
        alone false = refl

        own : (f : OpOf N T A) → shows (Result y k) (results_of f) ≡ true → (eqb (head f).id y ≡ true) × (nat_lt k (length (head f).results) ≡ true)
        own f e = let b = both (eqb y (head f).id) (nat_lt k (length (head f).results)) e in (eq-eqb (head f).id y (sym (eqb-true y (head f).id b.0)), b.1)

        none : list_any (λ f. eqb (head f).id y) a.preceding ≡ false → list_any (λ f. shows (Result y k) (results_of f)) a.preceding ≡ false
        none e = elim (bool_cases (list_any (λ f. shows (Result y k) (results_of f)) a.preceding)) [
          | inr z ↦ z
          | inl z ↦ (let w = one_any (λ f. shows (Result y k) (results_of f)) a.preceding z in absurd (true≢false (sym (any_one (λ f. eqb (head f).id y) a.preceding w.0 w.1 (own w.0 w.2).0) ∙ e)))
        ]

        found : (f : OpOf N T A) → In f a.preceding → eqb (head f).id y ≡ true → find y t ≡ Some f
        found f m e =
            let u = preceding_stands t a.parent q a.region a.args a.preceding (next o a.rest) f up (shaped_as t o a q h) m in
            ap (λ z. find z t) (sym (eqb-true (head f).id y e)) ∙ stand_found t d (stand f (u.0 ∷ q)) u.1

        one : list_any (λ f. eqb (head f).id y) a.preceding ≡ true → list_any (λ f. shows (Result y k) (results_of f)) a.preceding ≡ has_value (Result y k) t
        one e =
            let w = one_any (λ f. eqb (head f).id y) a.preceding e in
            let f = w.0 in
            let there = found f w.1 w.2 in
            let is : has_value (Result y k) t ≡ nat_lt k (length (head f).results) = ap (λ z. is_some (option_and_then (λ o. slice_get (head o).results k) z)) there ∙ some_got (head f).results k in
            elim (bool_cases (nat_lt k (length (head f).results))) [
              | inl n ↦ any_one (λ f. shows (Result y k) (results_of f)) a.preceding f w.1 ((λ i. eqb y (eqb-true (head f).id y w.2 i) && n i) ∙ ap (λ b. b && true) (eq-eqb y y refl)) ∙ sym (is ∙ n)
              | inr n ↦ elim (bool_cases (list_any (λ f. shows (Result y k) (results_of f)) a.preceding)) [
                | inr z ↦ z ∙ sym (is ∙ n)
                | inl z ↦ (let v = one_any (λ f. shows (Result y k) (results_of f)) a.preceding z in
                    let b = own v.0 v.2 in
                    let two : Some v.0 ≡ Some f = sym (found v.0 v.1 b.0) ∙ there in
                    let same : v.0 ≡ f = cc in
                    absurd (true≢false (sym b.1 ∙ ap (λ (z : OpOf N T A). nat_lt k (length (head z).results)) same ∙ n)))
              ]
            ]

    argument_next_to : (y r k : ℕ) → shows (Arg y r k) (arguments (head a.parent).id a.region (length a.args)) ≡ (has_value (Arg y r k) t && (eqb y (head a.parent).id && eqb r a.region))
    argument_next_to y r k = go (eqb y (head a.parent).id) refl (eqb r a.region) refl
      where
        never : (b : Bool) → (b && false) ≡ false
        never true = refl
        never false = refl

        alone : (b : Bool) → (b && true) ≡ b
        alone true = refl
        alone false = refl

        go : (b : Bool) → eqb y (head a.parent).id ≡ b → (c : Bool) → eqb r a.region ≡ c → (eqb y (head a.parent).id && (eqb r a.region && nat_lt k (length a.args))) ≡ (has_value (Arg y r k) t && (eqb y (head a.parent).id && eqb r a.region))
        go false e c g = (λ i. e i && (eqb r a.region && nat_lt k (length a.args))) ∙ sym ((λ i. has_value (Arg y r k) t && (e i && eqb r a.region)) ∙ never (has_value (Arg y r k) t))
        go true e false g = (λ i. e i && (g i && nat_lt k (length a.args))) ∙ sym ((λ i. has_value (Arg y r k) t && (e i && g i)) ∙ never (has_value (Arg y r k) t))
        go true e true g =
            let is : has_value (Arg y r k) t ≡ nat_lt k (length a.args) =
            ap (λ z. is_some (option_and_then (λ o. option_and_then (λ l. slice_get l k) (arguments_at r o)) (find z t))) (eqb-true y (head a.parent).id e)
            ∙ ap (λ z. is_some (option_and_then (λ o. option_and_then (λ l. slice_get l k) (arguments_at r o)) z)) parent_found
            ∙ ap (λ z. is_some (option_and_then (λ l. slice_get l k) (arguments_at z a.parent))) (eqb-true r a.region g)
            ∙ ap (λ z. is_some (option_and_then (λ l. slice_get l k) (option_and_then arguments_of z))) (shaped_as t o a q h)
            ∙ some_got a.args k in
            (λ i. e i && (g i && nat_lt k (length a.args))) ∙ sym is ∙ sym ((λ i. has_value (Arg y r k) t && (e i && g i)) ∙ alone (has_value (Arg y r k) t))

    pub dominated_by_by_place : (isolated : N → Bool) (place : Place) (p : OpOf N T A) (v : Value) → place_of (head o).id t ≡ Some place → find place.parent t ≡ Some p
        → visible isolated t (head o).id v ≡ (has_value v t && is_next_to (head o).id place v t || not (isolated (head p).name) && visible isolated t place.parent v)
    dominated_by_by_place isolated place p v e f =
        visible_by_cases isolated t d (stand o (a ∷ q)) h a q refl v
        ∙ next_to v
        ∙ λ i. has_value v t && is_next_to (head o).id (is i) v t || not (isolated (head (one i)).name) && visible isolated t (is i).parent v
      where
        none : (y r k : ℕ) (fs : List (OpOf N T A)) → list_any (λ f. shows (Arg y r k) (results_of f)) fs ≡ false
        none y r k [] = refl
        none y r k (f ∷ fs) = none y r k fs

        is : record { parent = (head a.parent).id; region = a.region; before = first_id a.rest } ≡ place
        is = (let two : Some (record { parent = (head a.parent).id; region = a.region; before = first_id a.rest }) ≡ Some place = sym placed ∙ e in cc)

        one : a.parent ≡ p
        one = (let two : Some a.parent ≡ Some p = sym parent_found ∙ ap (λ (l : Place). find l.parent t) is ∙ f in cc)

        next_to : (v : Value) → (list_any (λ f. shows v (results_of f)) a.preceding || (shows v (arguments (head a.parent).id a.region (length a.args)) || not (isolated (head a.parent).name) && visible isolated t (head a.parent).id v))
            ≡ (has_value v t && is_next_to (head o).id (record { parent = (head a.parent).id; region = a.region; before = first_id a.rest }) v t || not (isolated (head a.parent).name) && visible isolated t (head a.parent).id v)
        next_to (Result y k) = ap (λ b. b || not (isolated (head a.parent).name) && visible isolated t (head a.parent).id (Result y k)) (result_next_to y k)
        next_to (Arg y r k) = λ i. none y r k a.preceding i || (argument_next_to y r k i || not (isolated (head a.parent).name) && visible isolated t (head a.parent).id (Arg y r k))

  -- visibility by the id
  pub dominated_by_next_to : (isolated : N → Bool) (t : OpOf N T A) → HasDistinctIds t → (x : ℕ) (place : Place) (p : OpOf N T A) (v : Value) → place_of x t ≡ Some place → find place.parent t ≡ Some p
      → visible isolated t x v ≡ (has_value v t && is_next_to x place v t || not (isolated (head p).name) && visible isolated t place.parent v)
  dominated_by_next_to isolated t d x place p v e f =
      let s = member_of_place x place t e in
      go s.0 s.1 s.2 s.0.path refl s.3
    where
      go : (s : OpWithPathOf N T A) → In s (stands [] t) → op_with_path_id s ≡ x → (path : List (StepOf N T A)) → s.path ≡ path → place_in s.path ≡ Some place
          → visible isolated t x v ≡ (has_value v t && is_next_to x place v t || not (isolated (head p).name) && visible isolated t place.parent v)
      go s h id [] r k = (let bad : None ≡ Some place = sym (ap place_in r) ∙ k in absurd cc)
      go s h id (a ∷ q) r k =
          let there : In (stand s.here (a ∷ q)) (stands [] t) = subst (λ l. In (stand s.here l) (stands [] t)) r h in
          subst (λ y. visible isolated t y v ≡ (has_value v t && is_next_to y place v t || not (isolated (head p).name) && visible isolated t place.parent v)) id
          (dominated_by_by_place t d s.here a q there isolated place p v (ap (λ y. place_of y t) id ∙ e) f)

  module _ (t : OpOf N T A) (d : HasDistinctIds t) (x : ℕ) (s : OpWithPathOf N T A) (a : StepOf N T A) (q : List (StepOf N T A)) (e : op_with_path x t ≡ Some s) (p : s.path ≡ a ∷ q) where
    there_it : In (stand s.here (a ∷ q)) (stands [] t)
    there_it = subst (λ l. In (stand s.here l) (stands [] t)) p (member x (stands [] t) s e).0

    id_it : op_with_path_id s ≡ x
    id_it = (member x (stands [] t) s e).1

    pub list_next_to : list_of x t ≡ Some (ops_of (a.preceding ++ s.here ∷ op_list a.rest))
    list_next_to = ap (λ y. list_of y t) (sym id_it) ∙ list_there t d s.here a q there_it

    pub parent_next_to : parent_of x t ≡ Some (head a.parent).id
    parent_next_to = ap (λ y. parent_of y t) (sym id_it) ∙ parent_there t d s.here a q there_it

    pub next_next_to : next_of x t ≡ first_id a.rest
    next_next_to = ap (λ y. next_of y t) (sym id_it) ∙ next_there t d s.here a q there_it

    pub prev_next_to : prev_of x t ≡ last_id (ops_of a.preceding)
    prev_next_to = ap (λ y. prev_of y t) (sym id_it) ∙ prev_there t d s.here a q there_it

    pub before_next_to : (y : ℕ) → is_before y x t ≡ list_any (λ f. eqb (head f).id y) a.preceding
    before_next_to y = ap (λ z. is_before y z t) (sym id_it) ∙ before_there t d s.here a q there_it y
