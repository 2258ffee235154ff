-- Operations of a block of one operation move into a block of an earlier operation: their users, and the operations
-- that their values don't dominate.
use Rattle.std.proofs.Common.{◌≡◌, refl, ap, sym, ◌∙◌, subst, ℕ, ◌+◌, ◌<◌, ◌≤◌, Bool, true, false, true≢false, not, ◌&&◌, ◌||◌, eqb, eq-eqb, eqb-true, List, [], ◌∷◌, ◌++◌, length, map, Option, Some, None, option_map, inl, inr, ◌⊎◌, arith, append-nil, append_assoc}
use Rattle.std.specs.List.{list_any}
use Rattle.std.specs.Prelude.{nat_lt}
use Rattle.ir_event.specs.trees.declared.value.Value.{Value}
use Rattle.ir_event.specs.trees.declared.value.Value.TheVariants.{Result, Arg}
use Rattle.ir_event.specs.trees.declared.place.Place.{Place}
use Rattle.ir_event.specs.trees.Tree.{HeadOf, OpOf, op, block, OpsOf, no_ops, next, head, regions}
use Rattle.ir_event.specs.trees.Ids.{HasDistinctIds, find, has_id}
use Rattle.ir_event.specs.trees.Frames.{owner_of}
use Rattle.ir_event.specs.trees.Sites.{arguments, shows, results_of, visible}
use Rattle.ir_event.specs.tree_laws.Stands.{StepOf, OpWithPathOf, gone_in, op_with_path_id, stands, dominated_by}
use Rattle.ir_event.specs.tree_laws.Members.{In}
use Rattle.ir_event.specs.tree_laws.Values.{region_at}
use Rattle.ir_event.proofs.of_tree_laws.Listed.{bool_cases, both, either, in_right, one_any, or_left, or_right}
use Rattle.ir_event.proofs.of_tree_laws.Readings.{step}
use Rattle.ir_event.proofs.of_tree_laws.Members.{HasAround, has_around, itself, joined_ops, ops_child, same_stand, stand, stand_found, within}
use Rattle.ir_event.proofs.of_tree_laws.Around.{around_there, gone_within, present_stand, stand_present}
use Rattle.ir_event.proofs.of_tree_laws.Put.{child}
use Rattle.ir_event.proofs.of_tree_laws.DominatedBy.{visible_there}
use Rattle.ir_event.proofs.of_tree_laws.Values.{shaped_as}
use Rattle.patterns_base.proofs.Preceding.{cut_at, stands_before, joined_cut}
use Rattle.patterns_base.proofs.Inner.{seen_outside}
use Rattle.patterns_base.proofs.Moved.{deeper}
use Rattle.patterns_base.proofs.Placed.{Following, before_it}
use Rattle.patterns_soundness.proofs.Ordered.{Before, Inside}
use Rattle.ir_event.proofs.Facts.{own_id}

pub cancelled : {X : Type 0} (us xs ys : List X) → us ++ xs ≡ us ++ ys → xs ≡ ys
cancelled [] xs ys e = e
cancelled (u ∷ us) xs ys e = cancelled us xs ys cc

module _ {N T A : Type 0} where
  -- an operation inside another, at the same depth, is that operation
  pub own_depth : (p : List (StepOf N T A)) (o : OpOf N T A) (u : OpWithPathOf N T A) → In u (stands p o) → length u.path ≡ length p → u ≡ stand o p
  own_depth p o u h e = elim (has_around p o u h) [
    | inl k ↦ k
    | inr w ↦ (let l = deeper p o (stand w.0.parent w.1) w.4 in let f = ap length w.2 in absurd (omega (arith, l, f, e)))
  ]

  -- lists
  pub listed : OpsOf N T A → List (OpOf N T A)
  listed no_ops = []
  listed (next q os) = q ∷ listed os

  pub listed_joined : (fs : List (OpOf N T A)) (os : OpsOf N T A) → listed (joined_ops fs os) ≡ fs ++ listed os
  unfolding listed
  listed_joined [] os = refl
  listed_joined (f ∷ fs) os = ap (λ z. f ∷ z) (listed_joined fs os)

  pub listed_all : (fs : List (OpOf N T A)) → listed (joined_ops fs no_ops) ≡ fs
  unfolding listed
  listed_all fs = listed_joined fs no_ops ∙ append-nil fs

  listed_next : (fs : List (OpOf N T A)) (w : OpOf N T A) (os : OpsOf N T A) → listed (joined_ops fs (next w os)) ≡ fs ++ w ∷ listed os
  unfolding listed
  listed_next fs w os = listed_joined fs (next w os)

  none_shows : (x r k : ℕ) (fs : List (OpOf N T A)) → list_any (λ f. shows (Arg x r k) (results_of f)) fs ≡ false
  none_shows x r k [] = refl
  none_shows x r k (f ∷ fs) = none_shows x r k fs

  -- an operation of a tree
  module _ (t : OpOf N T A) (d : HasDistinctIds t) where
    -- a later operation of a block isn't inside an earlier one
    pub later_outside : (a b : ℕ) → Before a b t → (o : OpOf N T A) → find a t ≡ Some o → has_id b o ≡ false
    later_outside a b e o found = elim (bool_cases (has_id b o)) [
      | inr k ↦ k
      | inl k ↦ (let g = stands_before t e.here e.first e.step_in e.path e.there e.among in
          let one : Some e.first ≡ Some o = sym (ap (λ i. find i t) (sym e.is) ∙ stand_found t d (stand e.first (g.step_in ∷ e.path)) g.there) ∙ found in
          let is : e.first ≡ o = cc in
          let u = present_stand (g.step_in ∷ e.path) e.first b (ap (has_id b) is ∙ k) in
          let same = same_stand t d u.0 (stand e.here (e.step_in ∷ e.path)) (within e.first (g.step_in ∷ e.path) u.0 u.1 [] t g.there) e.there (u.2 ∙ sym e.id) in
          let deep = own_depth (g.step_in ∷ e.path) e.first u.0 u.1 (ap (λ (z : OpWithPathOf N T A). length z.path) same) in
          let paths : g.step_in ∷ e.path ≡ e.step_in ∷ e.path = ap (λ (z : OpWithPathOf N T A). z.path) (sym deep ∙ same) in
          let steps : g.step_in ≡ e.step_in = cc in
          let l = ap (λ (s : StepOf N T A). length s.preceding) steps in
          let n = ap length g.preceding in
          let m = long g.step_in.preceding e.first g.intermediate in
          absurd (omega (arith, l, n, m)))
    ]
      where
        long : (us : List (OpOf N T A)) (f : OpOf N T A) (vs : List (OpOf N T A)) → length us < length (us ++ f ∷ vs)
        long [] f vs = omega arith
        long (u ∷ us) f vs = (let k = long us f vs in omega (arith, k))

    -- the position of operation z
    module _ (z : OpOf N T A) (zp : List (StepOf N T A)) (there : In (stand z zp) (stands [] t)) where
      pub child_within : (o : OpOf N T A) (a : StepOf N T A) (q : List (StepOf N T A)) → In (stand o (a ∷ q)) (stands [] t) → has_id (head a.parent).id z ≡ true → has_id (head o).id z ≡ true
      child_within o a q h e =
          let w = around_there t o a q h in
          let u = present_stand zp z (head a.parent).id e in
          let same = same_stand t d u.0 (stand a.parent q) (within z zp u.0 u.1 [] t there) w.1 u.2 in
          stand_present zp z (stand o (a ∷ q)) (within a.parent q (stand o (a ∷ q)) w.0 zp z (subst (λ (k : OpWithPathOf N T A). In k (stands zp z)) same u.1))

      -- an operation dominated by an argument of z is inside z
      pub argument_within : (isolated : N → Bool) (o : OpOf N T A) (p : List (StepOf N T A)) → In (stand o p) (stands [] t) → (r k : ℕ) → dominated_by isolated p (Arg (head z).id r k) ≡ true → has_id (head o).id z ≡ true
      argument_within isolated o [] h r k e = absurd (true≢false (sym e))
      argument_within isolated o (a ∷ q) h r k e = elim (either (list_any (λ f. shows (Arg (head z).id r k) (results_of f)) a.preceding) _ e) [
        | inl m ↦ absurd (true≢false (sym m ∙ none_shows (head z).id r k a.preceding))
        | inr m ↦ elim (either (shows (Arg (head z).id r k) (arguments (head a.parent).id a.region (length a.args))) _ m) [
          | inl l ↦ (let id = eqb-true (head z).id (head a.parent).id (both (eqb (head z).id (head a.parent).id) _ l).0 in
              child_within o a q h (ap (λ i. has_id i z) (sym id) ∙ own_id z))
          | inr l ↦ child_within o a q h (argument_within isolated a.parent q (around_there t o a q h).1 r k (both (not (isolated (head a.parent).name)) (dominated_by isolated q (Arg (head z).id r k)) l).1)
        ]
      ]

    -- the operations of a block
    module _ (xo : OpOf N T A) (xp : List (StepOf N T A)) (up : In (stand xo xp) (stands [] t)) (r : ℕ) (args : List T) (all : List (OpOf N T A)) (is : region_at r (regions xo) ≡ Some (block args (joined_ops all no_ops))) where
      pub one_stands : (us vs : List (OpOf N T A)) (o : OpOf N T A) → all ≡ us ++ o ∷ vs → In (stand o (step xo r args us (joined_ops vs no_ops) ∷ xp)) (stands [] t)
      one_stands us vs o e =
          let place = step xo r args us (joined_ops vs no_ops) in
          within xo xp (stand o (place ∷ xp)) (child xo xp r args (joined_ops us (next o (joined_ops vs no_ops))) (stand o (place ∷ xp)) (is ∙ ap (λ l. Some (block args l)) (ap (λ l. joined_ops l no_ops) e ∙ joined_cut us vs o no_ops)) (ops_child xo xp r args [] us o (joined_ops vs no_ops))) [] t up

      -- an operation dominated by a result of one of them comes after it, or is inside a later one
      pub users_after : (isolated : N → Bool) (us vs : List (OpOf N T A)) (z : OpOf N T A) → all ≡ us ++ z ∷ vs → (w : OpOf N T A) (p : List (StepOf N T A)) → In (stand w p) (stands [] t) → (k : ℕ) → dominated_by isolated p (Result (head z).id k) ≡ true
          → (o : OpOf N T A) × In o vs × (has_id (head w).id o ≡ true)
      users_after isolated us vs z parts w [] h k e = absurd (true≢false (sym e))
      users_after isolated us vs z parts w (a ∷ q) h k e = elim (either (list_any (λ f. shows (Result (head z).id k) (results_of f)) a.preceding) _ e) [
        | inl m ↦ (let f = one_any (λ f. shows (Result (head z).id k) (results_of f)) a.preceding m in
            let g = stands_before t w f.0 a q h f.1 in
            let id = eqb-true (head z).id (head f.0).id (both (eqb (head z).id (head f.0).id) _ f.2).0 in
            let same = same_stand t d (stand f.0 (g.step_in ∷ q)) (stand z (step xo r args us (joined_ops vs no_ops) ∷ xp)) g.there (one_stands us vs z parts) (sym id) in
            let paths : g.step_in ∷ q ≡ step xo r args us (joined_ops vs no_ops) ∷ xp = ap (λ (s : OpWithPathOf N T A). s.path) same in
            let steps : g.step_in ≡ step xo r args us (joined_ops vs no_ops) = cc in
            let its : a.preceding ≡ us ++ z ∷ g.intermediate = g.preceding ∙ (λ i. (steps i).preceding ++ (same i).here ∷ g.intermediate) in
            let blocks : Some (block a.args (joined_ops a.preceding (next w a.rest))) ≡ Some (block args (joined_ops all no_ops)) =
            sym (shaped_as t w a q h) ∙ (λ i. region_at ((sym g.region ∙ ap (λ (s : StepOf N T A). s.region) steps) i) (regions ((sym g.parent ∙ ap (λ (s : StepOf N T A). s.parent) steps) i))) ∙ is in
            let lists : joined_ops a.preceding (next w a.rest) ≡ joined_ops all no_ops = cc in
            let whole : us ++ (z ∷ g.intermediate ++ w ∷ listed a.rest) ≡ us ++ z ∷ vs =
            sym (append_assoc us (z ∷ g.intermediate) (w ∷ listed a.rest)) ∙ ap (λ l. l ++ w ∷ listed a.rest) (sym its) ∙ sym (listed_next a.preceding w a.rest) ∙ ap listed lists ∙ listed_all all ∙ parts in
            let rest : z ∷ g.intermediate ++ w ∷ listed a.rest ≡ z ∷ vs = cancelled us (z ∷ g.intermediate ++ w ∷ listed a.rest) (z ∷ vs) whole in
            let trailing : g.intermediate ++ w ∷ listed a.rest ≡ vs = cc in
            (w, subst (In w) trailing (in_right w g.intermediate (w ∷ listed a.rest) (inl refl)), own_id w))
        | inr m ↦ (let b = both (not (isolated (head a.parent).name)) (dominated_by isolated q (Result (head z).id k)) m in
            let r = users_after isolated us vs z parts a.parent q (around_there t w a q h).1 k b.1 in
            let c = cut_at r.0 vs r.1 in
            let of = one_stands (us ++ z ∷ c.0) c.1 r.0 (parts ∙ ap (λ l. us ++ z ∷ l) c.2 ∙ sym (append_assoc us (z ∷ c.0) (r.0 ∷ c.1))) in
            (r.0, r.1, child_within r.0 _ of w a q h r.2))
      ]

    -- a user of an argument of the block is in the block, or inside an operation of the block
    module _ (xo : OpOf N T A) (xp : List (StepOf N T A)) (up : In (stand xo xp) (stands [] t)) (r : ℕ) (args : List T) (all : List (OpOf N T A)) (is : region_at r (regions xo) ≡ Some (block args (joined_ops all no_ops))) where
      pub argument_users : (isolated : N → Bool) (w : OpOf N T A) (p : List (StepOf N T A)) → In (stand w p) (stands [] t) → (k : ℕ) → dominated_by isolated p (Arg (head xo).id r k) ≡ true → (o : OpOf N T A) × In o all × (has_id (head w).id o ≡ true)
      argument_users isolated w [] h k e = absurd (true≢false (sym e))
      argument_users isolated w (a ∷ q) h k e = elim (either (list_any (λ f. shows (Arg (head xo).id r k) (results_of f)) a.preceding) _ e) [
        | inl m ↦ absurd (true≢false (sym m ∙ none_shows (head xo).id r k a.preceding))
        | inr m ↦ elim (either (shows (Arg (head xo).id r k) (arguments (head a.parent).id a.region (length a.args))) _ m) [
          | inl l ↦ (let c = both (eqb (head xo).id (head a.parent).id) (eqb r a.region && nat_lt k (length a.args)) l in
              let id = eqb-true (head xo).id (head a.parent).id c.0 in
              let re = eqb-true r a.region (both (eqb r a.region) _ c.1).0 in
              let same = same_stand t d (stand xo xp) (stand a.parent q) up (around_there t w a q h).1 id in
              let blocks : Some (block a.args (joined_ops a.preceding (next w a.rest))) ≡ Some (block args (joined_ops all no_ops)) = sym (shaped_as t w a q h) ∙ (λ i. region_at (sym re i) (regions (sym same i).here)) ∙ is in
              let lists : joined_ops a.preceding (next w a.rest) ≡ joined_ops all no_ops = cc in
              let whole : a.preceding ++ w ∷ listed a.rest ≡ all = sym (listed_next a.preceding w a.rest) ∙ ap listed lists ∙ listed_all all in
              (w, subst (In w) whole (in_right w a.preceding (w ∷ listed a.rest) (inl refl)), own_id w))
          | inr l ↦ (let b = both (not (isolated (head a.parent).name)) (dominated_by isolated q (Arg (head xo).id r k)) l in
              let u = argument_users isolated a.parent q (around_there t w a q h).1 k b.1 in
              let c = cut_at u.0 all u.1 in
              let of = one_stands xo xp up r args all is c.0 c.1 u.0 c.2 in
              (u.0, u.1, child_within u.0 _ of w a q h u.2))
        ]
      ]

  -- places before an operation
  pub after_inside : (x : ℕ) (preceding : Place) (t : OpOf N T A) → Following x preceding t → Inside preceding.parent preceding.region x t
  after_inside x preceding t s = record { here = s.here; step_in = s.step_in; path = s.path; there = s.there; id = s.id; parent = ap (λ (p : Place). p.parent) (sym s.place); region = ap (λ (p : Place). p.region) (sym s.place) }

  pub inside_after : (x : ℕ) (preceding : Place) (t : OpOf N T A) → preceding.before ≡ Some x → Inside preceding.parent preceding.region x t → Following x preceding t
  inside_after x preceding t e s = record { here = s.here; step_in = s.step_in; path = s.path; there = s.there; id = s.id; place = λ i. record { parent = sym s.parent i; region = sym s.region i; before = e i } }

  pub before_is : (x : ℕ) (preceding : Place) (t : OpOf N T A) → Following x preceding t → preceding.before ≡ Some x
  before_is x preceding t s = ap (λ (p : Place). p.before) s.place

  -- an earlier operation comes after a place in the same block
  pub sibling_inside : (t : OpOf N T A) → HasDistinctIds t → (p r a b : ℕ) → Inside p r b t → Before a b t → Inside p r a t
  sibling_inside t d p r a b s e =
      let g = stands_before t e.here e.first e.step_in e.path e.there e.among in
      let same = same_stand t d (stand s.here (s.step_in ∷ s.path)) (stand e.here (e.step_in ∷ e.path)) s.there e.there (s.id ∙ sym e.id) in
      let paths : s.step_in ∷ s.path ≡ e.step_in ∷ e.path = ap (λ (z : OpWithPathOf N T A). z.path) same in
      let steps : s.step_in ≡ e.step_in = cc in
      record {
        here = e.first;
        step_in = g.step_in;
        path = e.path;
        there = g.there;
        id = e.is;
        parent = ap (λ (z : OpOf N T A). (head z).id) (g.parent ∙ ap (λ (z : StepOf N T A). z.parent) (sym steps)) ∙ s.parent;
        region = g.region ∙ ap (λ (z : StepOf N T A). z.region) (sym steps) ∙ s.region;
      }

  -- an operation in a block isn't the root
  pub not_root : (t : OpOf N T A) → HasDistinctIds t → (o : OpOf N T A) (a : StepOf N T A) (q : List (StepOf N T A)) → In (stand o (a ∷ q)) (stands [] t) → eqb (head t).id (head o).id ≡ false
  not_root t d o a q h = elim (bool_cases (eqb (head t).id (head o).id)) [
    | inr k ↦ k
    | inl k ↦ (let same = same_stand t d (stand t []) (stand o (a ∷ q)) (itself [] t) h (eqb-true (head t).id (head o).id k) in
        let bad : [] ≡ a ∷ q = ap (λ (z : OpWithPathOf N T A). z.path) same in
        absurd cc)
  ]

  -- an operation isn't the parent of its own block
  pub not_parent : (x : ℕ) (preceding : Place) (t : OpOf N T A) → HasDistinctIds t → Following x preceding t → eqb x preceding.parent ≡ false
  not_parent x preceding t d s = elim (bool_cases (eqb x preceding.parent)) [
    | inr k ↦ k
    | inl k ↦ (let same = same_stand t d (stand s.here (s.step_in ∷ s.path)) (stand s.step_in.parent s.path) s.there (around_there t s.here s.step_in s.path s.there).1 (s.id ∙ eqb-true x preceding.parent k ∙ ap (λ (p : Place). p.parent) s.place) in
        let l = ap (λ (z : OpWithPathOf N T A). length z.path) same in
        absurd (omega (arith, l)))
  ]

  -- taking out an operation takes out the operations inside it
  pub outside_stays : (t : OpOf N T A) → HasDistinctIds t → (p : ℕ) (o : OpOf N T A) → find p t ≡ Some o → (b : OpOf N T A) (path : List (StepOf N T A)) → In (stand b path) (stands [] t) → has_id (head b).id o ≡ false → gone_in p b path ≡ false
  outside_stays t d p o found b path h out = elim (bool_cases (gone_in p b path)) [
    | inr k ↦ k
    | inl k ↦ (let w = gone_within p t path b h k in
        let one : Some w.here ≡ Some o = sym (ap (λ i. find i t) (sym w.id) ∙ stand_found t d (stand w.here (w.step_in ∷ w.path)) w.there) ∙ found in
        let is : w.here ≡ o = cc in
        absurd (true≢false (sym (ap (has_id (head b).id) (sym is) ∙ stand_present (w.step_in ∷ w.path) w.here (stand b path) w.inner) ∙ out)))
  ]

  -- a value defined in a block of y doesn't dominate an operation after y
  pub inner_unseen : (isolated : N → Bool) (t : OpOf N T A) → HasDistinctIds t → (y r x z : ℕ) → Before y x t → Inside y r z t → (v : Value) → (owner_of v).0 ≡ z → eqb (owner_of v).0 y ≡ false → visible isolated t x v ≡ true → ⊥
  inner_unseen isolated t d y r x z e i v own other seen =
      let g = stands_before t e.here e.first e.step_in e.path e.there e.among in
      let found : find y t ≡ Some e.first = ap (λ k. find k t) (sym e.is) ∙ stand_found t d (stand e.first (g.step_in ∷ e.path)) g.there in
      let root : eqb (head t).id y ≡ false = ap (eqb (head t).id) (sym e.is) ∙ not_root t d e.first g.step_in e.path g.there in
      let out : has_id (head e.here).id e.first ≡ false = ap (λ k. has_id k e.first) e.id ∙ later_outside t d y x e e.first found in
      let dominance : dominated_by isolated (e.step_in ∷ e.path) v ≡ true = sym (visible_there isolated t d (stand e.here (e.step_in ∷ e.path)) e.there v) ∙ ap (λ k. visible isolated t k v) e.id ∙ seen in
      let up = (around_there t i.here i.step_in i.path i.there).1 in
      let r = seen_outside isolated y t d root e.here (e.step_in ∷ e.path) e.there (outside_stays t d y e.first found e.here (e.step_in ∷ e.path) e.there out) v dominance (stand i.here (i.step_in ∷ i.path)) i.there (own ∙ sym i.id)
      (or_right (eqb (head i.here).id y) _ (gone i.step_in.parent i.path up i.parent root)) in
      true≢false (sym (eq-eqb (owner_of v).0 y (ap (λ (k : Value). (owner_of k).0) r.1)) ∙ other)
    where
      gone : (p : OpOf N T A) (q : List (StepOf N T A)) → In (stand p q) (stands [] t) → (head p).id ≡ y → eqb (head t).id y ≡ false → gone_in y p q ≡ true
      gone p [] h e root =
          (let same : stand p [] ≡ stand t [] = at_top (has_around [] t (stand p []) h) in
          absurd (true≢false (sym (eq-eqb (head t).id y (ap (λ (k : OpWithPathOf N T A). op_with_path_id k) (sym same) ∙ e)) ∙ root)))
        where
          at_top : (stand p [] ≡ stand t []) ⊎ HasAround (stand p []) (stands [] t) → stand p [] ≡ stand t []
          at_top (inl k) = k
          at_top (inr w) = (let bad : [] ≡ w.0 ∷ w.1 = w.2 in absurd cc)
      gone p (a ∷ q) h e root = or_left (eqb (head p).id y) _ (eq-eqb (head p).id y e)
