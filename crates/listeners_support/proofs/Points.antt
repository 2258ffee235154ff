-- The operations after, before and around an operation, by the reading calls.
use Rattle.std.proofs.Common.{◌≡◌, refl, ap, sym, ◌∙◌, ℕ, ◌+◌, false, List, [], ◌∷◌, ◌++◌, Some, inl, inr, ◌⊎◌}
use Rattle.std.specs.Prelude.{option_and_then}
use Rattle.ir_event.specs.trees.declared.place.Place.{Place}
use Rattle.ir_event.specs.trees.Tree.{OpOf, op, RegionsOf, no_regions, region, RegionOf, empty, block, OpsOf, no_ops, next, head, regions, ops_of}
use Rattle.ir_event.specs.trees.Ids.{HasDistinctIds, first_of}
use Rattle.ir_event.specs.trees.Places.{first_id, place_of}
use Rattle.ir_event.specs.tree_laws.Values.{region_at}
use Rattle.ir_event.specs.tree_laws.Reads.{last_id, ops_in, last_at, prev_of, is_among}
use Rattle.ir_event.specs.tree_laws.Stands.{StepOf, OpWithPathOf, stands, regions_stands, region_stands, ops_stands}
use Rattle.ir_event.specs.tree_laws.Members.{In}
use Rattle.ir_event.proofs.of_tree_laws.Listed.{bool_cases, in_left, in_right, in_parts}
use Rattle.ir_event.proofs.of_tree_laws.Readings.{step}
use Rattle.ir_event.proofs.of_tree_laws.Members.{stand, itself, within, joined_ops, ops_child, stand_found}
use Rattle.ir_event.proofs.of_tree_laws.Around.{around_there, place_of_member}
use Rattle.ir_event.proofs.of_tree_laws.Put.{child}
use Rattle.ir_event.proofs.of_tree_laws.Values.{shaped_as}
use Rattle.ir_event.proofs.of_tree_laws.Neighbours.{prev_there}
use Rattle.ir_event.proofs.of_tree_laws.Reverted.{among_split}
use Rattle.listeners_support.specs.Surroundings.{outer_of}
use Rattle.ir_event.proofs.Facts.{joined_more}

module _ {N T A : Type 0} where
  -- the last of a list
  pub last_joined : (preceding : List (OpOf N T A)) (o : OpOf N T A) → last_id (joined_ops preceding (next o no_ops)) ≡ Some (head o).id
  last_joined [] o = refl
  last_joined (f ∷ fs) o = ap (λ l. first_of l (Some (head f).id)) (last_joined fs o)

  last_snoc : (preceding : List (OpOf N T A)) (o : OpOf N T A) → last_id (ops_of (preceding ++ o ∷ [])) ≡ Some (head o).id
  last_snoc [] o = refl
  last_snoc (f ∷ fs) o = ap (λ l. first_of l (Some (head f).id)) (last_snoc fs o)

  -- an operation of a block of an operation in the tree
  pub stands_in : (t p : OpOf N T A) (path : List (StepOf N T A)) (r : ℕ) (args : List T) (preceding : List (OpOf N T A)) (o : OpOf N T A) (rest : OpsOf N T A)
      → In (stand p path) (stands [] t) → region_at r (regions p) ≡ Some (block args (joined_ops preceding (next o rest))) → In (stand o (step p r args preceding rest ∷ path)) (stands [] t)
  stands_in t p path r args preceding o rest h e =
      let s = stand o (step p r args preceding rest ∷ path) in
      within p path s (child p path r args (joined_ops preceding (next o rest)) s e (ops_child p path r args [] preceding o rest)) [] t h

  module _ (t : OpOf N T A) (d : HasDistinctIds t) where
    -- the operation after another one is in the tree
    pub next_in : (s : OpOf N T A) (a : StepOf N T A) (q : List (StepOf N T A)) (o : OpOf N T A) (rest : OpsOf N T A) → In (stand s (a ∷ q)) (stands [] t) → a.rest ≡ next o rest
        → In (stand o (step a.parent a.region a.args (a.preceding ++ s ∷ []) rest ∷ q)) (stands [] t)
    next_in s a q o rest h e =
        stands_in t a.parent q a.region a.args (a.preceding ++ s ∷ []) o rest (around_there t s a q h).1
        (shaped_as t s a q h ∙ ap (λ l. Some (block a.args l)) (ap (λ l. joined_ops a.preceding (next s l)) e ∙ joined_more a.preceding s (next o rest)))

    -- the operation before it is that one
    pub prev_is : (s : OpOf N T A) (a : StepOf N T A) (q : List (StepOf N T A)) (o : OpOf N T A) (rest : OpsOf N T A) → In (stand s (a ∷ q)) (stands [] t) → a.rest ≡ next o rest → prev_of (head o).id t ≡ Some (head s).id
    prev_is s a q o rest h e = prev_there t d o (step a.parent a.region a.args (a.preceding ++ s ∷ []) rest) q (next_in s a q o rest h e) ∙ last_snoc a.preceding s

    -- an operation without an operation after it is the last of its block
    pub last_is : (s : OpOf N T A) (a : StepOf N T A) (q : List (StepOf N T A)) → In (stand s (a ∷ q)) (stands [] t) → a.rest ≡ no_ops → last_at (head a.parent).id a.region t ≡ Some (head s).id
    last_is s a q h e =
        let found = stand_found t d (stand a.parent q) (around_there t s a q h).1 in
        ap (option_and_then last_id) (ap (option_and_then (λ o. option_and_then ops_in (region_at a.region (regions o)))) found ∙ ap (option_and_then ops_in) (shaped_as t s a q h))
        ∙ ap (λ l. last_id (joined_ops a.preceding (next s l))) e
        ∙ last_joined a.preceding s

    -- an operation with a known place is at that place
    pub placed_there : (x : ℕ) (place : Place) → place_of x t ≡ Some place → (o : OpOf N T A) (a : StepOf N T A) (q : List (StepOf N T A)) → In (stand o (a ∷ q)) (stands [] t) → (head o).id ≡ x
        → ((head a.parent).id ≡ place.parent) × (a.region ≡ place.region)
    placed_there x place e o a q h i =
        let two : Some (record { parent = (head a.parent).id; region = a.region; before = first_id a.rest }) ≡ Some place = sym (place_of_member t d o a q h) ∙ ap (λ y. place_of y t) i ∙ e in
        let one : record { parent = (head a.parent).id; region = a.region; before = first_id a.rest } ≡ place = cc in
        (ap (λ (z : Place). z.parent) one, ap (λ (z : Place). z.region) one)

    -- the blocks of operations other than its parent don't have it
    pub free_elsewhere : (x : ℕ) (place : Place) → place_of x t ≡ Some place → (p : OpOf N T A) (path : List (StepOf N T A)) → In (stand p path) (stands [] t) → ((head p).id ≡ place.parent → ⊥)
        → (r : ℕ) (args : List T) (os : OpsOf N T A) → region_at r (regions p) ≡ Some (block args os) → is_among x os ≡ false
    free_elsewhere x place e p path h apart r args os f = elim (bool_cases (is_among x os)) [
      | inr k ↦ k
      | inl k ↦ (let w = among_split x os k in
          let there = stands_in t p path r args w.0 w.1 w.2 h (f ∙ ap (λ l. Some (block args l)) w.3) in
          absurd (apart ((placed_there x place e w.1 (step p r args w.0 w.2) path there w.4).0)))
    ]

  -- an operation inside x keeps its path inside x, and its context
  abbrev pub Again : OpWithPathOf N T A → List (OpWithPathOf N T A) → Type 0
  Again s us = (u : OpWithPathOf N T A) × In u us × (u.here ≡ s.here) × (outer_of u.path ≡ outer_of s.path)

  more : (s : OpWithPathOf N T A) (us vs : List (OpWithPathOf N T A)) → ((z : OpWithPathOf N T A) → In z us → In z vs) → Again s us → Again s vs
  more s us vs f w = (w.0, f w.0 w.1, w.2, w.3)

  mutual
    pub again : (b c : List (StepOf N T A)) (t : OpOf N T A) (s : OpWithPathOf N T A) → In s (stands b t) → (s ≡ stand t b) ⊎ Again s (stands c t)
    again b c (op h rs) s (inl e) = inl e
    again b c (op h rs) s (inr k) = inr (more s (regions_stands (op h rs) c 0 rs) (stands c (op h rs)) (λ z m. inr m) (regions_again (op h rs) b c 0 rs s k))

    regions_again : (p : OpOf N T A) (b c : List (StepOf N T A)) (r : ℕ) (rs : RegionsOf N T A) (s : OpWithPathOf N T A) → In s (regions_stands p b r rs) → Again s (regions_stands p c r rs)
    regions_again p b c r no_regions s k = absurd k
    regions_again p b c r (region g rs) s k =
        let xs = region_stands p c r g in
        let ys = regions_stands p c (r + 1) rs in
        elim (in_parts s (region_stands p b r g) (regions_stands p b (r + 1) rs) k) [
          | inl l ↦ more s xs (xs ++ ys) (λ z m. in_left z xs ys m) (region_again p b c r g s l)
          | inr l ↦ more s ys (xs ++ ys) (λ z m. in_right z xs ys m) (regions_again p b c (r + 1) rs s l)
        ]

    region_again : (p : OpOf N T A) (b c : List (StepOf N T A)) (r : ℕ) (g : RegionOf N T A) (s : OpWithPathOf N T A) → In s (region_stands p b r g) → Again s (region_stands p c r g)
    region_again p b c r empty s k = absurd k
    region_again p b c r (block args os) s k = ops_again p b c r args [] os s k

    ops_again : (p : OpOf N T A) (b c : List (StepOf N T A)) (r : ℕ) (args : List T) (preceding : List (OpOf N T A)) (os : OpsOf N T A) (s : OpWithPathOf N T A) → In s (ops_stands p b r args preceding os) → Again s (ops_stands p c r args preceding os)
    ops_again p b c r args preceding no_ops s k = absurd k
    ops_again p b c r args preceding (next o os) s k =
        let a = step p r args preceding os in
        let xs = stands (a ∷ c) o in
        let ys = ops_stands p c r args (preceding ++ o ∷ []) os in
        elim (in_parts s (stands (a ∷ b) o) (ops_stands p b r args (preceding ++ o ∷ []) os) k) [
          | inl l ↦ elim (again (a ∷ b) (a ∷ c) o s l) [
            | inl e ↦ (stand o (a ∷ c), in_left (stand o (a ∷ c)) xs ys (itself (a ∷ c) o), ap (λ (z : OpWithPathOf N T A). z.here) (sym e), ap (λ (z : OpWithPathOf N T A). outer_of z.path) (sym e))
            | inr w ↦ more s xs (xs ++ ys) (λ z m. in_left z xs ys m) w
          ]
          | inr l ↦ more s ys (xs ++ ys) (λ z m. in_right z xs ys m) (ops_again p b c r args (preceding ++ o ∷ []) os s l)
        ]
