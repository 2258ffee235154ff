-- The position of an operation in a tree, and the operations of one of its blocks.
use Rattle.std.proofs.Common.{◌≡◌, refl, ap, sym, ◌∙◌, ℕ, zero, suc, ◌≤◌, false, true≢false, eqb, eq-eqb, List, [], ◌∷◌, ◌++◌, length, map, append_assoc, append-nil, Some, arith}
use Rattle.ir_event.specs.trees.Tree.{OpOf, RegionsOf, no_regions, region, RegionOf, block, OpsOf, no_ops, next, head, regions}
use Rattle.ir_event.specs.trees.Ids.{ids, regions_ids, region_ids, ops_ids, HasDistinctIds, find}
use Rattle.ir_event.specs.tree_laws.Stands.{OpWithPathOf, op_with_path_id}
use Rattle.ir_event.specs.tree_laws.Values.{region_at}
use Rattle.ir_event.proofs.of_tree_laws.Readings.{step}
use Rattle.ir_event.proofs.of_tree_laws.Members.{stand, joined_ops, ops_child, stand_found}
use Rattle.ir_event.proofs.of_tree_laws.Put.{child}
use Rattle.ir_event.proofs.of_tree_laws.Shift.{Inner, inner_of, own_distinct}
use Rattle.ir_event.proofs.of_tree_laws.Stretches.{Parted, part, parted_ids}
use Rattle.greedy.proofs.Nearby.{Wide, widths, Hold, Near}
use Rattle.ir_event.proofs.of_tree_laws.Values.{joined_more}
use Rattle.ir_event.proofs.of_trees.Facts.{ids_head}

module _ {N T A : Type 0} where
  -- the ids before and after an operation
  pub record Between (x : ℕ) (t o : OpOf N T A) : Type 0 where
    pub preceding : List ℕ
    pub back : List ℕ
    pub is : ids t ≡ preceding ++ (ids o ++ back)
    pub extra : 1 ≤ length preceding

  pub intermediate : (x : ℕ) (t o : OpOf N T A) → HasDistinctIds t → find x t ≡ Some o → eqb (head t).id x ≡ false → Between x t o
  intermediate x t o d e root = record { preceding = us; back = vs; is = cut; extra = some us refl }
    where
      i : Inner x t o
      i = inner_of x t o e root

      w : Parted (head o).id (i.step_in ∷ i.path) o t
      w = part t d o i.step_in i.path i.there

      us : List ℕ
      us = map (λ (z : OpWithPathOf N T A). op_with_path_id z) w.preceding

      vs : List ℕ
      vs = map (λ (z : OpWithPathOf N T A). op_with_path_id z) w.back

      cut : ids t ≡ us ++ (ids o ++ vs)
      cut = parted_ids (head o).id (i.step_in ∷ i.path) o t w

      some : (l : List ℕ) → us ≡ l → 1 ≤ length us
      some [] k = absurd (
          let whole : (head t).id ∷ regions_ids (regions t) ≡ (head o).id ∷ (regions_ids (regions o) ++ vs) = sym (ids_head t) ∙ cut ∙ ap (λ l. l ++ (ids o ++ vs)) k ∙ ap (λ l. l ++ vs) (ids_head o) in
          let same : (head t).id ≡ (head o).id = cc in
          true≢false (sym (eq-eqb (head t).id x (same ∙ i.id)) ∙ root))
      some (y ∷ ys) k = let n = ap length k in omega (arith, n)

  -- without operations inside it
  pub start : (x : ℕ) (t o : OpOf N T A) → HasDistinctIds t → find x t ≡ Some o → (head o).id ≡ x → (b : Between x t o) → Near x b.preceding b.back [] (regions_ids (regions o)) [] t
  start x t o d e id b = record { distinct = d; at = o; found = e; is = b.is; own = ids_head o ∙ ap (λ y. y ∷ regions_ids (regions o)) id; hold = tt; extra = b.extra }

  -- ---- the operations of a block without the last
  abbrev pub wide : OpOf N T A → OpsOf N T A → Wide
  wide o no_ops = []
  wide o (next p os) = ((head o).id, ids o) ∷ wide p os

  -- and the last one
  abbrev pub final : OpOf N T A → OpsOf N T A → OpOf N T A
  final o no_ops = o
  final o (next p os) = final p os

  list_ids : (o : OpOf N T A) (os : OpsOf N T A) → ops_ids (next o os) ≡ widths (wide o os) ++ ids (final o os)
  list_ids o no_ops = append-nil (ids o)
  list_ids o (next p os) = ap (λ l. ids o ++ l) (list_ids p os) ∙ sym (append_assoc (ids o) (widths (wide p os)) (ids (final p os)))

  abbrev Around : RegionOf N T A → RegionsOf N T A → Type 0
  Around g rs = (inner : List ℕ) × (outer : List ℕ) × (regions_ids rs ≡ inner ++ (region_ids g ++ outer))

  around_region : (r : ℕ) (g : RegionOf N T A) (rs : RegionsOf N T A) → region_at r rs ≡ Some g → Around g rs
  around_region zero g no_regions e = absurd cc
  around_region (suc r) g no_regions e = absurd cc
  around_region zero g (region h rs) e = let same : h ≡ g = cc in ([], regions_ids rs, ap (λ z. region_ids z ++ regions_ids rs) same)
  around_region (suc r) g (region h rs) e =
      let w = around_region r g rs e in
      (region_ids h ++ w.0, w.1, ap (λ l. region_ids h ++ l) w.2 ∙ sym (append_assoc (region_ids h) w.0 (region_ids g ++ w.1)))

  module _ (p : OpOf N T A) (d : HasDistinctIds p) (r : ℕ) (args : List T) where
    holds : (fs : List (OpOf N T A)) (o : OpOf N T A) (os : OpsOf N T A) → region_at r (regions p) ≡ Some (block args (joined_ops fs (next o os))) → Hold p (wide o os)
    holds fs o no_ops e = tt
    holds fs o (next q os) e = (
      (o, stand_found p d (stand o (step p r args fs (next q os) ∷ [])) (child p [] r args (joined_ops fs (next o (next q os))) (stand o (step p r args fs (next q os) ∷ [])) e (ops_child p [] r args [] fs o (next q os))), refl),
      holds (fs ++ o ∷ []) q os (e ∙ ap (λ z. Some (block args z)) (sym (joined_more fs o (next q os)))),
    )

  -- x with the operations of one of its blocks, without the last
  pub record Opened (x : ℕ) (t p : OpOf N T A) (ys : Wide) : Type 0 where
    pub preceding : List ℕ
    pub back : List ℕ
    pub inner : List ℕ
    pub outer : List ℕ
    pub is : ids t ≡ preceding ++ ((x ∷ (inner ++ (widths ys ++ outer))) ++ back)
    pub own : ids p ≡ x ∷ (inner ++ (widths ys ++ outer))
    pub near : Near x preceding back inner outer ys t

  pub opened : (x : ℕ) (t p : OpOf N T A) → HasDistinctIds t → find x t ≡ Some p → (head p).id ≡ x → eqb (head t).id x ≡ false → (r : ℕ) (args : List T) (o : OpOf N T A) (os : OpsOf N T A) → region_at r (regions p) ≡ Some (block args (next o os)) → Opened x t p (wide o os)
  opened x t p d e id root r args o os g = record {
    preceding = b.preceding;
    back = b.back;
    inner = w.0;
    outer = ids (final o os) ++ w.1;
    is = b.is ∙ ap (λ l. b.preceding ++ (l ++ b.back)) mine;
    own = mine;
    near = record { distinct = d; at = p; found = e; is = b.is; own = mine; hold = holds p (own_distinct x t p d e) r args [] o os g; extra = b.extra };
  }
    where
      b : Between x t p
      b = intermediate x t p d e root

      w : (inner : List ℕ) × (outer : List ℕ) × (regions_ids (regions p) ≡ inner ++ (region_ids (block args (next o os)) ++ outer))
      w = around_region r (block args (next o os)) (regions p) g

      mine : ids p ≡ x ∷ (w.0 ++ (widths (wide o os) ++ (ids (final o os) ++ w.1)))
      mine = ids_head p ∙ (λ i. id i ∷ w.2 i) ∙ ap (λ l. x ∷ (w.0 ++ l)) (ap (λ l. l ++ w.1) (list_ids o os) ∙ append_assoc (widths (wide o os)) (ids (final o os)) w.1)
