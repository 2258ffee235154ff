-- The operations after an operation in pre-order.
use Rattle.std.proofs.Common.{◌≡◌, refl, ap, sym, ◌∙◌, subst, ℕ, zero, suc, ◌+◌, Bool, true, false, true≢false, cond, ◌||◌, eqb, eq-eqb, eqb-true, List, [], ◌∷◌, ◌++◌, append-nil, append_assoc, inl, inr, arith}
use Rattle.std.specs.List.{list_any, IsDistinct}
use Rattle.std.proofs.lemmas.Map.Keys.{IsDistinct-tail}
use Rattle.ir_event.specs.trees.Tree.{OpOf, op, RegionsOf, no_regions, region, RegionOf, empty, block, OpsOf, no_ops, next, regions}
use Rattle.ir_event.specs.trees.Ids.{ids, regions_ids, region_ids, ops_ids, HasDistinctIds}
use Rattle.ir_event.proofs.of_trees.Returns.{absent_first}
use Rattle.ir_event.specs.tree_laws.Reads.{comes_after, precedes}
use Rattle.ir_event.specs.tree_laws.Stands.{StepOf, OpWithPathOf, op_with_path_id, stands, regions_stands, region_stands, ops_stands}
use Rattle.ir_event.specs.tree_laws.Members.{In}
use Rattle.ir_event.proofs.of_tree_laws.Listed.{bool_cases, either, in_parts}
use Rattle.ir_event.proofs.of_tree_laws.Readings.{step}
use Rattle.ir_event.proofs.of_trees.Facts.{ids_head}
use Rattle.std.proofs.lemmas.Bool.{or_right}

-- ---- lists

abbrev pub there : ℕ → List ℕ → Bool
there x xs = list_any (λ y. eqb y x) xs

pub there_left : (x : ℕ) (xs ys : List ℕ) → there x xs ≡ true → there x (xs ++ ys) ≡ true
there_left x [] ys h = absurd (true≢false (sym h))
there_left x (y ∷ xs) ys h = elim (either (eqb y x) (there x xs) h) [
  | inl e ↦ ap (λ b. b || there x (xs ++ ys)) e
  | inr e ↦ or_right (eqb y x) (there x (xs ++ ys)) (there_left x xs ys e)
]

pub there_right : (x : ℕ) (xs ys : List ℕ) → there x ys ≡ true → there x (xs ++ ys) ≡ true
there_right x [] ys h = h
there_right x (y ∷ xs) ys h = or_right (eqb y x) (there x (xs ++ ys)) (there_right x xs ys h)

pub first_once : (x b : ℕ) (xs : List ℕ) → IsDistinct eqb (x ∷ xs) → there b xs ≡ true → eqb x b ≡ true → ⊥
first_once x b xs d h e = true≢false (sym h ∙ subst (λ z. there z xs ≡ false) (eqb-true x b e) (absent_first x xs d))

-- an entry after the first x comes after x
after_cut : (a x : ℕ) (preceding back : List ℕ) → IsDistinct eqb (preceding ++ a ∷ back) → there x back ≡ true → comes_after a x (preceding ++ a ∷ back) ≡ true
after_cut a x [] back d h = ap (λ b. cond b (there x back) (comes_after a x back)) (eq-eqb a a refl) ∙ h
after_cut a x (y ∷ preceding) back d h = elim (bool_cases (eqb y a)) [
  | inl e ↦ absurd (first_once y a (preceding ++ a ∷ back) d (there_right a preceding (a ∷ back) (ap (λ b. b || there a back) (eq-eqb a a refl))) e)
  | inr e ↦ ap (λ b. cond b (there x (preceding ++ a ∷ back)) (comes_after a x (preceding ++ a ∷ back))) e ∙ after_cut a x preceding back (IsDistinct-tail eqb y (preceding ++ a ∷ back) d) h
]

-- ---- trees

module _ {N T A : Type 0} where
  -- the regions from an index on
  abbrev pub regions_from : ℕ → RegionsOf N T A → RegionsOf N T A
  regions_from zero rs = rs
  regions_from (suc r) no_regions = no_regions
  regions_from (suc r) (region g rs) = regions_from r rs

  -- the ids after all contents of an operation, by its path
  abbrev pub trailing : List (StepOf N T A) → List ℕ
  trailing [] = []
  trailing (a ∷ q) = ops_ids a.rest ++ (regions_ids (regions_from (a.region + 1) (regions a.parent)) ++ trailing q)

  from_more : (k : ℕ) (g : RegionOf N T A) (rs all : RegionsOf N T A) → regions_from k all ≡ region g rs → regions_from (k + 1) all ≡ rs
  from_more zero g rs (region h os) e = cc
  from_more zero g rs no_regions e = absurd cc
  from_more (suc k) g rs no_regions e = absurd cc
  from_more (suc k) g rs (region h os) e = let one : suc (k + 1) ≡ suc k + 1 = omega arith in subst (λ j. regions_from j (region h os) ≡ rs) one (from_more k g rs os e)

  -- the ids of a tree, split after the contents of an operation
  abbrev Cut : List ℕ → OpWithPathOf N T A → Type 0
  Cut all s = (preceding : List ℕ) × (all ≡ preceding ++ (ids s.here ++ trailing s.path))

  cut_more : (more xs : List ℕ) (s : OpWithPathOf N T A) → Cut xs s → Cut (more ++ xs) s
  cut_more more xs s c = (more ++ c.0, ap (λ l. more ++ l) c.1 ∙ sym (append_assoc more c.0 (ids s.here ++ trailing s.path)))

  mutual
    cut_op : (b : List (StepOf N T A)) (t : OpOf N T A) (s : OpWithPathOf N T A) → In s (stands b t) → Cut (ids t ++ trailing b) s
    cut_op b (op h rs) s (inl e) = ([], ap (λ (z : OpWithPathOf N T A). ids z.here ++ trailing z.path) (sym e))
    cut_op b (op h rs) s (inr k) = cut_more (h.id ∷ []) (regions_ids rs ++ trailing b) s (cut_regions (op h rs) b 0 rs s refl k)

    cut_regions : (p : OpOf N T A) (b : List (StepOf N T A)) (r : ℕ) (rs : RegionsOf N T A) (s : OpWithPathOf N T A) → regions_from r (regions p) ≡ rs → In s (regions_stands p b r rs) → Cut (regions_ids rs ++ trailing b) s
    cut_regions p b r no_regions s e k = absurd k
    cut_regions p b r (region g rs) s e k =
        let later = from_more r g rs (regions p) e in
        elim (in_parts s (region_stands p b r g) (regions_stands p b (r + 1) rs) k) [
          | inl l ↦ subst (λ xs. Cut xs s) (sym (append_assoc (region_ids g) (regions_ids rs) (trailing b)) ∙ refl)
              (subst (λ us. Cut (region_ids g ++ (regions_ids us ++ trailing b)) s) later (cut_region p b r g s l))
          | inr l ↦ subst (λ xs. Cut xs s) (sym (append_assoc (region_ids g) (regions_ids rs) (trailing b)))
              (cut_more (region_ids g) (regions_ids rs ++ trailing b) s (cut_regions p b (r + 1) rs s later l))
        ]

    cut_region : (p : OpOf N T A) (b : List (StepOf N T A)) (r : ℕ) (g : RegionOf N T A) (s : OpWithPathOf N T A) → In s (region_stands p b r g) → Cut (region_ids g ++ (regions_ids (regions_from (r + 1) (regions p)) ++ trailing b)) s
    cut_region p b r empty s k = absurd k
    cut_region p b r (block args os) s k = cut_ops p b r args [] os s k

    cut_ops : (p : OpOf N T A) (b : List (StepOf N T A)) (r : ℕ) (args : List T) (preceding : List (OpOf N T A)) (os : OpsOf N T A) (s : OpWithPathOf N T A) → In s (ops_stands p b r args preceding os) → Cut (ops_ids os ++ (regions_ids (regions_from (r + 1) (regions p)) ++ trailing b)) s
    cut_ops p b r args preceding no_ops s k = absurd k
    cut_ops p b r args preceding (next o os) s k =
        let a = step p r args preceding os in
        let end = regions_ids (regions_from (r + 1) (regions p)) ++ trailing b in
        elim (in_parts s (stands (a ∷ b) o) (ops_stands p b r args (preceding ++ o ∷ []) os) k) [
          | inl l ↦ subst (λ xs. Cut xs s) (sym (append_assoc (ids o) (ops_ids os) end)) (cut_op (a ∷ b) o s l)
          | inr l ↦ subst (λ xs. Cut xs s) (sym (append_assoc (ids o) (ops_ids os) end)) (cut_more (ids o) (ops_ids os ++ end) s (cut_ops p b r args (preceding ++ o ∷ []) os s l))
        ]

  module _ (t : OpOf N T A) (d : HasDistinctIds t) where
    -- operations inside or after an operation follow it in pre-order
    pub comes_later : (s : OpWithPathOf N T A) (x : ℕ) → In s (stands [] t) → there x (regions_ids (regions s.here) ++ trailing s.path) ≡ true → precedes (op_with_path_id s) x t ≡ true
    comes_later s x h k =
        let c = cut_op [] t s h in
        let is : ids t ≡ c.0 ++ (op_with_path_id s ∷ (regions_ids (regions s.here) ++ trailing s.path)) = sym (append-nil (ids t)) ∙ c.1 ∙ ap (λ l. c.0 ++ (l ++ trailing s.path)) (ids_head s.here) in
        ap (comes_after (op_with_path_id s) x) is ∙ after_cut (op_with_path_id s) x c.0 (regions_ids (regions s.here) ++ trailing s.path) (subst (IsDistinct eqb) is d) k
