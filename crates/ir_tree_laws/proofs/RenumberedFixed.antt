-- A well-formed tree with the ids 0, 1, .. in pre-order is unchanged by renumbering.
use Rattle.std.proofs.Common.{◌≡◌, refl, ap, sym, ◌∙◌, subst, ℕ, zero, suc, ◌+◌, Bool, true, false, cond, ◌&&◌, ◌||◌, eqb, eq-eqb, true≢false, inl, inr, List, [], ◌∷◌, ◌++◌, length, map, arith}
use Rattle.std.specs.Prelude.{nat_lt}
use Rattle.std.specs.List.{list_all, list_any, range_with_len}
use Rattle.std.proofs.lemmas.Bool.{and_parts, or_left, or_right, cases_Bool}
use Rattle.std.proofs.lemmas.Bool.Decides.{eqb_tells}
use Rattle.std.proofs.lemmas.List.Folds.{list_any-append}
use Rattle.ir_tree.specs.declared.value.Value.{Value}
use Rattle.ir_tree.specs.declared.value.Value.TheVariants.{Result, Arg}
use Rattle.ir_tree.specs.Tree.{HeadOf, OpOf, op, RegionsOf, no_regions, region, RegionOf, empty, block, OpsOf, no_ops, next, head}
use Rattle.ir_tree.specs.Ids.{ids, regions_ids, region_ids, ops_ids, IsNumberedFrom}
use Rattle.ir_tree.specs.Sites.{Frame, results, arguments, inside, shows, in_scope, results_of}
use Rattle.ir_tree.specs.Scope.{operands_dominate, regions_operands_visible, region_operands_visible, ops_operands_visible}
use Rattle.ir_tree.specs.WellFormed.{IsValidTree}
use Rattle.ir_tree.proofs.Checked.{seen_operands_visible}
use Rattle.ir_tree_laws.specs.Renumbered.{value_with_id, with_ids, regions_with_ids, region_with_ids, ops_with_ids, place_in, renumbered}
use Rattle.ir_tree_laws.proofs.RenumberedPlaces.{first, later}
use Rattle.ir_tree.proofs.of_types.Sorting.{flips_eq}
use Rattle.ir_tree.proofs.VisibleSites.{shown_last}

-- the numbers of a range are their own positions
range_place : (n m y : ℕ) → list_any (λ z. eqb z y) (range_with_len n m) ≡ true → n + place_in (range_with_len n m) y ≡ y
range_place n zero y h = absurd (true≢false (sym h))
range_place n (suc m) y h = elim (eqb_tells y n) [
  | inl e ↦ ap (λ p. n + p) (first n (range_with_len (n + 1) m) y e.0) ∙ omega (arith, e.1)
  | inr e ↦
      let more = range_place (n + 1) m y (ap (λ b. b || list_any (λ z. eqb z y) (range_with_len (n + 1) m)) (sym (flips_eq n y ∙ e.0)) ∙ h) in
      ap (λ p. n + p) (later n (range_with_len (n + 1) m) y e.0) ∙ omega arith ∙ more
]

module _ (f : ℕ → ℕ) where
  -- f maps each number of a list to itself
  abbrev Leaves : List ℕ → Type 0
  Leaves xs = (y : ℕ) → list_any (λ z. eqb z y) xs ≡ true → f y ≡ y

  -- f maps each value in scope to itself
  abbrev LeavesSeen : List Frame → Type 0
  LeavesSeen scope = (v : Value) → in_scope scope v ≡ true → value_with_id f v ≡ v

  leaves_first : (x : ℕ) (xs : List ℕ) → Leaves (x ∷ xs) → f x ≡ x
  leaves_first x xs t = t x (or_left (eqb x x) (list_any (λ z. eqb z x) xs) (eq-eqb x x refl))

  leaves_rest : (x : ℕ) (xs : List ℕ) → Leaves (x ∷ xs) → Leaves xs
  leaves_rest x xs t y h = t y (or_right (eqb x y) (list_any (λ z. eqb z y) xs) h)

  leaves_left : (xs ys : List ℕ) → Leaves (xs ++ ys) → Leaves xs
  leaves_left xs ys t y h = t y (list_any-append (λ z. eqb z y) xs ys ∙ or_left (list_any (λ z. eqb z y) xs) (list_any (λ z. eqb z y) ys) h)

  leaves_right : (xs ys : List ℕ) → Leaves (xs ++ ys) → Leaves ys
  leaves_right xs ys t y h = t y (list_any-append (λ z. eqb z y) xs ys ∙ or_right (list_any (λ z. eqb z y) xs) (list_any (λ z. eqb z y) ys) h)

  -- and so the values of a frame, if f maps the id of its operation to itself
  owner_stays : (x y : ℕ) (b : Bool) → f x ≡ x → (eqb y x && b) ≡ true → f y ≡ y
  owner_stays x y b e h = elim (eqb_tells y x) [
    | inl d ↦ subst (λ z. f z ≡ z) (sym d.1) e
    | inr d ↦ absurd (true≢false (sym h ∙ ap (λ c. c && b) d.0))
  ]

  results_stay : (x n : ℕ) → f x ≡ x → (v : Value) → shows v (results x n) ≡ true → value_with_id f v ≡ v
  results_stay x n e (Result y k) h = ap (λ z. Result z k) (owner_stays x y (nat_lt k n) e h)
  results_stay x n e (Arg y s k) h = absurd (true≢false (sym h))

  arguments_stay : (x r n : ℕ) → f x ≡ x → (v : Value) → shows v (arguments x r n) ≡ true → value_with_id f v ≡ v
  arguments_stay x r n e (Result y k) h = absurd (true≢false (sym h))
  arguments_stay x r n e (Arg y s k) h = ap (λ z. Arg z s k) (owner_stays x y (eqb s r && nat_lt k n) e h)

  last_stays : (s : List Frame) (g : Frame) → LeavesSeen s → ((v : Value) → shows v g ≡ true → value_with_id f v ≡ v) → LeavesSeen (s ++ g ∷ [])
  last_stays s g a b v h = elim (cases_Bool (in_scope s v)) [
    | inl d ↦ a v d
    | inr d ↦ b v (ap (λ c. c || shows v g) (sym d) ∙ sym (shown_last s g v) ∙ h)
  ]

  values_stay : (s : List Frame) (vs : List Value) → LeavesSeen s → list_all (in_scope s) vs ≡ true → map (value_with_id f) vs ≡ vs
  values_stay s [] a h = refl
  values_stay s (v ∷ vs) a h = let p = and_parts (in_scope s v) (list_all (in_scope s) vs) h in λ i. a v p.0 i ∷ values_stay s vs a p.1 i

  module _ {N T A : Type 0} where
    op_leaves : (o : OpOf N T A) → Leaves (ids o) → f (head o).id ≡ (head o).id
    op_leaves (op h rs) k = leaves_first h.id (regions_ids rs) k

    op_stays : (o : OpOf N T A) → Leaves (ids o) → (v : Value) → shows v (results_of o) ≡ true → value_with_id f v ≡ v
    op_stays (op h rs) k v e = results_stay h.id (length h.results) (leaves_first h.id (regions_ids rs) k) v e

    module _ (isolated : N → Bool) where
      inside_stays : (h : HeadOf N T A) (s : List Frame) → LeavesSeen s → LeavesSeen (inside isolated h s)
      inside_stays h s a v = elim (isolated h.name) as (λ b. in_scope (cond b [] s) v ≡ true → value_with_id f v ≡ v) [ true ↦ λ e. absurd (true≢false (sym e)) | false ↦ a v ]

      mutual
        stays : (s : List Frame) (t : OpOf N T A) → LeavesSeen s → Leaves (ids t) → operands_dominate isolated s t ≡ true → with_ids f t ≡ t
        stays s (op h rs) a k e =
            let p = and_parts (list_all (in_scope s) h.operands) (regions_operands_visible isolated (inside isolated h s) h.id 0 rs) e in
            let here = leaves_first h.id (regions_ids rs) k in
            let own = values_stay s h.operands a p.0 in
            let inner = regions_stay (inside isolated h s) h.id 0 rs (inside_stays h s a) here (leaves_rest h.id (regions_ids rs) k) p.1 in
            λ i. op (record h { id = here i; operands = own i }) (inner i)

        regions_stay : (s : List Frame) (o r : ℕ) (rs : RegionsOf N T A) → LeavesSeen s → f o ≡ o → Leaves (regions_ids rs) → regions_operands_visible isolated s o r rs ≡ true → regions_with_ids f rs ≡ rs
        regions_stay s o r no_regions a t k e = refl
        regions_stay s o r (region g rs) a t k e =
            let p = and_parts (region_operands_visible isolated s o r g) (regions_operands_visible isolated s o (r + 1) rs) e in
            λ i. region (region_stays s o r g a t (leaves_left (region_ids g) (regions_ids rs) k) p.0 i) (regions_stay s o (r + 1) rs a t (leaves_right (region_ids g) (regions_ids rs) k) p.1 i)

        region_stays : (s : List Frame) (o r : ℕ) (g : RegionOf N T A) → LeavesSeen s → f o ≡ o → Leaves (region_ids g) → region_operands_visible isolated s o r g ≡ true → region_with_ids f g ≡ g
        region_stays s o r empty a t k e = refl
        region_stays s o r (block args os) a t k e =
            let g = arguments o r (length args) in
            ap (block args) (ops_stay (s ++ g ∷ []) os (last_stays s g a (arguments_stay o r (length args) t)) k e)

        ops_stay : (s : List Frame) (os : OpsOf N T A) → LeavesSeen s → Leaves (ops_ids os) → ops_operands_visible isolated s os ≡ true → ops_with_ids f os ≡ os
        ops_stay s no_ops a k e = refl
        ops_stay s (next o os) a k e =
            let p = and_parts (operands_dominate isolated s o) (ops_operands_visible isolated (s ++ results_of o ∷ []) os) e in
            let preceding = leaves_left (ids o) (ops_ids os) k in
            let trailing = ops_stay (s ++ results_of o ∷ []) os (last_stays s (results_of o) a (op_stays o preceding)) (leaves_right (ids o) (ops_ids os) k) p.1 in
            λ i. next (stays s o a preceding p.0 i) (trailing i)

pub renumbered_stays : {N T A : Type 0} (isolated : N → Bool) (t : OpOf N T A) → IsValidTree isolated t → IsNumberedFrom 0 t → renumbered t ≡ t
renumbered_stays isolated t w e = stays (place_in (ids t)) isolated [] t (λ v h. absurd (true≢false (sym h))) left (seen_operands_visible isolated t ∙ w.visible)
  where
    from_zero : (n : ℕ) → n ≡ 0 + n
    from_zero n = omega arith

    left : (y : ℕ) → list_any (λ z. eqb z y) (ids t) ≡ true → place_in (ids t) y ≡ y
    left y h = ap (λ l. place_in l y) e ∙ from_zero (place_in (range_with_len 0 (length (ids t))) y) ∙ range_place 0 (length (ids t)) y (ap (list_any (λ z. eqb z y)) (sym e) ∙ h)
