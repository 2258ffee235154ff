-- One level of a path.
use Rattle.std.proofs.Common.{◌≡◌, ◌≢◌, ◌∙◌, ℕ, zero, suc, ◌-◌, ◌<◌, ap, sym, [], ◌++◌, List, Option, Some, None, arith}
use Rattle.std.proofs.lemmas.Bool.{eq-eqb, ne_eqb}
use Rattle.std.proofs.lemmas.List.{append-nil}
use Rattle.std.specs.Prelude.{◌==◌, if◌then◌else◌, slice_get}
use Rattle.ir_event.specs.trees.declared.value.Value.TheVariants.{Result}
use Rattle.ir_event.specs.trees.Meaning.{Operation}
use Rattle.user_patterns_data.specs.Planning.{old_place}
use Rattle.user_patterns_data.specs.Shapes.{PatternModel}
use Rattle.mlir_work_transforms.specs.WhyPattern.{operand_text, operands_at, path_below, path_text, use_of, value_at, value_below}

if_equal : {A : Type 0} (i j : ℕ) (x y : A) → i ≡ j → (if i == j then x else y) ≡ x
if_equal i j x y e = ap (λ b. if b then x else y) (eq-eqb i j e)

if_other : {A : Type 0} (i j : ℕ) (x y : A) → i ≢ j → (if i == j then x else y) ≡ y
if_other i j x y e = ap (λ b. if b then x else y) (ne_eqb i j e)

module _ (p : PatternModel) where
  -- ---- the text

  path_more : (levels k : ℕ) → 0 < levels → path_text p levels k ≡ (if k == p.root then [] else path_below (path_text p (levels - 1)) (use_of k (old_place p) p.old))
  unfolding path_text
  path_more zero k l = absurd (omega (arith, l))
  path_more (suc levels) k l =
      let e : levels ≡ suc levels - 1 = omega arith in
      ap (λ (n : ℕ). if k == p.root then [] else path_below (path_text p n) (use_of k (old_place p) p.old)) e

  pub path_ends : (text : List ℕ) (levels k : ℕ) → levels ≡ 0 → text ≡ text ++ path_text p levels k
  unfolding path_text
  path_ends text levels k e = sym (ap (λ n. text ++ path_text p n k) e ∙ append-nil text)

  pub path_at_root : (text : List ℕ) (levels k : ℕ) → 0 < levels → k ≡ p.root → text ≡ text ++ path_text p levels k
  path_at_root text levels k l e =
      sym (ap (λ z. text ++ z) (path_more levels k l ∙ if_equal k p.root [] (path_below (path_text p (levels - 1)) (use_of k (old_place p) p.old)) e) ∙ append-nil text)

  path_over : (levels k : ℕ) → 0 < levels → k ≢ p.root → (u : Option (ℕ × ℕ)) → u ≡ use_of k (old_place p) p.old → path_text p levels k ≡ path_below (path_text p (levels - 1)) u
  path_over levels k l e u is =
      path_more levels k l ∙ if_other k p.root [] (path_below (path_text p (levels - 1)) (use_of k (old_place p) p.old)) e
      ∙ ap (path_below (path_text p (levels - 1))) (sym is)

  pub path_lost : (text : List ℕ) (levels k : ℕ) → 0 < levels → k ≢ p.root → None ≡ use_of k (old_place p) p.old → text ≡ text ++ path_text p levels k
  path_lost text levels k l e is = sym (ap (λ z. text ++ z) (path_over levels k l e None is) ∙ append-nil text)

  pub path_goes : (levels k parent index : ℕ) → 0 < levels → k ≢ p.root → Some (parent, index) ≡ use_of k (old_place p) p.old → path_text p levels k ≡ path_text p (levels - 1) parent ++ operand_text index
  path_goes levels k parent index l e is = path_over levels k l e (Some (parent, index)) is

  -- ---- the value

  module _ (t : Operation) (x : ℕ) where
    value_more : (levels k : ℕ) → 0 < levels → value_at t p x levels k ≡ (if k == p.root then Some (Result x 0) else value_below t (value_at t p x (levels - 1)) (use_of k (old_place p) p.old))
    unfolding value_at
    value_more zero k l = absurd (omega (arith, l))
    value_more (suc levels) k l =
        let e : levels ≡ suc levels - 1 = omega arith in
        ap (λ (n : ℕ). if k == p.root then Some (Result x 0) else value_below t (value_at t p x n) (use_of k (old_place p) p.old)) e

    pub value_ends : (levels k : ℕ) → levels ≡ 0 → None ≡ value_at t p x levels k
    unfolding value_at
    value_ends levels k e = sym (ap (λ n. value_at t p x n k) e)

    pub value_at_root : (levels k : ℕ) → 0 < levels → k ≡ p.root → Some (Result x 0) ≡ value_at t p x levels k
    value_at_root levels k l e =
        sym (value_more levels k l ∙ if_equal k p.root (Some (Result x 0)) (value_below t (value_at t p x (levels - 1)) (use_of k (old_place p) p.old)) e)

    value_over : (levels k : ℕ) → 0 < levels → k ≢ p.root → (u : Option (ℕ × ℕ)) → u ≡ use_of k (old_place p) p.old → value_at t p x levels k ≡ value_below t (value_at t p x (levels - 1)) u
    value_over levels k l e u is =
        value_more levels k l ∙ if_other k p.root (Some (Result x 0)) (value_below t (value_at t p x (levels - 1)) (use_of k (old_place p) p.old)) e
        ∙ ap (value_below t (value_at t p x (levels - 1))) (sym is)

    pub value_lost : (levels k : ℕ) → 0 < levels → k ≢ p.root → None ≡ use_of k (old_place p) p.old → None ≡ value_at t p x levels k
    value_lost levels k l e is = sym (value_over levels k l e None is)

    pub value_goes : (levels k parent index : ℕ) → 0 < levels → k ≢ p.root → Some (parent, index) ≡ use_of k (old_place p) p.old → value_at t p x levels k ≡ slice_get (operands_at t (value_at t p x (levels - 1) parent)) index
    value_goes levels k parent index l e is = value_over levels k l e (Some (parent, index)) is
