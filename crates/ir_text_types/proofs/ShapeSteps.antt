-- Dimensions are parsed one by one, as a loop does.
use Rattle.std.proofs.Common.{◌≡◌, ℕ, suc, ◌+◌, ◌-◌, ◌<◌, ◌≤◌, true, false, List, [], ◌∷◌, ◌++◌, Option, Some, None, refl, sym, ◌∙◌, arith}
use Rattle.ir_text_tokens.specs.Tokens.{skip}
use Rattle.ir_text_types.specs.declared.error.ReadError.{ReadError}
use Rattle.ir_text_types.specs.Outcomes.{Fails, of_option}
use Rattle.ir_text_types.specs.ShapeGrammar.{begins_dimension}
use Rattle.ir_text_types.specs.ShapeReading.{dimension_at, dimensions_at}
use Rattle.ir_text_types.proofs.ListSteps.{fails_option}

module _ (items : List (Option ℕ)) (headroom i : ℕ) (bytes : List ℕ) (total : Option (List (Option ℕ) × List ℕ)) (so_far : dimensions_at (headroom - i) items bytes ≡ total) where
  module _ (lt : i < headroom) where
    one : headroom - i ≡ suc (headroom - (i + 1))
    one = omega arith

    pub goes_on : (x : Option ℕ) (mid : List ℕ) → begins_dimension (skip bytes) ≡ true → dimension_at bytes ≡ Some (x, mid) → dimensions_at (headroom - (i + 1)) (items ++ x ∷ []) mid ≡ total
    unfolding dimensions_at
    goes_on x mid begins item = sym (rw (one, begins, item) refl) ∙ so_far

    pub ends : begins_dimension (skip bytes) ≡ false → total ≡ Some (items, bytes)
    unfolding dimensions_at
    ends none = sym so_far ∙ rw (one, none) refl

    pub no_dimension : (e : ReadError) → begins_dimension (skip bytes) ≡ true → Fails e (of_option (dimension_at bytes)) → Fails e (of_option total)
    unfolding dimensions_at
    no_dimension e begins fails =
        fails_option e (dimension_at bytes) (of_option total) (λ none. let k : total ≡ None = sym so_far ∙ rw (one, begins, none) refl in rw k refl) fails

  module _ (le : headroom ≤ i) where
    zero_left : headroom - i ≡ 0
    zero_left = omega arith

    pub last_ends : begins_dimension (skip bytes) ≡ false → total ≡ Some (items, bytes)
    unfolding dimensions_at
    last_ends none = sym so_far ∙ rw (zero_left, none) refl

    pub is_full : begins_dimension (skip bytes) ≡ true → total ≡ None
    unfolding dimensions_at
    is_full begins = sym so_far ∙ rw (zero_left, begins) refl
