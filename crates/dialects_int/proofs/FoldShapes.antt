-- Folds of operations that don't have exactly one result.
use Rattle.std.proofs.Common.{◌≡◌, ℕ, ◌≤◌, List, [], ◌∷◌, length, map, None, refl, arith}
use Rattle.ir_types.specs.Terms.{TypeTerm, AttrTerm}
use Rattle.std.specs.Prelude.{Option}
use Rattle.dialects_int.specs.Folds.{Known, fold_of}

pub more_results : (name : List ℕ) (props : List (List ℕ × AttrTerm)) (operands : List (Option Known)) (f : ℕ → TypeTerm) (results : List ℕ) → 2 ≤ length results → fold_of name props operands (map f results) ≡ None
unfolding fold_of
more_results name props operands f [] h = absurd (omega arith)
more_results name props operands f (t ∷ []) h = absurd (omega arith)
more_results name props operands f (t ∷ u ∷ more) h = refl
