use Rattle.std.proofs.Common.{◌∙◌, inl, inr}
use Rattle.ir_types.specs.Bits.{width_of}
use Rattle.ir_types.specs.Reasons.{is_width}
use Rattle.dialects_int.specs.Arithmetic.{value_of, cast_of, comparison_of, truth}
use Rattle.ir_types.specs.declared.bits.BitsKind.TheVariants as kind
use Rattle.user_patterns_check.specs.Outcomes.{checked}
use Rattle.user_patterns_check.proofs.Checked.{of_same_kind, checked_some, compared_some, chosen_some, cast_some}
use Rattle.user_patterns_check.proofs.laws.folds_give_outcomes.Goals as goal

pub returns-clause-pairs : goal.returns-clause-pairs
returns-clause-pairs c = λ name o props ty k f a b v ha hb e.
    let r = value_of o (width_of k) a b in
    elim (checked_some o k b r v (of_same_kind k (checked o k b r) v e)) [
      | inl h ↦ inl (c.folds_of_known_operands.ensures.pair name o props ty k f a b ha hb ∙ h)
      | inr h ↦ inr h
    ]

pub returns-clause-comparisons : goal.returns-clause-comparisons
returns-clause-comparisons c = λ name p props ty f is k a b v e.
    c.folds_of_known_operands.ensures.compare name p props ty f k a b is ∙ compared_some k (kind.Int 1, truth (comparison_of (width_of k) p a b)) v e

pub returns-clause-choices : goal.returns-clause-choices
returns-clause-choices c = λ name props ty k f b x y v e.
    c.folds_of_known_operands.ensures.select name props ty k f b x y ∙ chosen_some k b x y v e

pub returns-clause-casts : goal.returns-clause-casts
returns-clause-casts c = λ name o props ty w f u a v e.
    c.folds_of_known_operands.ensures.resize name o props ty w f u a ∙ cast_some (kind.Int w) (is_width w) (cast_of o u w a) v e

pub returns-clause-index_casts : goal.returns-clause-index_casts
returns-clause-index_casts c = λ name o props ty k f j a v e.
    c.folds_of_known_operands.ensures.index_cast name o props ty k f j a ∙ cast_some k (is_width (width_of k)) (cast_of o (width_of j) (width_of k) a) v e
