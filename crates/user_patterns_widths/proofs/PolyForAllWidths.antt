-- Each of the two laws implies that the pattern holds at all widths.
use Rattle.std.proofs.Common.{inl, inr}
use Rattle.std.proofs.lemmas.Bool.{or_cases}
use Rattle.user_patterns_widths.specs.AllWidths.{is_bit_by_bit, is_one_polynomial}
use Rattle.user_patterns_widths.specs.Lasting.{BitsDecide, HoldsAtAllWidths, PolynomialsKeep}

pub either_holds : PolynomialsKeep → BitsDecide → HoldsAtAllWidths
either_holds polynomials bits p e most some verdict = elim (or_cases (is_one_polynomial p) (is_bit_by_bit p) e) [
  | inl h ↦ polynomials p h
  | inr h ↦ bits p h most some verdict
]
