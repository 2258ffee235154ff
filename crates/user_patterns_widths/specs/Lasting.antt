-- Such a pattern that holds at the tested widths holds at all widths and at `index`.
use Rattle.std.specs.Prelude.{◌≡◌, ◌≤◌, ℕ, List, true}
use Rattle.std.specs.List.{list_all}
use Rattle.ir_types.specs.declared.bits.BitsKind.{BitsKind}
use Rattle.ir_types.specs.Bits.{width_of}
use Rattle.ir_types.specs.Reasons.{is_width}
use Rattle.user_patterns_check.specs.declared.verdict.Verdict.TheVariants as verdict
use Rattle.user_patterns_check.specs.Checks.{AlwaysKeeps}
use Rattle.user_patterns_check.specs.Families.{IsVerdict}
use Rattle.user_patterns_data.specs.Fitting.{content_at, content_with}
use Rattle.user_patterns_data.specs.Shapes.{PatternModel}
use Rattle.user_patterns_widths.specs.AllWidths.{is_bit_by_bit, holds_at_all_widths, is_one_polynomial}

-- kinds of 1 to 128 bits, or `index`
abbrev pub are_kinds : List BitsKind → Type 0
are_kinds ks = list_all (λ k. is_width (width_of k)) ks ≡ true

-- the pattern is a refinement for all values, at all types
abbrev pub RefinesAtAllWidths : PatternModel → Type 0
RefinesAtAllWidths p = (ks : List BitsKind) → are_kinds ks → AlwaysKeeps (content_with ks p)

-- a pattern whose sides are the same polynomial
abbrev pub PolynomialsKeep : Type 0
PolynomialsKeep = (p : PatternModel) → is_one_polynomial p ≡ true → RefinesAtAllWidths p

-- a pattern that computes bit by bit
abbrev pub BitsDecide : Type 0
BitsDecide =
    (p : PatternModel) → is_bit_by_bit p ≡ true
    → (most : ℕ) → 1 ≤ most → IsVerdict (content_at p) p.types most verdict.Holds → RefinesAtAllWidths p

-- a pattern of either form
abbrev pub HoldsAtAllWidths : Type 0
HoldsAtAllWidths =
    (p : PatternModel) → holds_at_all_widths p ≡ true
    → (most : ℕ) → 1 ≤ most → IsVerdict (content_at p) p.types most verdict.Holds → RefinesAtAllWidths p
