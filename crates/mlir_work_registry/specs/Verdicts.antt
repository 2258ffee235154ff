-- The checks of the patterns of a registry, before they are recorded.
use Rattle.std.specs.Prelude.{◌≡◌, ℕ, List, [], ◌∷◌, ◌++◌, map, Option, Some, None}
use Rattle.ir_event.specs.types.declared.refusal.Refusal.TheVariants.{BadLimit}
use Rattle.rewriter_machine.specs.Commands.{Replied}
use Rattle.rewriter_machine.specs.Machine.{Done, Refused}
use Rattle.user_patterns_registry.specs.CheckResult.{IsUntried, requested_width}
use Rattle.user_patterns_registry.specs.declared.check_result.CheckSummary.{CheckSummary}
use Rattle.user_patterns_registry.specs.declared.check_result.CheckSummary.TheVariants as said
use Rattle.user_patterns_registry.specs.Registry.{Kept, RegistryModel, found, noted}
use Rattle.user_patterns_registry.specs.Rows.{said_text}
use Rattle.mlir_work_registry.specs.CheckedRows.{answer_text, checked_row}
use Rattle.mlir_work_registry.specs.Notices.{Notice, Simple, Checked}
use Rattle.mlir_work_registry.specs.Registries.{IsChecked}
use Rattle.mlir_work_registry.specs.declared.check_all.Verdict.{Verdict as Coded}

-- the check of a pattern: its name, the summary unless the check was refused, and the rows of the counterexample
pub record Verdict : Type 0 where
  pub name : List ℕ
  pub said : Option CheckSummary
  pub rows : List ℕ

abbrev pub verdict_view : Coded → Verdict
verdict_view v = record { name = v.name.items; said = v.said; rows = v.rows.items }

abbrev pub verdict_views : List Coded → List Verdict
verdict_views vs = map verdict_view vs

-- a possible summary and its rows; without a summary the check is refused
abbrev pub IsSaidOf : Kept → Option CheckSummary → List ℕ → Type 0
IsSaidOf k (Some said) rows = IsChecked k None said rows
IsSaidOf k None rows = IsUntried k.rewrite_pattern (requested_width k.rewrite_pattern None) × (rows ≡ [])

-- a possible check of the pattern of a name
abbrev pub IsVerdict : RegistryModel → List ℕ → Verdict → Type 0
IsVerdict registry name v = (v.name ≡ name) × (k : Kept) × (found name registry ≡ Some k) × IsSaidOf k v.said v.rows

-- possible checks of these patterns, each found by its name in a registry
abbrev pub AreVerdicts : RegistryModel → RegistryModel → List Verdict → Type 0
AreVerdicts registry [] [] = Unit {0}
AreVerdicts registry [] (v ∷ vs) = ⊥
AreVerdicts registry (k ∷ ks) [] = ⊥
AreVerdicts registry (k ∷ ks) (v ∷ vs) = IsVerdict registry k.name v × AreVerdicts registry ks vs

-- ---- the answer

abbrev pub notice_said : Option CheckSummary → Notice
notice_said (Some said) = Checked said
notice_said None = Simple (Replied (Refused BadLimit))

abbrev pub result_text : Option CheckSummary → List ℕ
result_text said = answer_text (notice_said said)

abbrev pub verdict_text : Verdict → List ℕ
verdict_text v = checked_row v.name (result_text v.said) ++ v.rows

abbrev pub verdicts_text : List Verdict → List ℕ
verdicts_text [] = []
verdicts_text (v ∷ vs) = verdict_text v ++ verdicts_text vs

abbrev pub failure_of : Option CheckSummary → Option CheckSummary
failure_of (Some (said.Fails w)) = Some (said.Fails w)
failure_of _ = None

abbrev pub notice_or : Option CheckSummary → Notice → Notice
notice_or (Some said) others = Checked said
notice_or None others = others

abbrev pub verdicts_notice : List Verdict → Notice
verdicts_notice [] = Simple (Replied Done)
verdicts_notice (v ∷ vs) = notice_or (failure_of v.said) (verdicts_notice vs)

-- ---- the notes

abbrev pub noted_said : List ℕ → Option CheckSummary → RegistryModel → RegistryModel
noted_said name (Some said) registry = noted name said registry
noted_said name None registry = registry

abbrev pub noted_if : Verdict → RegistryModel → RegistryModel
noted_if v registry = noted_said v.name v.said registry

abbrev pub all_noted : List Verdict → RegistryModel → RegistryModel
all_noted [] registry = registry
all_noted (v ∷ vs) registry = all_noted vs (noted_if v registry)
