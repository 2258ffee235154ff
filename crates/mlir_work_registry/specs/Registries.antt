-- The effect of a registry command on the pattern registry, and its response.
use Rattle.std.specs.Prelude.{◌≡◌, ℕ, ◌-◌, List, [], ◌∷◌, ◌++◌, ◌⊎◌, codes, length, Option, Some, None, Ok, Err, if◌then◌else◌}
use Rattle.ir_event.specs.types.declared.refusal.Refusal.{Refusal}
use Rattle.ir_event.specs.types.declared.refusal.Refusal.TheVariants.{BadLimit, Memory, NoSuchKey}
use Rattle.ir_text_tokens.specs.Refusals.{refusal_of}
use Rattle.rewriter_machine.specs.Commands.{Replied, TextRefusedAt}
use Rattle.rewriter_machine.specs.Machine.{Done, Refused}
use Rattle.mlir_work_script.specs.RegistryCommands.{RegistryCommand, Define, Redefine, Forget, Patterns, Check, CheckAll, Sample}
use Rattle.user_patterns_text.specs.Refusing.{Outcome}
use Rattle.user_patterns_widths.specs.Passing.{is_passing}
use Rattle.user_patterns_registry.specs.CheckResult.{IsCheckResult, IsUntried, requested_width, said_of}
use Rattle.user_patterns_registry.specs.Rows.{refutation_text, rows_text}
use Rattle.user_patterns_registry.specs.Sampled.{IsSampled, IsUnsampled}
use Rattle.user_patterns_registry.specs.declared.check_result.CheckResult.{CheckResult}
use Rattle.user_patterns_registry.specs.declared.check_result.CheckResult.TheVariants as judgement
use Rattle.user_patterns_registry.specs.declared.check_result.CheckSummary.{CheckSummary}
use Rattle.user_patterns_registry.specs.declared.check_result.CheckSummary.TheVariants as said
use Rattle.user_patterns_registry.specs.Registry.{RegistryModel, Kept, defined, forgotten, found, listing_text, noted}
use Rattle.mlir_work_registry.specs.CheckedRows.{answer_text, checked_row, first_failure}
use Rattle.mlir_work_registry.specs.Notices.{Notice, Simple, Checked}
use Rattle.mlir_work_registry.specs.Redefined.{redefined}

-- the command is refused and the registry doesn't change
abbrev pub IsRefused : Refusal → RegistryModel → Notice → List ℕ → RegistryModel → Type 0
IsRefused refusal b notice bytes c = (notice ≡ Simple (Replied (Refused refusal))) × (bytes ≡ []) × (c ≡ b)

-- the pattern of a text is defined, or the text is refused at a byte, counted from its start
abbrev pub IsDefined : Outcome RegistryModel → List ℕ → RegistryModel → Notice → List ℕ → RegistryModel → Type 0
IsDefined (Ok new) text b notice bytes c = (notice ≡ Simple (Replied Done)) × (bytes ≡ []) × (c ≡ new)
IsDefined (Err fault) text b notice bytes c =
    (notice ≡ Simple (TextRefusedAt (refusal_of fault.refusal) (length text - fault.left))) × (bytes ≡ []) × (c ≡ b)

-- a named pattern is removed, or no pattern has the name
abbrev pub Forgets : Option Kept → List ℕ → RegistryModel → Notice → List ℕ → RegistryModel → Type 0
Forgets None name b notice bytes c = IsRefused NoSuchKey b notice bytes c
Forgets (Some k) name b notice bytes c = (notice ≡ Simple (Replied Done)) × (bytes ≡ []) × (c ≡ forgotten name b)

-- the rows of a counterexample, if there is one
abbrev pub judgement_rows : Kept → CheckResult → List ℕ
judgement_rows k (judgement.Holds w) = []
judgement_rows k judgement.AllWidths = []
judgement_rows k (judgement.Vacuous w) = []
judgement_rows k (judgement.Fails counterexample) = rows_text k.variables counterexample
judgement_rows k (judgement.Refuted w r) = refutation_text k.variables r
judgement_rows k (judgement.Sampled w) = []

-- the summary of a check result. A check up to a width tries all values but no poison: if the pattern matches a
-- `select`, or its replacement has a division or a remainder, the summary is only that no counterexample was found
abbrev pub said_for : Kept → CheckResult → CheckSummary
said_for k (judgement.Holds w) = if is_passing k.rewrite_pattern then said.Holds w else said.Sampled w
said_for k judgement.AllWidths = said_of judgement.AllWidths
said_for k (judgement.Vacuous w) = said_of (judgement.Vacuous w)
said_for k (judgement.Fails counterexample) = said_of (judgement.Fails counterexample)
said_for k (judgement.Refuted w r) = said_of (judgement.Refuted w r)
said_for k (judgement.Sampled w) = said_of (judgement.Sampled w)

-- the summary and the rows are those of a true check result
abbrev pub IsSaid : (CheckResult → Type 0) → Kept → CheckSummary → List ℕ → Type 0
IsSaid is_true k said bytes = (j : CheckResult) × is_true j × (said ≡ said_for k j) × (bytes ≡ judgement_rows k j)

-- the summary of a check of a pattern up to a width, and the summary of a test with samples
abbrev pub IsChecked : Kept → Option ℕ → CheckSummary → List ℕ → Type 0
IsChecked k requested said bytes = IsSaid (IsCheckResult k.rewrite_pattern requested) k said bytes

abbrev pub IsSampledAs : Kept → ℕ → CheckSummary → List ℕ → Type 0
IsSampledAs k w said bytes = IsSaid (IsSampled k.rewrite_pattern w) k said bytes

-- a possible summary of a named pattern is the response, with its rows, and is recorded
abbrev pub IsNoted : (CheckSummary → List ℕ → Type 0) → List ℕ → RegistryModel → Notice → List ℕ → RegistryModel → Type 0
IsNoted is_said name b notice bytes c =
    (said : CheckSummary) × is_said said bytes × (notice ≡ Checked said) × (c ≡ noted name said b)

-- a named pattern is checked and the summary is recorded; or the width is refused, or no pattern has the name
abbrev pub Checks : Option Kept → List ℕ → Option ℕ → RegistryModel → Notice → List ℕ → RegistryModel → Type 0
Checks None name requested b notice bytes c = IsRefused NoSuchKey b notice bytes c
Checks (Some k) name requested b notice bytes c =
    IsNoted (IsChecked k requested) name b notice bytes c
    ⊎ (IsUntried k.rewrite_pattern (requested_width k.rewrite_pattern requested) × IsRefused BadLimit b notice bytes c)

-- the first pattern is checked and recorded, as by its name alone, and then the others; the answer is that of the first
-- check that found a counterexample
pub record ChecksFirst (Others : RegistryModel → Notice → List ℕ → RegistryModel → Type 0) (name : List ℕ) (b : RegistryModel) (notice : Notice) (bytes : List ℕ) (c : RegistryModel) : Type 0 where
  pub one : Notice
  pub rows : List ℕ
  pub mid : RegistryModel
  pub others : Notice
  pub more : List ℕ
  pub first : Checks (found name b) name None b one rows mid
  pub goes_on : Others mid others more c
  pub notice_is : notice ≡ first_failure one others
  pub bytes_are : bytes ≡ (checked_row name (answer_text one) ++ rows) ++ more

-- each of these patterns is checked in order, and the summaries are recorded one after the other
abbrev pub ChecksEach : List Kept → RegistryModel → Notice → List ℕ → RegistryModel → Type 0
ChecksEach [] b notice bytes c = (notice ≡ Simple (Replied Done)) × (bytes ≡ []) × (c ≡ b)
ChecksEach (k ∷ ks) b notice bytes c = ChecksFirst (ChecksEach ks) k.name b notice bytes c

-- `check all`: if a pattern has this name, it is checked alone
abbrev pub ChecksAll : Option Kept → RegistryModel → Notice → List ℕ → RegistryModel → Type 0
ChecksAll None b notice bytes c = ChecksEach b b notice bytes c
ChecksAll (Some k) b notice bytes c = Checks (Some k) (codes "all") None b notice bytes c

-- the same for a test with samples
abbrev pub Samples : Option Kept → List ℕ → ℕ → RegistryModel → Notice → List ℕ → RegistryModel → Type 0
Samples None name w b notice bytes c = IsRefused NoSuchKey b notice bytes c
Samples (Some k) name w b notice bytes c =
    IsNoted (IsSampledAs k w) name b notice bytes c ⊎ (IsUnsampled k.rewrite_pattern w × IsRefused BadLimit b notice bytes c)

-- the effect of a registry command if memory doesn't run out
abbrev pub IsShelved : RegistryCommand → RegistryModel → Notice → List ℕ → RegistryModel → Type 0
IsShelved (Define text) b notice bytes c = IsDefined (defined b text) text b notice bytes c
IsShelved (Redefine text) b notice bytes c = IsDefined (redefined b text) text b notice bytes c
IsShelved (Forget name) b notice bytes c = Forgets (found name b) name b notice bytes c
IsShelved Patterns b notice bytes c = (notice ≡ Simple (Replied Done)) × (bytes ≡ listing_text b) × (c ≡ b)
IsShelved (Check name requested) b notice bytes c = Checks (found name b) name requested b notice bytes c
IsShelved CheckAll b notice bytes c = ChecksAll (found (codes "all") b) b notice bytes c
IsShelved (Sample name w) b notice bytes c = Samples (found name b) name w b notice bytes c

-- with registry `b`, a registry command may get this response, with these bytes below it, and lead to registry `c`
abbrev pub Registries : RegistryCommand → RegistryModel → Notice → List ℕ → RegistryModel → Type 0
Registries registry_command b notice bytes c = IsRefused Memory b notice bytes c ⊎ IsShelved registry_command b notice bytes c
