-- The changes of a pattern registry: a pattern is defined, removed or replaced, or the summary of a check is recorded.
use Rattle.std.specs.Prelude.{◌≡◌, ◌⊎◌, ℕ, zero, suc, List, [], Some, None, Ok, position, slice_set}
use Rattle.user_patterns_text.specs.Parts as parts
use Rattle.user_patterns_text.specs.Rendered.{whole_at}
use Rattle.user_patterns_registry.specs.CheckResult.{IsCheckResult}
use Rattle.user_patterns_registry.specs.declared.check_result.CheckResult.TheVariants as judgement
use Rattle.user_patterns_registry.specs.declared.check_result.CheckSummary.{CheckSummary}
use Rattle.user_patterns_registry.specs.declared.check_result.CheckSummary.TheVariants as summary
use Rattle.user_patterns_registry.specs.Registry.{Kept, RegistryModel, defined, forgotten, found, is_named, kept_of, noted}

-- what a check without a width says if its result is `holds` without a width
abbrev pub IsFoundToHold : Kept → Type 0
IsFoundToHold k = IsCheckResult k.rewrite_pattern None judgement.AllWidths

-- a pattern is defined, by a command or in a pattern file
abbrev pub Defines : RegistryModel → RegistryModel → Type 0
Defines b c = (text : List ℕ) × (defined b text ≡ Ok c)

-- a pattern is removed
abbrev pub Removes : RegistryModel → RegistryModel → Type 0
Removes b c = (name : List ℕ) × (c ≡ forgotten name b)

-- The summary of a check of a named pattern is recorded. It is `holds` without a width only if a check said so.
abbrev pub Records : RegistryModel → RegistryModel → Type 0
Records b c =
    (name : List ℕ) × (k : Kept) × (said : CheckSummary) × (found name b ≡ Some k) × (said ≡ summary.AllWidths → IsFoundToHold k) × (c ≡ noted name said b)

-- the pattern of a text takes the place of the first one of its name, without a summary
abbrev pub Replaces : RegistryModel → RegistryModel → Type 0
Replaces b c =
    (text : List ℕ) × (p : parts.Pattern) × (place : ℕ) × (k : Kept) × (whole_at text ≡ Ok p) × (kept_of p ≡ Ok k) × (position (is_named p.name) b ≡ Some place) × (c ≡ slice_set b place k)

-- one of these changes
abbrev pub Changes : RegistryModel → RegistryModel → Type 0
Changes b c = Defines b c ⊎ (Removes b c ⊎ (Records b c ⊎ Replaces b c))

-- so many changes lead from one registry to another
abbrev pub ChangesTo : ℕ → RegistryModel → RegistryModel → Type 0
ChangesTo zero b c = b ≡ c
ChangesTo (suc k) b c = (d : RegistryModel) × Changes b d × ChangesTo k d c

-- a registry of a session: such changes lead to it from the empty one
abbrev pub IsReached : RegistryModel → Type 0
IsReached c = (k : ℕ) × ChangesTo k [] c
