-- The pattern registry of a session: patterns by name, in the order of their definitions.
use Rattle.std.specs.Prelude.{◌≡◌, ℕ, ◌≤◌, Bool, true, false, not, nat_lt, if◌then◌else◌, List, [], ◌∷◌, ◌++◌, codes, filter, length, map, position, slice_set, Option, Some, None, is_some, Ok}
use Rattle.std.specs.Str.{bytes_eq}
use Rattle.std.specs.List.{All}
use Rattle.ir_text_tokens.specs.declared.refusal.TextRefusal.TheVariants.{Redefined, TooMany, TypeMismatch}
use Rattle.user_patterns_text.specs.Parts as parts
use Rattle.user_patterns_text.specs.Refusing.{Outcome, ◌>>=◌, begins, refused}
use Rattle.user_patterns_text.specs.Syntax as syntax
use Rattle.user_patterns_text.specs.Grammar.{IsPattern}
use Rattle.user_patterns_text.specs.Rendered.{Spells, whole_at}
use Rattle.user_patterns_text.specs.Printed.{pattern_text}
use Rattle.user_patterns_sema.specs.Sema.{wellformed}
use Rattle.user_patterns_sema_base.specs.Names.{names_of}
use Rattle.user_patterns_build.specs.CanBuild.{can_build}
use Rattle.user_patterns_build.specs.Unified.{ready}
use Rattle.user_patterns_data.specs.Shapes.{PatternModel, pattern_model}
use Rattle.user_patterns_data.specs.WellFormed.{is_well_formed}
use Rattle.user_patterns_registry.specs.declared.check_result.CheckSummary.{CheckSummary}
use Rattle.user_patterns_registry.specs.Rows.{Variable, named_views, said_text}
use Rattle.user_patterns_registry.specs.declared.registry.RegisteredPattern.{RegisteredPattern}
use Rattle.user_patterns_registry.specs.declared.registry.PatternRegistry.{PatternRegistry as RegistryCode}

-- bytes
abbrev pub Text : Type 0
Text = List ℕ

-- a registered pattern: its name, its printed text, the variables of its left side in their order, and the summary of
-- its last check
pub record Kept : Type 0 where
  pub name : List ℕ
  pub text : Text
  pub variables : List Variable
  pub rewrite_pattern : PatternModel
  pub said : Option CheckSummary

abbrev pub RegistryModel : Type 0
RegistryModel = List Kept

abbrev pub kept_view : RegisteredPattern → Kept
kept_view h = record { name = h.name.items; text = h.text.items; variables = named_views h.variables.items; rewrite_pattern = pattern_model h.pattern; said = h.said }

abbrev pub kept_views : List RegisteredPattern → RegistryModel
kept_views hs = map kept_view hs

abbrev pub registry_model : RegistryCode → RegistryModel
registry_model b = kept_views b.held.items

-- the capacity of a registry, in patterns
abbrev pub most_patterns : ℕ
most_patterns = 256

-- ---- by name

abbrev pub is_named : List ℕ → Kept → Bool
is_named name k = bytes_eq k.name name

unfoldable pub found : List ℕ → RegistryModel → Option Kept
found name [] = None
found name (k ∷ ks) = if is_named name k then Some k else found name ks

-- ---- definitions

-- the name is new, and the registry isn't full
abbrev pub headroom_for : List ℕ → ℕ → RegistryModel → Outcome (Unit {0})
headroom_for name at registry =
    if is_some (found name registry) then refused Redefined at
    else if nat_lt (length registry) most_patterns then Ok tt
    else refused TooMany at

abbrev pub made_ready : Option PatternModel → Outcome PatternModel
made_ready (Some s) = Ok s
made_ready None = refused TypeMismatch 0

abbrev pub kept_as : parts.Pattern → List Variable → PatternModel → Kept
kept_as p vs s = record { name = p.name; text = pattern_text p; variables = vs; rewrite_pattern = s; said = None }

-- the variables of a parsed pattern, and the analyzed pattern, which can be built
unfoldable pub variables_of : parts.Pattern → Outcome (List Variable)
variables_of p = names_of p >>= λ n. Ok n.variables

unfoldable pub model_of_parts : parts.Pattern → Outcome PatternModel
model_of_parts p = wellformed p >>= λ s. made_ready (ready s)

-- the registry entry of a parsed pattern
unfoldable pub kept_of : parts.Pattern → Outcome Kept
kept_of p = variables_of p >>= λ vs. model_of_parts p >>= λ t. Ok (kept_as p vs t)

abbrev pub and_kept : RegistryModel → Kept → RegistryModel
and_kept registry k = registry ++ k ∷ []

-- the registry with a parsed pattern appended
abbrev pub added : RegistryModel → parts.Pattern → Outcome RegistryModel
added registry p = kept_of p >>= λ k. Ok (and_kept registry k)

-- the registry with the pattern of a text appended
unfoldable pub defined : RegistryModel → Text → Outcome RegistryModel
defined registry text = whole_at text >>= λ p. headroom_for p.name (begins text) registry >>= λ _. added registry p

-- ---- removed patterns

-- the registry without the pattern of this name; the others keep their order and their summaries
abbrev pub forgotten : List ℕ → RegistryModel → RegistryModel
forgotten name registry = filter (λ k. not (is_named name k)) registry

-- ---- recorded checks

abbrev pub with_said : CheckSummary → Kept → Kept
with_said said k = record { name = k.name; text = k.text; variables = k.variables; rewrite_pattern = k.rewrite_pattern; said = Some said }

abbrev pub noted_one : List ℕ → CheckSummary → Kept → Kept
noted_one name said k = if is_named name k then with_said said k else k

abbrev pub noted : List ℕ → CheckSummary → RegistryModel → RegistryModel
noted name said registry = map (noted_one name said) registry

-- ---- the listing

abbrev pub note_text : Option CheckSummary → Text
note_text None = codes "not checked"
note_text (Some said) = said_text said

-- the line of a pattern: its text, and the summary of its last check in a comment
abbrev pub line_text : Kept → Text
line_text k = k.text ++ (codes " // " ++ (note_text k.said ++ 10 ∷ []))

abbrev pub listing_text : RegistryModel → Text
listing_text [] = []
listing_text (k ∷ ks) = line_text k ++ listing_text ks

-- ---- laws

-- a pattern that can be applied
pub record IsReady (k : Kept) : Type 0 where
  pub stands : is_well_formed k.rewrite_pattern ≡ true
  pub buildable : can_build k.rewrite_pattern ≡ true

-- the names are distinct, there are at most 256 patterns, and each can be applied
abbrev pub AreApart : RegistryModel → Type 0
AreApart [] = Unit {0}
AreApart (k ∷ ks) = (found k.name ks ≡ None) × AreApart ks

pub record IsRegistry (registry : RegistryModel) : Type 0 where
  pub few : length registry ≤ most_patterns
  pub apart : AreApart registry
  pub ready : All IsReady registry

-- a registry with one more definition is a registry
abbrev pub StaysARegistry : Type 0
StaysARegistry = (registry new : RegistryModel) (text : Text) → IsRegistry registry → defined registry text ≡ Ok new → IsRegistry new

-- a registry with a recorded check is a registry
abbrev pub NotingKeepsARegistry : Type 0
NotingKeepsARegistry = (registry : RegistryModel) (name : List ℕ) (said : CheckSummary) → IsRegistry registry → IsRegistry (noted name said registry)

-- a registry without one of its patterns is a registry
abbrev pub ForgettingKeepsARegistry : Type 0
ForgettingKeepsARegistry = (registry : RegistryModel) (name : List ℕ) → IsRegistry registry → IsRegistry (forgotten name registry)

-- a registry with a pattern in place of the first one of its name is a registry
abbrev pub ReplacingKeepsARegistry : Type 0
ReplacingKeepsARegistry =
    (registry : RegistryModel) (p : parts.Pattern) (place : ℕ) (k : Kept) → IsRegistry registry → kept_of p ≡ Ok k → position (is_named p.name) registry ≡ Some place
    → IsRegistry (slice_set registry place k)

-- no pattern has the name any more, and the pattern of any other name is the same as before
pub record IsForgotten (name : List ℕ) (registry new : RegistryModel) : Type 0 where
  pub gone : found name new ≡ None
  pub others : (other : List ℕ) → bytes_eq name other ≡ false → found other new ≡ found other registry

abbrev pub ForgetsOne : Type 0
ForgetsOne = (registry : RegistryModel) (name : List ℕ) → IsForgotten name registry (forgotten name registry)

-- a name that no pattern has is forgotten without a change
abbrev pub ForgetsNothing : Type 0
ForgetsNothing = (registry : RegistryModel) (name : List ℕ) → found name registry ≡ None → forgotten name registry ≡ registry

pub record IsAdded (registry new : RegistryModel) : Type 0 where
  pub last : Kept
  pub is : new ≡ registry ++ last ∷ []
  pub by_name : found last.name new ≡ Some last
  pub others : (name : List ℕ) (k : Kept) → found name registry ≡ Some k → found name new ≡ Some k

-- the printed text of the last pattern spells the pattern that `text` spells
abbrev pub LastSpells : Text → RegistryModel → Type 0
LastSpells text new =
    (q : syntax.Pattern) × Spells text q × (preceding : RegistryModel) × (last : Kept) × (new ≡ preceding ++ last ∷ []) × IsPattern q last.text []

abbrev pub AddsOne : Type 0
AddsOne = (registry new : RegistryModel) (text : Text) → defined registry text ≡ Ok new → IsAdded registry new
