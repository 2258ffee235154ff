-- A definition in place of another one.
use Rattle.std.specs.Prelude.{ℕ, Option, Some, None, Ok, position, slice_set}
use Rattle.user_patterns_text.specs.Refusing.{Outcome, ◌>>=◌}
use Rattle.user_patterns_text.specs.Rendered.{whole_at}
use Rattle.user_patterns_registry.specs.Registry.{Kept, RegistryModel, Text, defined, is_named, kept_of}

-- the index of the pattern of the name that a text defines
abbrev pub namesake : RegistryModel → Text → Outcome (Option ℕ)
namesake registry text = whole_at text >>= λ p. Ok (position (is_named p.name) registry)

-- the pattern of a text
abbrev pub pattern_of : Text → Outcome Kept
pattern_of text = whole_at text >>= kept_of

-- the pattern of a text at this index, in place of the one there; without an index it is defined
abbrev pub redefined_at : RegistryModel → Text → Option ℕ → Outcome RegistryModel
redefined_at registry text None = defined registry text
redefined_at registry text (Some place) = pattern_of text >>= λ k. Ok (slice_set registry place k)

-- the registry with the pattern of a text in the place of the one of its name; the others keep their order and their
-- summaries, and the new one isn't checked
abbrev pub redefined : RegistryModel → Text → Outcome RegistryModel
redefined registry text = namesake registry text >>= redefined_at registry text
