-- Parses dictionaries.
use Rattle.std.specs.Prelude.{ℕ, nat_eq, Bool, false, if◌then◌else◌, List, [], Option, Some, None}
use Rattle.ir_text_tokens.specs.declared.token.Mark.TheVariants.{OpenCurly, CloseCurly, Less, Greater}
use Rattle.ir_types.specs.Things.{ContextModel}
use Rattle.ir_types.specs.Limits.{most_depth}
use Rattle.ir_types.specs.Terms.{name_term}
use Rattle.ir_types.specs.Words.{is_inherent}
use Rattle.ir_text_types.specs.Outcomes.{Outcome, Read, Wrong, ◌>>=◌, of_option, Parse}
use Rattle.ir_text_types.specs.Lists.{list_at}
use Rattle.ir_text_types.specs.Typed.{Typed, after_typed}
use Rattle.ir_text_attributes.specs.AttrReading.{Entries, key_at, value_at}
use Rattle.ir_text_operations.specs.Limits.{most_written}
use Rattle.ir_text_operations.specs.Entries as keyed

-- whether a key is always a property of an operation; if no operation is given, no key is
abbrev pub is_property_in : ContextModel → Option ℕ → ℕ → Bool
is_property_in c None k = false
is_property_in c (Some op) k = is_inherent (name_term c op) (name_term c k)

-- whether an entry with the key can't follow these entries
abbrev pub refused_in : ContextModel → Option ℕ → Entries → ℕ → Entries → Bool
refused_in c op properties k es = keyed.is_refused nat_eq (is_property_in c op) properties k es

-- the attribute of an entry; the context's flag says whether opaque attributes are allowed
abbrev pub value_here : ℕ → Parse Typed ℕ
value_here depth s = value_at s.1.opaque depth s

unfoldable pub entry_at : Option ℕ → Entries → Entries → Parse Typed (ℕ × ℕ)
entry_at op properties before s = do
  k ← key_at s
  a ← (if refused_in k.1.1 op properties k.0 before then Wrong else value_here most_depth k.1)
  Read ((k.0, a.0), a.1)

-- entries up to the closing brace
unfoldable pub entries_at : Option ℕ → Entries → Parse Typed Entries
entries_at op properties = list_at after_typed CloseCurly (entry_at op properties) most_written

unfoldable pub some_properties : Parse Typed Entries
some_properties s = do
  o ← of_option (after_typed OpenCurly s)
  es ← entries_at None [] o
  g ← of_option (after_typed Greater es.1)
  Read (es.0, g)

abbrev pub properties_from : Typed → Option Typed → Outcome (Entries × Typed)
properties_from s (Some c) = some_properties c
properties_from s None = Read ([], s)

-- the properties, if they are written
unfoldable pub properties_at : Parse Typed Entries
properties_at s = properties_from s (after_typed Less s)

abbrev pub attributes_from : ℕ → Entries → Typed → Option Typed → Outcome (Entries × Typed)
attributes_from op properties s (Some c) = entries_at (Some op) properties c
attributes_from op properties s None = Read ([], s)

-- the attribute dictionary, if it is written
unfoldable pub attributes_at : ℕ → Entries → Parse Typed Entries
attributes_at op properties s = attributes_from op properties s (after_typed OpenCurly s)
