-- Parts of an operation that the reader parses by separate functions.
use Rattle.std.specs.Prelude.{◌≡◌, ℕ, Bool, if◌then◌else◌, List, Some}
use Rattle.std.specs.Str.{bytes_eq}
use Rattle.ir_text_tokens.specs.declared.token.Mark.TheVariants.{OpenRound, Colon}
use Rattle.ir_text_tokens.specs.Scopes.{Binding}
use Rattle.ir_types.specs.Things.{ContextModel}
use Rattle.ir_tree.specs.Meaning.{isolated_in, key_before_in}
use Rattle.ir_text_types.specs.declared.error.ReadError.{ReadError}
use Rattle.ir_text_types.specs.declared.error.ReadError.TheVariants as errors
use Rattle.ir_text_types.specs.Marks.{after}
use Rattle.ir_text_types.specs.Outcomes.{Read, Wrong, ◌>>=◌, of_option, Parse}
use Rattle.ir_text_types.specs.Typed.{Text, Typed, after_typed, name_step}
use Rattle.ir_text_names.specs.declared.bound.TypedValue.{TypedValue}
use Rattle.ir_text_names.specs.BlockReading.{finish}
use Rattle.ir_text_names.specs.States.{State, typed, with_typed, with_scopes}
use Rattle.ir_text_operations.specs.declared.opening.Opening.{Opening}
use Rattle.ir_text_operations.specs.Entries.{properties_of, attributes_of}
use Rattle.ir_text_attributes.specs.AttrReading.{Entries}
use Rattle.ir_text_operations.specs.EntryReading.{is_property_in, properties_at}
use Rattle.ir_text_operations.specs.PrecedingReading.{Frees, Start, start_view, start_at, op_name_at}
use Rattle.ir_text_operations.specs.OpReading.{bound_types, signature_here}

-- the error is one of the text or of memory, and not a full context
abbrev pub IsOfText : ReadError → Type 0
IsOfText errors.Memory = Unit {0}
IsOfText (errors.Full left) = ⊥
IsOfText (errors.Refused fault) = Unit {0}

-- the name of an operation and the parenthesis after it
unfoldable pub called_at : Parse Text (List ℕ)
called_at bytes = do
  name ← op_name_at bytes
  o ← of_option (after OpenRound name.1)
  Read (name.0, o)

-- an operation up to its regions
pub record Opened : Type 0 where
  pub start : Start
  pub name : ℕ
  pub isolated : Bool
  pub written : Entries

abbrev pub opening_view : Opening → Opened
opening_view o = record { start = start_view o.preceding; name = o.name; isolated = o.isolated; written = o.written.items }

unfoldable pub opening_at : Frees → List (Binding (List TypedValue)) → Parse Typed Opened
opening_at free here s = do
  h ← start_at free here s.0
  n ← name_step h.0.name s.1
  e ← properties_at (h.1, n.1)
  Read (record { start = h.0; name = n.0; isolated = isolated_in n.1 n.0; written = e.0 }, e.1)

-- the types of the results after a colon, if the operands have these types
unfoldable pub result_types_at : List ℕ → Parse Typed (List ℕ)
result_types_at inputs s = do
  c ← of_option (after_typed Colon s)
  t ← signature_here c
  if bytes_eq inputs t.0.0 then Read (t.0.1, t.1) else Wrong

-- the same, with the names of the results bound
unfoldable pub finished_at : ℕ → Start → Parse State (List ℕ)
finished_at id h s = do
  o ← result_types_at (bound_types h.operands) (typed s)
  scopes ← finish id h.results o.0 s.scopes
  Read (o.0, with_scopes (with_typed s o.1) scopes)

-- an operation's dictionaries, sorted; an attribute whose key is a property's becomes a property
abbrev pub AreDictionaries : ContextModel → ℕ → Entries → Entries → Entries → Entries → Type 0
AreDictionaries c name written others properties attributes =
    (properties ≡ properties_of (is_property_in c (Some name)) (key_before_in c) written others) × (attributes ≡ attributes_of (is_property_in c (Some name)) (key_before_in c) others)
