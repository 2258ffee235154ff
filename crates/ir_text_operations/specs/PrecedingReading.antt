-- Parses the header of an operation.
use Rattle.std.specs.Prelude.{ℕ, ◌==◌, if◌then◌else◌, List, length, map, slice_get, Option, Some, None, option_map}
use Rattle.std.specs.List.{list_all}
use Rattle.std.specs.Char.{is_ascii_digit}
use Rattle.std.specs.Cow.{cow_slice_items}
use Rattle.ir_text_tokens.specs.declared.token.Mark.TheVariants.{OpenRound, CloseRound}
use Rattle.ir_text_tokens.specs.Tokens.{Lexeme, value, string, hash, next}
use Rattle.ir_text_tokens.specs.Strings.{string_bytes}
use Rattle.ir_text_tokens.specs.Numbers.{place_value}
use Rattle.ir_text_tokens.specs.Scopes.{Binding}
use Rattle.ir_tree.specs.Limits.{most_items}
use Rattle.ir_text_types.specs.Marks.{after}
use Rattle.ir_text_types.specs.Outcomes.{Outcome, Read, Wrong, ◌>>=◌, of_option, Parse}
use Rattle.ir_text_types.specs.Lists.{list_at}
use Rattle.ir_text_names.specs.declared.bound.TypedValue.{TypedValue}
use Rattle.ir_text_names.specs.Packs.{Counted, named_view}
use Rattle.ir_text_types.specs.Typed.{Text}
use Rattle.ir_text_names.specs.NameReading.{results_at}
use Rattle.ir_text_operations.specs.declared.op_header.OpHeader.{OpHeader}
use Rattle.ir_text_operations.specs.Free.{pack_denoted_by}

abbrev pub op_name_from : Lexeme → List ℕ → Outcome (List ℕ × Text)
op_name_from (string raw) rest = if length (string_bytes raw) == 0 then Wrong else Read (string_bytes raw, rest)
op_name_from _ rest = Wrong

-- the name of an operation, which isn't empty
unfoldable pub op_name_at : Parse Text (List ℕ)
op_name_at bytes = of_option (next bytes) >>= λ t. op_name_from t.0 t.1

abbrev pub place_of : Text → Lexeme → List ℕ → Outcome (ℕ × Text)
place_of bytes (hash digits) rest = if list_all is_ascii_digit digits then Read (place_value 10 digits, rest) else Wrong
place_of bytes _ rest = Read (0, bytes)

abbrev pub place_from : Text → Option (Lexeme × Text) → Outcome (ℕ × Text)
place_from bytes (Some t) = place_of bytes t.0 t.1
place_from bytes None = Read (0, bytes)

-- the index after a hash sign, or 0 if there is no hash sign
unfoldable pub place_at : Parse Text ℕ
place_at bytes = place_from bytes (next bytes)

-- the first value of a pack
abbrev pub first_at : List TypedValue → Parse Text TypedValue
first_at pack bytes = of_option (slice_get pack 0) >>= λ b. Read (b, bytes)

-- one value of a pack
unfoldable pub member_at : List TypedValue → Parse Text TypedValue
member_at pack bytes = place_at bytes >>= λ k. of_option (slice_get pack k.0) >>= λ b. Read (b, k.1)

abbrev pub member_of : Option (List TypedValue) → Parse Text TypedValue
member_of pack bytes = of_option pack >>= λ values. member_at values bytes

-- the values of free names
abbrev pub Frees : Type 0
Frees = List ℕ → Option TypedValue

abbrev pub use_from : Frees → List (Binding (List TypedValue)) → Lexeme → List ℕ → Outcome (TypedValue × Text)
use_from free here (value n) rest = member_of (pack_denoted_by free here n) rest
use_from free here _ rest = Wrong

-- a name that is visible or free
unfoldable pub use_at : Frees → List (Binding (List TypedValue)) → Parse Text TypedValue
use_at free here bytes = of_option (next bytes) >>= λ t. use_from free here t.0 t.1

unfoldable pub uses_at : Frees → List (Binding (List TypedValue)) → Parse Text (List TypedValue)
uses_at free here = list_at after CloseRound (λ before. use_at free here) most_items

pub record Start : Type 0 where
  pub results : Option (List Counted)
  pub name : List ℕ
  pub operands : List TypedValue

abbrev pub start_view : OpHeader → Start
start_view f = record { results = option_map (λ v. map named_view v.items) f.results; name = cow_slice_items f.name; operands = f.operands.items }

unfoldable pub start_at : Frees → List (Binding (List TypedValue)) → Parse Text Start
start_at free here bytes = do
  results ← results_at bytes
  name ← op_name_at results.1
  o ← of_option (after OpenRound name.1)
  operands ← uses_at free here o
  Read (record { results = results.0; name = name.0; operands = operands.0 }, operands.1)
