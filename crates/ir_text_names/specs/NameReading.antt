-- Parses the names of an operation's results. Language Reference, "Operations".
use Rattle.std.specs.Prelude.{ℕ, ◌+◌, nat_le, if◌then◌else◌, List, [], Option, Some, None}
use Rattle.ir_text_tokens.specs.declared.token.Mark.TheVariants.{Equal, Colon}
use Rattle.ir_text_tokens.specs.Tokens.{Lexeme, integer, value, next}
use Rattle.ir_text_tokens.specs.Numbers.{integer_of}
use Rattle.ir_tree.specs.Limits.{most_items}
use Rattle.ir_text_types.specs.Marks.{after}
use Rattle.ir_text_types.specs.Outcomes.{Outcome, Read, Wrong, ◌>>=◌, of_option, Parse}
use Rattle.ir_text_types.specs.Lists.{more_at}
use Rattle.ir_text_types.specs.Typed.{Text}
use Rattle.ir_text_names.specs.Packs.{Counted, counts}

abbrev pub name_from : Lexeme → List ℕ → Outcome (List ℕ × Text)
name_from (value n) rest = Read (n, rest)
name_from _ rest = Wrong

-- a name after its sigil
unfoldable pub value_name_at : Parse Text (List ℕ)
value_name_at bytes = of_option (next bytes) >>= λ t. name_from t.0 t.1

abbrev pub number_from : Lexeme → List ℕ → Outcome (ℕ × Text)
number_from (integer digits) rest = if nat_le 1 (integer_of digits) then Read (integer_of digits, rest) else Wrong
number_from _ rest = Wrong

-- a number that isn't 0
unfoldable pub nonzero_at : Parse Text ℕ
nonzero_at bytes = of_option (next bytes) >>= λ t. number_from t.0 t.1

abbrev pub some_count : Text → Option Text → Outcome (ℕ × Text)
some_count bytes (Some c) = nonzero_at c
some_count bytes None = Read (1, bytes)

abbrev pub count_within : ℕ → ℕ × Text → Outcome (ℕ × Text)
count_within before k = if nat_le (before + k.0) most_items then Read k else Wrong

-- the count after a colon, after names of `before` results
abbrev pub written_at : ℕ → Parse Text ℕ
written_at before bytes = nonzero_at bytes >>= count_within before

-- the number of results of a name, after names of `before` results; 1 if no count is written
unfoldable pub count_at : ℕ → Parse Text ℕ
count_at before bytes = some_count bytes (after Colon bytes) >>= count_within before

unfoldable pub result_at : ℕ → Parse Text Counted
result_at before bytes = do
  n ← value_name_at bytes
  k ← count_at before n.1
  Read ((n.0, k.0), k.1)

-- names up to an equal sign, for at most as many results as an operation may have
unfoldable pub names_at : Parse Text (List Counted)
names_at = more_at after Equal (λ before. result_at (counts before)) most_items []

abbrev pub results_from : Text → Lexeme → Outcome (Option (List Counted) × Text)
results_from bytes (value n) = names_at bytes >>= λ x. Read (Some x.0, x.1)
results_from bytes _ = Read (None, bytes)

-- the names of the results, if a name comes first
unfoldable pub results_at : Parse Text (Option (List Counted))
results_at bytes = of_option (next bytes) >>= λ t. results_from bytes t.0
