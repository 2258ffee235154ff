-- Binds names of results and of block arguments.
use Rattle.std.specs.Prelude.{ℕ, ◌+◌, ◌==◌, Bool, if◌then◌else◌, List, [], ◌∷◌, length, take, drop, is_some, Option, Some, None}
use Rattle.ir_text_tokens.specs.declared.token.Mark.TheVariants.{OpenRound, CloseRound, OpenCurly, Colon}
use Rattle.ir_text_tokens.specs.Tokens.{Lexeme, label, next}
use Rattle.ir_text_tokens.specs.Scopes.{Scopes, bound, find}
use Rattle.ir_types.specs.Limits.{most_depth}
use Rattle.ir_tree.specs.Limits.{most_items}
use Rattle.ir_tree.specs.declared.value.Value.TheVariants as values
use Rattle.ir_text_types.specs.Outcomes.{Outcome, Read, Wrong, ◌>>=◌, of_option, Parse}
use Rattle.ir_text_types.specs.Lists.{list_at}
use Rattle.ir_text_types.specs.Typed.{Typed, after_typed}
use Rattle.ir_text_types.specs.TypeReading.{type_at}
use Rattle.ir_text_names.specs.declared.bound.TypedValue.{TypedValue}
use Rattle.ir_text_names.specs.States.{State, to_bytes, after_in, typed, with_typed, with_scopes, inside}
use Rattle.ir_text_names.specs.NameReading.{value_name_at}
use Rattle.ir_text_names.specs.Packs.{Counted, counts}

-- ---- names

-- binds a new name
unfoldable pub bind : List ℕ → List TypedValue → Scopes (List TypedValue) → Outcome (Scopes (List TypedValue))
bind name pack s = if is_some (find name s.here) then Wrong else Read (bound name pack s)

-- the results from index k on, with their types
unfoldable pub results_of : ℕ → ℕ → List ℕ → List TypedValue
results_of id k [] = []
results_of id k (y ∷ ys) = record { value = values.Result id k; ty = y } ∷ results_of id (k + 1) ys

-- binds each name to as many results as its count, from index k on
unfoldable pub bind_results : ℕ → ℕ → List Counted → List ℕ → Scopes (List TypedValue) → Outcome (Scopes (List TypedValue))
bind_results id k [] ys s = Read s
bind_results id k (n ∷ ns) ys s = bind n.0 (results_of id k (take n.1 ys)) s >>= bind_results id (k + n.1) ns (drop n.1 ys)

-- if names are written, their counts must sum up to the number of results
abbrev pub finish : ℕ → Option (List Counted) → List ℕ → Scopes (List TypedValue) → Outcome (Scopes (List TypedValue))
finish id None outputs s = Read s
finish id (Some names) outputs s = if counts names == length outputs then bind_results id 0 names outputs s else Wrong

-- ---- blocks

-- a type; the context's flag says whether opaque types are allowed
abbrev pub type_here : ℕ → Parse Typed ℕ
type_here depth s = type_at s.1.opaque depth s

-- a colon and a type
unfoldable pub colon_type_at : Parse Typed ℕ
colon_type_at s = of_option (after_typed Colon s) >>= type_here most_depth

abbrev pub arg_after_name : ℕ → ℕ → ℕ → State → List ℕ → Outcome (ℕ × State)
arg_after_name id r k s name = do
  c ← of_option (after_in Colon s)
  y ← type_here most_depth (typed c)
  scopes ← bind name ((record { value = values.Arg id r k; ty = y.0 }) ∷ []) s.scopes
  Read (y.0, with_scopes (with_typed s y.1) scopes)

-- an argument, whose name is bound
unfoldable pub arg_at : ℕ → ℕ → List ℕ → Parse State ℕ
arg_at id r before s = value_name_at s.bytes >>= λ n. arg_after_name id r (length before) (to_bytes s n.1) n.0

unfoldable pub args_at : ℕ → ℕ → Parse State (List ℕ)
args_at id r = list_at after_in CloseRound (arg_at id r) most_items

abbrev pub label_args_from : ℕ → ℕ → State → Option State → Outcome (List ℕ × State)
label_args_from id r s (Some c) = args_at id r c
label_args_from id r s None = Read ([], s)

-- arguments in parentheses, or none
abbrev pub some_args_at : ℕ → ℕ → Parse State (List ℕ)
some_args_at id r s = label_args_from id r s (after_in OpenRound s)

-- the arguments after a label, and the colon
unfoldable pub label_args_at : ℕ → ℕ → Parse State (List ℕ)
label_args_at id r s = do
  a ← some_args_at id r s
  c ← of_option (after_in Colon a.1)
  Read (a.0, c)

abbrev pub head_from : ℕ → ℕ → State → Lexeme → List ℕ → Outcome (Option (List ℕ) × State)
head_from id r s (label l) rest = label_args_at id r (to_bytes s rest) >>= λ a. Read (Some a.0, a.1)
head_from id r s _ rest = Read (None, s)

-- a label with the arguments, or none
unfoldable pub head_at : ℕ → ℕ → Parse State (Option (List ℕ))
head_at id r s = of_option (next s.bytes) >>= λ t. head_from id r s t.0 t.1

-- ---- regions

-- a region begins, and a label may follow; in a region of an isolated operation no outer name is visible
unfoldable pub region_head_at : ℕ → ℕ → Bool → Parse State (Option (List ℕ))
region_head_at id r isolated s = do
  c ← of_option (after_in OpenCurly s)
  head_at id r (inside isolated c)
