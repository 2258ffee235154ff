-- The definitions of aliases before the first operation. MLIR Language Reference, "Type Aliases" and "Attribute Value
-- Aliases".
use Rattle.std.specs.Prelude.{ℕ, zero, suc, ◌-◌, Bool, true, false, if◌then◌else◌, List, [], ◌∷◌, ◌++◌, length, Option, Some, None, Result, Ok, Err}
use Rattle.std.specs.Result.{result_err}
use Rattle.ir_text_tokens.specs.declared.refusal.TextRefusal.TheVariants.{LeftOut, Redefined}
use Rattle.ir_text_tokens.specs.declared.fault.Fault.{Fault}
use Rattle.ir_text_tokens.specs.Scopes.{find}
use Rattle.ir_text_tokens.specs.Bodies.{begins}
use Rattle.ir_text_aliases.specs.declared.scan_state.BracketContents.TheVariants.{Others}
use Rattle.ir_text_aliases.specs.declared.part.TextPart.{TextPart}
use Rattle.ir_text_aliases.specs.Lexemes.{is_gap, name_of, lexeme_len}
use Rattle.ir_text_aliases.specs.Uses.{Aliases}
use Rattle.ir_text_aliases.specs.Values.{Ends, definition_at, is_defined}
use Rattle.ir_text_aliases.specs.Terms.{value_end}
use Rattle.ir_text_aliases.specs.Walk.{Walked, fault_at, walk_text}
use Rattle.ir_text_modules.specs.Recursion.{repeats_own_head}

-- ---- one value

-- the part of a text that is a value, up to where `left` bytes are left; the length limit of a text applies to all
-- values together
abbrev pub value_part : List ℕ → ℕ → TextPart
value_part values left = record { before = length values; left = left; reads = true }

abbrev pub value_walk : List ℕ → Aliases → List ℕ → ℕ → Walked
value_walk values env bytes left = walk_text (value_part values left) values env Others bytes [] []

-- the expanded value and the rest of the text after it
abbrev pub Value : Type 0
Value = Result (List ℕ × List ℕ) Fault

abbrev pub rendered_or : Option Fault → List ℕ → List ℕ → Value
rendered_or None text last = Ok (text, last)
rendered_or (Some fault) text last = Err fault

abbrev pub first_fault : Option Fault → Fault → Fault
first_fault None other = other
first_fault (Some fault) other = fault

abbrev pub or_itself : Option Fault → Option Fault → Option Fault
or_itself None other = other
or_itself (Some fault) other = Some fault

-- the fault of a value that ends: that of its expansion, or `LeftOut` if the value contains a dialect's type inside
-- itself; the fault of a value that doesn't end is that of an alias before the end, if there is one
abbrev pub closed_fault : List ℕ → Walked → Option Fault
closed_fault bytes w = or_itself w.fault (if repeats_own_head w.text then Some (fault_at bytes LeftOut) else None)

abbrev pub value_up_to : List ℕ → Aliases → List ℕ → Ends → Value
value_up_to values env bytes (Ok rest) = rendered_or (closed_fault bytes (value_walk values env bytes (length rest))) (value_walk values env bytes (length rest)).text rest
value_up_to values env bytes (Err fault) = Err (first_fault (value_walk values env bytes fault.left).fault fault)

abbrev pub value_at : List ℕ → Aliases → (of_type : Bool) → List ℕ → Value
value_at values env of_type bytes = value_up_to values env bytes (value_end of_type bytes)

-- ---- one definition

abbrev pub is_some : Option (ℕ × ℕ) → Bool
is_some None = false
is_some (Some x) = true

abbrev pub is_known : List ℕ → Aliases → Bool
is_known name env = is_some (find name env)

-- the aliases with one more
abbrev pub with_alias : List ℕ → ℕ → ℕ → Aliases → Aliases
with_alias name start past env = env ++ record { name = name; value = (start, past) } ∷ []

-- the value of a new name; `bytes` begins with the sigil of the name, which is `!` for a type alias
abbrev pub value_of_name : List ℕ → Aliases → (name bytes value : List ℕ) → Value
value_of_name values env name bytes value = if is_known name env then Err (fault_at bytes Redefined) else value_at values env (begins 33 bytes) value

abbrev pub text_of : Value → List ℕ
text_of (Ok x) = x.0
text_of (Err fault) = []

abbrev pub rest_of : Value → List ℕ
rest_of (Ok x) = x.1
rest_of (Err fault) = []

-- ---- all definitions

-- the concatenated values, the aliases, the rest of the text after the last value or from a fault on, and the fault,
-- if there is one
pub record Defined : Type 0 where
  pub values : List ℕ
  pub aliases : Aliases
  pub rest : List ℕ
  pub fault : Option Fault

abbrev pub defined : List ℕ → Aliases → List ℕ → Option Fault → Defined
defined values env rest fault = record { values = values; aliases = env; rest = rest; fault = fault }

abbrev pub unless : Option Fault → List ℕ → Aliases → List ℕ → Defined → Defined
unless None values env rest on = on
unless (Some fault) values env rest on = defined values env rest (Some fault)

-- the values with one more
abbrev pub more_values : List ℕ → Value → List ℕ
more_values values v = values ++ text_of v

abbrev pub more_aliases : List ℕ → Aliases → ℕ → List ℕ → Value → Aliases
more_aliases values env c cs v = with_alias (name_of c cs) (length values) (length (more_values values v)) env

abbrev pub value_in : Option (List ℕ) → List ℕ
value_in None = []
value_in (Some value) = value

abbrev pub value_here : List ℕ → Aliases → ℕ → List ℕ → Value
value_here values env c cs = value_of_name values env (name_of c cs) (c ∷ cs) (value_in (definition_at c cs))

-- `trailing` is the rest of the text after the last value; the next `passed` bytes belong to what was read before
unfoldable pub definitions : (values : List ℕ) (env : Aliases) (trailing : List ℕ) (passed : ℕ) (bytes : List ℕ) → Defined
definitions values env trailing n [] = defined values env trailing None
definitions values env trailing (suc n) (c ∷ cs) = definitions values env trailing n cs
definitions values env trailing zero (c ∷ cs) =
    if is_gap c cs then definitions values env trailing (lexeme_len c cs) cs
    else if is_defined (definition_at c cs) then
    unless (result_err (value_here values env c cs)) values env (c ∷ cs)
    (definitions (more_values values (value_here values env c cs)) (more_aliases values env c cs (value_here values env c cs)) (rest_of (value_here values env c cs)) (length cs - length (rest_of (value_here values env c cs))) cs)
    else defined values env trailing None
