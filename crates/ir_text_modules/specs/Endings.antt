-- The definitions of locations after the last operation, which the expansion removes.
use Rattle.std.specs.Prelude.{ℕ, zero, suc, ◌&&◌, ◌==◌, if◌then◌else◌, List, [], ◌∷◌, drop, Option, Some, None, Result, Err}
use Rattle.std.specs.Result.{result_err}
use Rattle.ir_text_tokens.specs.declared.refusal.TextRefusal.TheVariants.{LeftOut, Redefined, Unexpected}
use Rattle.ir_text_tokens.specs.declared.fault.Fault.{Fault}
use Rattle.ir_text_aliases.specs.Lexemes.{is_gap, name_of, lexeme_len}
use Rattle.ir_text_aliases.specs.Places.{trailing_loc, located, place_len}
use Rattle.ir_text_aliases.specs.Uses.{Aliases, begins_loc}
use Rattle.ir_text_aliases.specs.Values.{definition_at}
use Rattle.ir_text_aliases.specs.Walk.{fault_at}
use Rattle.ir_text_modules.specs.Definitions.{is_known, with_alias}

-- the rest of the text after a location that is the value of a new name
abbrev pub ending_value : Aliases → ℕ → List ℕ → List ℕ → Result (List ℕ) Fault
ending_value env c cs value =
    if c == 35 && begins_loc value then (if is_known (name_of c cs) env then Err (fault_at (c ∷ cs) Redefined) else located (trailing_loc (drop 1 value)))
    else Err (fault_at (c ∷ cs) LeftOut)

abbrev pub ending_of : Aliases → ℕ → List ℕ → Option (List ℕ) → Result (List ℕ) Fault
ending_of env c cs None = Err (fault_at (c ∷ cs) Unexpected)
ending_of env c cs (Some value) = ending_value env c cs value

-- the rest of the text after the definition of a location that begins with the byte, or the fault
abbrev pub ending : Aliases → ℕ → List ℕ → Result (List ℕ) Fault
ending env c cs = ending_of env c cs (definition_at c cs)

abbrev pub unless : Option Fault → Option Fault → Option Fault
unless None on = on
unless (Some fault) on = Some fault

-- the fault of the text after the last operation; the next `passed` bytes belong to what was read before
unfoldable pub endings : (env : Aliases) (passed : ℕ) (bytes : List ℕ) → Option Fault
endings env n [] = None
endings env (suc n) (c ∷ cs) = endings env n cs
endings env zero (c ∷ cs) =
    if is_gap c cs then endings env (lexeme_len c cs) cs
    else unless (result_err (ending env c cs)) (endings (with_alias (name_of c cs) 0 0 env) (place_len (ending env c cs) cs) cs)
