-- The effect of one definition.
use Rattle.std.specs.Prelude.{◌≡◌, ℕ, List, ◌++◌, length, Ok}
use Rattle.ir_text_aliases.specs.Uses.{Aliases}
use Rattle.ir_text_modules.specs.Definitions.{value_of_name, with_alias}

-- the value is appended to the other values, and the name is bound to it; the rest of the text follows
abbrev pub Adds : (name bytes value : List ℕ) (values : List ℕ) (env : Aliases) (rest new : List ℕ) (more : Aliases) → Type 0
Adds name bytes value values env rest new more =
    (text : List ℕ) × (value_of_name values env name bytes value ≡ Ok (text, rest)) × (new ≡ values ++ text) × (more ≡ with_alias name (length values) (length new) env)
