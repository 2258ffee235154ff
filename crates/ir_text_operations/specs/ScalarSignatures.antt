-- Function types of scalar types that the context has.
use Rattle.std.specs.Prelude.{◌≡◌, ◌≤◌, ℕ, suc, Bool, List, ◌++◌, length}
use Rattle.ir_text_tokens.specs.declared.token.Mark.TheVariants.{CloseRound}
use Rattle.ir_tree.specs.Limits.{most_items}
use Rattle.ir_types.specs.Limits.{most_depth}
use Rattle.ir_types.specs.Things.{ContextModel}
use Rattle.ir_text_types.specs.Outcomes.{Read}
use Rattle.ir_text_types.specs.Lists.{more_at}
use Rattle.ir_text_types.specs.Typed.{Text, after_typed}
use Rattle.ir_text_types.specs.TypeReading.{many, type_at, types_at, outputs_at, function_type_at}

-- a text begins with a type, which the context has
abbrev pub IsTypeAt : ContextModel → Text → ℕ → Text → Type 0
IsTypeAt c bytes n rest = (o : Bool) (depth : ℕ) → type_at o (suc depth) (bytes, c) ≡ Read (n, (rest, c))

-- after the first inputs of a function type, a text begins with these types and the closing parenthesis
abbrev pub AreMoreInputsAt : ContextModel → Text → List ℕ → Text → Type 0
AreMoreInputsAt c bytes types rest =
    (o : Bool) (headroom : ℕ) (items : List ℕ) → length types ≤ headroom
    → more_at after_typed CloseRound (λ before. type_at o most_depth) headroom items (bytes, c) ≡ Read (items ++ types, (rest, c))

-- a text begins with the inputs of a function type and the closing parenthesis
abbrev pub AreInputsAt : ContextModel → Text → List ℕ → Text → Type 0
AreInputsAt c bytes types rest = (o : Bool) → types_at (type_at o most_depth) many (bytes, c) ≡ Read (types, (rest, c))

-- a text begins with a function type with these inputs, up to its arrow
abbrev pub HasInputs : ContextModel → Text → List ℕ → Text → Type 0
HasInputs c bytes types rest =
    (o : Bool) (outputs : List ℕ) (end : Text) → outputs_at (type_at o most_depth) most_items (rest, c) ≡ Read (outputs, (end, c))
    → function_type_at o (bytes, c) ≡ Read ((types, outputs), (end, c))

-- a text begins with the outputs of a function type
abbrev pub AreOutputsAt : ContextModel → Text → List ℕ → Text → Type 0
AreOutputsAt c bytes types rest = (o : Bool) → outputs_at (type_at o most_depth) most_items (bytes, c) ≡ Read (types, (rest, c))
