-- The uses of a list of operations.
use Rattle.std.specs.Prelude.{ℕ, List, [], ◌∷◌, ◌++◌, Option, Some, None}
use Rattle.ir_event.specs.trees.declared.value.Value.{Value}
use Rattle.listeners.specs.declared.key.Use.{Use}
use Rattle.listeners.specs.Uses.{operand_uses}

-- the list, if there is one
abbrev pub if_any : Option (List Value) → List Value
if_any None = []
if_any (Some vs) = vs

-- the uses of the operations, in order; `operands` gives the operands of each
abbrev pub uses_by : (ℕ → Option (List Value)) → List ℕ → List Use
uses_by operands [] = []
uses_by operands (x ∷ xs) = operand_uses x 0 (if_any (operands x)) ++ uses_by operands xs
