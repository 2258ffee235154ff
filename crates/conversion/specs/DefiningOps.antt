-- The defining operations of operands.
use Rattle.std.specs.Prelude.{ℕ, List, [], ◌∷◌}
use Rattle.ir_event.specs.trees.declared.value.Value.{Value}
use Rattle.ir_event.specs.trees.declared.value.Value.TheVariants.{Result, Arg}

-- the defining operations of values, in the order of the values
abbrev pub defining_ops_of : List Value → List ℕ
defining_ops_of [] = []
defining_ops_of (Result x k ∷ vs) = x ∷ defining_ops_of vs
defining_ops_of (Arg x r k ∷ vs) = defining_ops_of vs
