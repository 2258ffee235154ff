-- Lists of operands.
use Rattle.std.specs.Prelude.{List, [], Option, Some, None}
use Rattle.smallvec.specs.SmallVec.{SmallVec}
use Rattle.ir_event.specs.trees.declared.value.Value.{Value}

pub record OperandList : Type 0 where
  pub items : List Value

-- an absent list is empty
abbrev pub list_of : Option (SmallVec Value) → OperandList
list_of None = record { items = [] }
list_of (Some list) = record { items = list.items }
