-- The updates of a table of uses.
use Rattle.std.specs.Prelude.{◌≡◌, ℕ, List, ◌++◌, Bool, true, false, Option, Some, option_map}
use Rattle.ir_event.specs.trees.declared.value.Value.{Value}
use Rattle.ir_event.specs.store.Nodes.{Node, node_of}
use Rattle.ir_event.specs.store.Stored.{Stored, known}
use Rattle.ir_event.specs.declared.event.Event.{Event}
use Rattle.ir_event.specs.declared.event.Event.TheVariants.{Put, Take, SetOperand, SetEntry, Shift}
use Rattle.listeners.specs.declared.key.Use.{Use}
use Rattle.listeners.specs.Uses.{operand_uses, in_order}
use Rattle.listeners.specs.Others.{others}

-- whether the event adds no operand, so that the table doesn't grow
abbrev pub adds_no_use : Event → Bool
adds_no_use (Put x place fresh) = false
adds_no_use (Take x place fresh) = true
adds_no_use (SetOperand x k old new) = false
adds_no_use (SetEntry x part key old new) = true
adds_no_use (Shift x old new) = true

-- the operands of an operation that a store knows
abbrev pub operands_in : Stored → ℕ → Option (List Value)
operands_in s x = option_map (λ (n : Node). n.head.operands) (option_map node_of (known x s))

-- operation x has these operands now, and each other operation its old ones, in some order
abbrev pub HasNow : ℕ → List Value → List Use → List Use → Type 0
HasNow x vs before after = in_order after ≡ in_order (operand_uses x 0 vs ++ others x before)

-- the uses before and after an event, where `operands` gives the current operands of an operation: an inserted
-- operation, or one with a set operand, has these, and a removed one has none
abbrev pub IsFollowed : (ℕ → Option (List Value)) → Event → List Use → List Use → Type 0
IsFollowed operands (Put x place fresh) before after = (vs : List Value) → operands x ≡ Some vs
    → HasNow x vs before after
IsFollowed operands (Take x place fresh) before after = in_order after ≡ in_order (others x before)
IsFollowed operands (SetOperand x k old new) before after = (vs : List Value) → operands x ≡ Some vs
    → HasNow x vs before after
IsFollowed operands (SetEntry x part key old new) before after = after ≡ before
IsFollowed operands (Shift x old new) before after = after ≡ before
