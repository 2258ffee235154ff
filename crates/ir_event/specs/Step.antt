-- The effect of an event on a module, and its inverse.
use Rattle.std.specs.Prelude.{◌≡◌, ℕ, List, [], ◌∷◌, IsTrue, Option, Some, None, option_map}
use Rattle.op_registry.specs.types.Things.{ContextModel, IsName, IsAttr}
use Rattle.op_registry.specs.types.Terms.{name_term, attr_term}
use Rattle.op_registry.specs.types.Words.{is_isolated, is_table}
use Rattle.ir_store.specs.trees.declared.value.Value.{Value}
use Rattle.ir_store.specs.trees.Tree.{OpOf}
use Rattle.ir_store.specs.trees.Limits.{every}
use Rattle.ir_store.specs.trees.Meaning.{dictionaries_rise, key_before}
use Rattle.ir_store.specs.trees.WellFormed.{IsWellFormed}
use Rattle.ir_store.specs.tree_laws.Changes.{operand_at, Takes, SetsOperand, SetsEntry, Shifts}
use Rattle.ir_event.specs.declared.event.Event.{Event}
use Rattle.ir_event.specs.declared.event.Event.TheVariants.{Put, Take, SetOperand, SetEntry, Shift}
use Rattle.ir_event.specs.Modules.{Module}

-- the change of an event; an insertion is the inverse of taking out
abbrev pub Changes : ContextModel → Event → Module → Module → Type 0
Changes c (Put x place fresh) m n = Takes x place fresh n m
Changes c (Take x place fresh) m n = Takes x place fresh m n
Changes c (SetOperand x k old new) m n = SetsOperand x k old new m n
Changes c (SetEntry x part key old new) m n = SetsEntry key_before x part (name_term c key) (option_map (attr_term c) old) (option_map (attr_term c) new) m n
Changes c (Shift x old new) m n = Shifts is_table x old new m n

-- an optional attribute is of a context
abbrev pub IsAttrOrNone : ContextModel → Option ℕ → Type 0
IsAttrOrNone c None = Unit {0}
IsAttrOrNone c (Some a) = IsAttr c a

-- the ids of an event are of a context
abbrev pub EventIsOf : ContextModel → Event → Type 0
EventIsOf c (Put x place fresh) = Unit {0}
EventIsOf c (Take x place fresh) = Unit {0}
EventIsOf c (SetOperand x k old new) = Unit {0}
EventIsOf c (SetEntry x part key old new) = IsName c key × (IsAttrOrNone c old × IsAttrOrNone c new)
EventIsOf c (Shift x old new) = Unit {0}

-- the dictionaries of a module are sorted by the bytes of their keys, without duplicates
abbrev pub IsSorted : Module → Type 0
IsSorted m = IsTrue (every (dictionaries_rise key_before) m.tree)

-- the event leads from one module to another, both well-formed and with sorted dictionaries
pub record Step (c : ContextModel) (e : Event) (m n : Module) : Type 0 where
  pub before : IsWellFormed is_isolated m
  pub after : IsWellFormed is_isolated n
  pub sorted_before : IsSorted m
  pub sorted_after : IsSorted n
  pub numbers : EventIsOf c e
  pub changes : Changes c e m n

-- the events lead, one after another, from one module to another
abbrev pub Steps : ContextModel → List Event → Module → Module → Type 0
Steps c [] m n = n ≡ m
Steps c (e ∷ es) m n = (p : Module) × Step c e m p × Steps c es p n

-- the event that undoes an event
abbrev pub inverse_of : Event → Event
inverse_of (Put x place fresh) = Take x place fresh
inverse_of (Take x place fresh) = Put x place fresh
inverse_of (SetOperand x k old new) = SetOperand x k new old
inverse_of (SetEntry x part key old new) = SetEntry x part key new old
inverse_of (Shift x old new) = Shift x new old

-- the event sets operand k of operation x of a tree from its current value to another
abbrev pub IsOperandEvent : {N T A : Type 0} → ℕ → ℕ → Value → OpOf N T A → Event → Type 0
IsOperandEvent x k new t e = (old : Value) × (e ≡ SetOperand x k old new) × (operand_at x k t ≡ Some old)

-- the event sets operand k of operation x to a value, and leads from one module to the other
abbrev pub IsOperandStep : ℕ → ℕ → Value → Event → ContextModel → Module → Module → Type 0
IsOperandStep x k new e c m n = (old : Value) × (e ≡ SetOperand x k old new) × Step c e m n
