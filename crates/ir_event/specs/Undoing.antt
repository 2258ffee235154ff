-- Undoing an event in a store.
use Rattle.std.specs.Prelude.{◌≡◌, true, Some, None, IfSome, is_some}
use Rattle.std.specs.FinMap as map
use Rattle.op_registry.specs.types.Things.{ContextModel, IsName, IsAttr}
use Rattle.ir_store.specs.trees.Tree.{Op}
use Rattle.ir_store.specs.trees.Ids.{find}
use Rattle.ir_store.specs.trees.Meaning.{IsSoundIn, isolated_in, key_before_in, meaning}
use Rattle.ir_store.specs.tree_laws.Reasons.{set_operand_reason}
use Rattle.ir_store.specs.Stored.{Stored, has_slot}
use Rattle.ir_store.specs.Calls.{after_entry, after_operand, after_restore, after_retract, after_shift, CanRestore, CanRetract, CanRevert}
use Rattle.ir_store.specs.Shifting.{CanRelink}
use Rattle.ir_event.specs.declared.event.Event.{Event}
use Rattle.ir_event.specs.declared.event.Event.TheVariants.{Put, Take, SetOperand, SetEntry, Shift}
use Rattle.ir_event.specs.Modules.{Module, module_meaning}
use Rattle.ir_event.specs.Step.{Step}

-- a store after an event is undone
abbrev pub undone : ContextModel → Event → Stored → Stored
undone c (Put x place fresh) s = after_retract x fresh s
undone c (Take x place fresh) s = after_restore x place fresh s
undone c (SetOperand x k old new) s = after_operand x k old s
undone c (SetEntry x part k old new) s = after_entry (key_before_in c) x part k old s
undone c (Shift x old new) s = after_shift x old s

-- the preconditions of the store's calls that undo an event
abbrev pub MayUndo : ContextModel → Event → Stored → Type 0
MayUndo c (Put x place fresh) s = CanRetract x fresh s
MayUndo c (Take x place fresh) s = CanRestore x place fresh s
MayUndo c (SetOperand x k old new) s = set_operand_reason (isolated_in c) x k old s.module_of.tree ≡ None
MayUndo c (SetEntry x part k old new) s = CanRevert x part k old s × (IsName c k × (IfSome old (λ a. IsAttr c a) × IsSoundIn c s.module_of.tree))
MayUndo c (Shift x old new) s = CanRelink x old s.module_of.tree

-- a store still holds the operation that an event took out of module p, and still has the slot of an entry that the
-- event changed; an event on an entry that wasn't there set it
abbrev pub Keeps : ContextModel → Event → Module → Stored → Type 0
Keeps c (Put x place fresh) p s = Unit {0}
Keeps c (Take x place fresh) p s = (o : Op) × (map.get s.held x ≡ Some o) × (find x p.tree ≡ Some (meaning c o))
Keeps c (SetOperand x k old new) p s = Unit {0}
Keeps c (SetEntry x part k old new) p s = (has_slot x part k s ≡ true) × (old ≡ None → is_some new ≡ true)
Keeps c (Shift x old new) p s = Unit {0}

-- the event led from p to the module of a store, which keeps everything that undoing needs
pub record CameFrom (c : ContextModel) (e : Event) (p : Module) (s : Stored) : Type 0 where
  pub step : Step c e p (module_meaning c s.module_of)
  pub keeps : Keeps c e p s
