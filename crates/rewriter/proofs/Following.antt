-- Theorems about journals.
use Rattle.std.proofs.Common.{◌≡◌, ℕ, ◌≤◌, List, [], ◌∷◌, ◌++◌, drop, Option, Some, None, true}
use Rattle.ir_event.specs.types.Sound.{IsSound}
use Rattle.ir_event.specs.types.Things.{ContextModel, IsExtendedBy}
use Rattle.ir_event.specs.trees.declared.place.Part.{Part}
use Rattle.ir_event.specs.trees.declared.place.Place.{Place}
use Rattle.ir_event.specs.trees.declared.value.Value.{Value}
use Rattle.ir_event.specs.trees.Tree.{Op}
use Rattle.ir_event.specs.trees.Meaning.{IsSoundIn, isolated_in, key_before_in}
use Rattle.ir_event.specs.tree_laws.Reasons.{holds_none, set_entry_reason}
use Rattle.ir_event.specs.store.Calls.{Releases, after_entry, after_operand, after_put, after_shift, after_take}
use Rattle.ir_event.specs.store.Stored.{Stored}
use Rattle.ir_event.specs.declared.event.Event.{Event}
use Rattle.ir_event.specs.Modules.{Module, module_meaning}
use Rattle.ir_event.specs.Step.{IsOperandStep}
use Rattle.ir_event.specs.Edits.{IsEntryStep, IsPutStep, IsShiftStep, IsTakeStep}
use Rattle.ir_event.specs.Undoing.{CameFrom, undone}
use Rattle.rewriter_machine.specs.Journals.{IsJournal, TracksRemovedKeys, IsStoreOf, HasNoStaleIds, Noted, before}
use Rattle.rewriter_machine.proofs.Noting as noting
use Rattle.rewriter_machine.proofs.Ended as ended
use Rattle.rewriter_machine.proofs.Grown as grown
use Rattle.rewriter_machine.proofs.Released as released
use Rattle.rewriter_machine.proofs.Kept as kept

abbrev pub then : ContextModel → Stored → Module
then c u = module_meaning c u.module_of

module _ (c : ContextModel) where
  pub put_noted : (place : Place) (o : Op) (e : Event) (es : List Event) (s u : Stored) → IsStoreOf c s → IsJournal c es s → IsSoundIn c o → u ≡ after_put place o s → IsPutStep place e c (then c s) (then c u) → Noted c es e s u
  put_noted place o e es s u w h own is step = noting.put_noted c es s w h e u place o own is step

  pub take_noted : (x : ℕ) (e : Event) (es : List Event) (s u : Stored) → IsStoreOf c s → IsJournal c es s → u ≡ after_take x s → IsTakeStep x e c (then c s) (then c u) → Noted c es e s u
  take_noted x e es s u w h is step = noting.take_noted c es s w h e u x is step

  pub operand_noted : (x k : ℕ) (v : Value) (e : Event) (es : List Event) (s u : Stored) → IsStoreOf c s → IsJournal c es s → u ≡ after_operand x k v s → IsOperandStep x k v e c (then c s) (then c u) → Noted c es e s u
  operand_noted x k v e es s u w h is step = noting.operand_noted c es s w h e u x k v is step

  pub entry_noted : (x : ℕ) (part : Part) (k : ℕ) (a : Option ℕ) (e : Event) (es : List Event) (s u : Stored) → IsStoreOf c s → IsJournal c es s → TracksRemovedKeys s
      → set_entry_reason (key_before_in c) x part k a s.module_of.tree ≡ None → u ≡ after_entry (key_before_in c) x part k a s → IsEntryStep x part k a e c (then c s) (then c u) → Noted c es e s u
  entry_noted x part k a e es s u w h slotted reason is step = noting.entry_noted c es s w h e u x part k a slotted reason is step

  pub shift_noted : (x : ℕ) (place : Place) (e : Event) (es : List Event) (s u : Stored) → IsStoreOf c s → IsJournal c es s → u ≡ after_shift x place s → IsShiftStep x place e c (then c s) (then c u) → Noted c es e s u
  shift_noted x place e es s u w h is step = noting.shift_noted c es s w h e u x place is step

  pub grown_journal : (d : ContextModel) (es : List Event) (s : Stored) → IsStoreOf c s → IsSound d → IsExtendedBy c d → IsJournal c es s → IsJournal d es s
  grown_journal d es s w sound g h = grown.journal_stays c d g sound es s w h

  pub grown_before : (d : ContextModel) (es : List Event) (s : Stored) → IsStoreOf c s → IsSound d → IsExtendedBy c d → IsJournal c es s → (k : ℕ) → before d (drop k es) s ≡ before c (drop k es) s
  grown_before d es s w sound g h k = grown.before_stays c d g sound (drop k es) s w (ended.journal_drop c k es s h)

  pub released_journal : (from : ℕ) (es : List Event) (s u : Stored) → IsStoreOf c s → IsJournal c es s → Releases from s u → s.module_of.next ≤ from → 1 ≤ from → IsJournal c es u
  released_journal from es s u w h r most le = released.journal_released from s u r c w most le es h

  pub released_before : (from : ℕ) (es : List Event) (s u : Stored) → IsStoreOf c s → IsJournal c es s → Releases from s u → s.module_of.next ≤ from → 1 ≤ from → (k : ℕ) → before c (drop k es) u ≡ before c (drop k es) s
  released_before from es s u w h r most le k = released.before_released from s u r c w most le (drop k es) (ended.journal_drop c k es s h)

  pub newest_undone : (es : List Event) (e : Event) (s : Stored) → IsJournal c (es ++ e ∷ []) s → CameFrom c e (before c (e ∷ []) s) s × IsJournal c es (undone c e s)
  newest_undone es e s h = (let l = ended.journal_last c es e s h in (l.1.1, l.0))

  pub slotted_undone : (e : Event) (p : Module) (s : Stored) → IsStoreOf c s → CameFrom c e p s → TracksRemovedKeys s → TracksRemovedKeys (undone c e s)
  slotted_undone e p s w f h = kept.slotted_undone c e p s w f h

pub slotted_put : (place : Place) (o : Op) (s : Stored) → holds_none (Some o) ≡ true → TracksRemovedKeys s → TracksRemovedKeys (after_put place o s)
slotted_put place o s leaf h = kept.slotted_put place o s leaf h

pub slotted_take : (x : ℕ) (s : Stored) → TracksRemovedKeys s → TracksRemovedKeys (after_take x s)
slotted_take x s h = kept.slotted_take x s h

pub slotted_operand : (x k : ℕ) (v : Value) (s : Stored) → TracksRemovedKeys s → TracksRemovedKeys (after_operand x k v s)
slotted_operand x k v s h = kept.slotted_operand x k v s h

pub slotted_entry : (c : ContextModel) (x : ℕ) (part : Part) (k : ℕ) (a : Option ℕ) (s : Stored) → TracksRemovedKeys s → TracksRemovedKeys (after_entry (key_before_in c) x part k a s)
slotted_entry c x part k a s h = kept.slotted_entry (key_before_in c) x part k a s h

pub slotted_shift : (x : ℕ) (place : Place) (s : Stored) → TracksRemovedKeys s → TracksRemovedKeys (after_shift x place s)
slotted_shift x place s h = kept.slotted_shift x place s h

pub slotted_released : (from : ℕ) (s u : Stored) → Releases from s u → TracksRemovedKeys s → TracksRemovedKeys u
slotted_released from s u r h = released.slotted_released from s u r h

pub tidy_put : (place : Place) (o : Op) (s : Stored) → HasNoStaleIds s → HasNoStaleIds (after_put place o s)
tidy_put place o s h = kept.tidy_put place o s h

pub tidy_take : (c : ContextModel) (x : ℕ) (s : Stored) → IsStoreOf c s → HasNoStaleIds s → HasNoStaleIds (after_take x s)
tidy_take c x s w h = kept.tidy_taken (isolated_in c) x s w.wellformed h

pub tidy_released : (from : ℕ) (s u : Stored) → Releases from s u → from ≤ s.module_of.next → HasNoStaleIds u
tidy_released from s u r le = released.tidy_released from s u r le
