-- Undoing an event in a module of ids restores the previous module.
use Rattle.std.proofs.Common.{◌≡◌, refl, sym, ◌∙◌, subst, ℕ, ◌+◌, Bool, true, false, cond, Option, Some, None}
use Rattle.op_registry.specs.types.Things.{ContextModel}
use Rattle.op_registry.specs.types.Terms.{name_term, type_term, attr_term}
use Rattle.op_registry.specs.types.Words.{is_isolated, is_table}
use Rattle.ir_store.specs.trees.declared.value.Value.{Value}
use Rattle.ir_store.specs.trees.declared.place.Place.{Place}
use Rattle.ir_store.specs.trees.declared.place.Part.{Part}
use Rattle.ir_store.specs.trees.Tree.{Op}
use Rattle.ir_store.specs.trees.Ids.{find}
use Rattle.ir_store.specs.trees.Edits.{with_operand, with_entry}
use Rattle.ir_store.specs.trees.Places.{put, shifted, without}
use Rattle.ir_store.specs.trees.Meaning.{IsSoundIn, isolated_in, key_before, key_before_in, meaning}
use Rattle.ir_store.specs.trees.WellFormed.{IsWellFormed, Module as Numbered}
use Rattle.ir_store.proofs.of_trees.MappedEdits.{map_with_operand, map_with_entry, map_put, map_shifted, map_without}
use Rattle.ir_store.proofs.of_trees.SoundEdits.{without_sound}
use Rattle.ir_store.specs.tree_laws.Changes.{NextAfter, Shifts, Takes}
use Rattle.ir_store.specs.tree_laws.Reasons.{set_operand_reason, shift_reason, take_reason}
use Rattle.ir_store.specs.tree_laws.Restores.{MayRestore, MayRetract}
use Rattle.ir_store.proofs.of_tree_laws.Changed.{may_restore, may_retract, take_changes}
use Rattle.ir_store.proofs.of_tree_laws.Contents.{from_restore, from_retract, map_set_operand_reason, map_shift_reason}
use Rattle.ir_store.proofs.of_tree_laws.Reasoned.{no_shift_reason}
use Rattle.ir_store.proofs.of_tree_laws.Reverted.{operand_reverts, shift_reverts}
use Rattle.ir_store.proofs.of_tree_laws.Undone.{shifted_back, taken_back}
use Rattle.ir_store.proofs.of_tree_laws.WellKept.{retract_keeps}
use Rattle.ir_store.specs.Shifting.{CanRelink}
use Rattle.ir_event.specs.declared.event.Event.TheVariants.{Put, Take, SetOperand, SetEntry, Shift}
use Rattle.ir_event.specs.Modules.{Module, module_meaning}
use Rattle.ir_event.specs.Step.{Step}
use Rattle.ir_event.proofs.Steps.{wellformed_meaning, sorted_meaning}
use Rattle.ir_event.proofs.Mapped.{shifts_mapped, takes_mapped}

left_sound : (c : ContextModel) (x : ℕ) (place : Place) (fresh : Bool) (m n : Numbered) → IsSoundIn c m.tree → Takes x place fresh m n → IsSoundIn c n.tree
left_sound c x place fresh m n sound t = subst (λ (u : Op). IsSoundIn c u) (sym t.left) (without_sound c x m.tree sound)

-- changes of modules of ids are steps of their meanings
pub taken_steps : (c : ContextModel) (x : ℕ) (place : Place) (fresh : Bool) (m n : Numbered) → IsWellFormed (isolated_in c) m → IsWellFormed (isolated_in c) n → IsSoundIn c m.tree → Takes x place fresh m n → Step c (Take x place fresh) (module_meaning c m) (module_meaning c n)
taken_steps c x place fresh m n w u sound t = record { before = wellformed_meaning c m w; after = wellformed_meaning c n u; sorted_before = sorted_meaning c m sound; sorted_after = sorted_meaning c n (left_sound c x place fresh m n sound t); numbers = tt; changes = takes_mapped (name_term c) (type_term c) (attr_term c) x place fresh m n t }

pub given_steps : (c : ContextModel) (x : ℕ) (place : Place) (fresh : Bool) (m n : Numbered) → IsWellFormed (isolated_in c) m → IsWellFormed (isolated_in c) n → IsSoundIn c m.tree → Takes x place fresh m n → Step c (Put x place fresh) (module_meaning c n) (module_meaning c m)
given_steps c x place fresh m n w u sound t = record { before = wellformed_meaning c n u; after = wellformed_meaning c m w; sorted_before = sorted_meaning c n (left_sound c x place fresh m n sound t); sorted_after = sorted_meaning c m sound; numbers = tt; changes = takes_mapped (name_term c) (type_term c) (attr_term c) x place fresh m n t }

pub moved_steps : (c : ContextModel) (x : ℕ) (old new : Place) (m n : Numbered) → IsWellFormed (isolated_in c) m → IsWellFormed (isolated_in c) n → IsSoundIn c m.tree → IsSoundIn c n.tree → Shifts (λ k. is_table (name_term c k)) x old new m n → Step c (Shift x old new) (module_meaning c m) (module_meaning c n)
moved_steps c x old new m n w u sound also s = record { before = wellformed_meaning c m w; after = wellformed_meaning c n u; sorted_before = sorted_meaning c m sound; sorted_after = sorted_meaning c n also; numbers = tt; changes = shifts_mapped (name_term c) (type_term c) (attr_term c) is_table x old new m n s }

-- the newest operation is taken out, and its id is free again
pub newest_steps : (c : ContextModel) (x : ℕ) (m : Numbered) → IsWellFormed (isolated_in c) m → IsSoundIn c m.tree → take_reason x m.tree ≡ None → m.next ≡ x + 1 → (place : Place) × Step c (Take x place true) (module_meaning c m) (module_meaning c (record { tree = without x m.tree; next = x }))
newest_steps c x m w sound e n =
    let after : Numbered = record { tree = without x m.tree; next = x } in
    let t = take_changes x true m after w.distinct e refl (n, refl) in
    (t.0, taken_steps c x t.0 true m after w (retract_keeps (isolated_in c) x m w e n) sound t.1)

retracted_next : (fresh : Bool) (x before after : ℕ) → NextAfter fresh x before after → cond fresh x before ≡ after
retracted_next true x before after h = sym h.1
retracted_next false x before after h = sym h

restored_next : (fresh : Bool) (x before after : ℕ) → NextAfter fresh x before after → cond fresh (x + 1) after ≡ before
restored_next true x before after h = sym h.0
restored_next false x before after h = h

-- an inserted operation is taken out
pub put_undone : (c : ContextModel) (x : ℕ) (place : Place) (fresh : Bool) (p : Module) (m : Numbered) → Step c (Put x place fresh) p (module_meaning c m) → MayRetract x fresh m × (module_meaning c (record { tree = without x m.tree; next = cond fresh x m.next }) ≡ p)
put_undone c x place fresh p m s = (
  from_retract (name_term c) (type_term c) (attr_term c) x fresh m (may_retract x place fresh (module_meaning c m) p s.changes),
  λ i. record { tree = (sym (map_without (name_term c) (type_term c) (attr_term c) x m.tree) ∙ sym s.changes.left) i; next = retracted_next fresh x m.next p.next s.changes.next i },
)

-- a removed operation is inserted again
pub take_undone : (c : ContextModel) (x : ℕ) (place : Place) (fresh : Bool) (p : Module) (m : Numbered) → Step c (Take x place fresh) p (module_meaning c m) → (o : Op) → find x p.tree ≡ Some (meaning c o)
    → MayRestore x place fresh o m × (module_meaning c (record { tree = put place o m.tree; next = cond fresh (x + 1) m.next }) ≡ p)
take_undone c x place fresh p m s o found = (
  from_restore (name_term c) (type_term c) (attr_term c) x place fresh o m (may_restore is_isolated x place fresh (module_meaning c m) p s.before s.changes (meaning c o) found),
  λ i. record {
    tree = (sym (map_put (name_term c) (type_term c) (attr_term c) place o m.tree) ∙ taken_back x place fresh p (module_meaning c m) s.before.distinct s.changes (meaning c o) found) i;
    next = restored_next fresh x p.next m.next s.changes.next i;
  },
)

-- an operand is set back
pub operand_undone : (c : ContextModel) (x k : ℕ) (old new : Value) (p : Module) (m : Numbered) → Step c (SetOperand x k old new) p (module_meaning c m) → (set_operand_reason (isolated_in c) x k old m.tree ≡ None) × (module_meaning c (record m { tree = with_operand x k old m.tree }) ≡ p)
operand_undone c x k old new p m s = (
  sym (map_set_operand_reason (name_term c) (type_term c) (attr_term c) is_isolated x k old m.tree) ∙ operand_reverts is_isolated x k old new p (module_meaning c m) s.before s.after s.changes,
  λ i. record { tree = (sym (map_with_operand (name_term c) (type_term c) (attr_term c) x k old m.tree) ∙ sym s.changes.before) i; next = s.changes.next i },
)

-- an entry is set back
pub entry_undone : (c : ContextModel) (x : ℕ) (part : Part) (k : ℕ) (old new : Option ℕ) (p : Module) (m : Numbered) → Step c (SetEntry x part k old new) p (module_meaning c m) → module_meaning c (record m { tree = with_entry (key_before_in c) x part k old m.tree }) ≡ p
entry_undone c x part k old new p m s = λ i. record { tree = (sym (map_with_entry (name_term c) (type_term c) (attr_term c) key_before x part k old m.tree) ∙ sym s.changes.before) i; next = s.changes.next i }

-- an operation is shifted back
pub shift_undone : (c : ContextModel) (x : ℕ) (old new : Place) (p : Module) (m : Numbered) → Step c (Shift x old new) p (module_meaning c m)
    → (shift_reason (isolated_in c) (λ n. is_table (name_term c n)) x old m.tree ≡ None) × (module_meaning c (record m { tree = shifted x old m.tree }) ≡ p)
shift_undone c x old new p m s = (
  sym (map_shift_reason (name_term c) (type_term c) (attr_term c) is_isolated is_table x old m.tree) ∙ shift_reverts is_isolated is_table x old new p (module_meaning c m) s.before s.after s.changes,
  λ i. record { tree = (sym (map_shifted (name_term c) (type_term c) (attr_term c) x old m.tree) ∙ shifted_back is_table x old new p (module_meaning c m) s.before.distinct s.changes) i; next = s.changes.next i },
)

-- the precondition of moving an operation back
pub relink_undone : (c : ContextModel) (x : ℕ) (old new : Place) (p : Module) (m : Numbered) → Step c (Shift x old new) p (module_meaning c m) → CanRelink x old m.tree
relink_undone c x old new p m s =
    let r = no_shift_reason (isolated_in c) (λ n. is_table (name_term c n)) x old m.tree (shift_undone c x old new p m s).0 in
    record { there = r.there; inner = r.inner; point = r.point; outside = r.outside }
