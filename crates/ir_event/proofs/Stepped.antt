-- Accepted edits of a module of ids are steps of its meaning.
use Rattle.std.proofs.Common.{◌≡◌, refl, ℕ, ◌+◌, true, false, None}
use Rattle.op_registry.specs.types.Things.{ContextModel}
use Rattle.op_registry.specs.types.Terms.{name_term, type_term, attr_term}
use Rattle.op_registry.specs.types.Words.{is_table}
use Rattle.ir_store.specs.trees.declared.place.Place.{Place}
use Rattle.ir_store.specs.trees.Tree.{Op, regions}
use Rattle.ir_store.specs.trees.Places.{put, shifted, without}
use Rattle.ir_store.specs.trees.Meaning.{IsSoundIn, isolated_in}
use Rattle.ir_store.specs.trees.WellFormed.{IsWellFormed, Module as Numbered}
use Rattle.ir_store.proofs.of_trees.SoundEdits.{put_sound, without_sound}
use Rattle.ir_store.specs.tree_laws.Reasons.{hold_none, put_reason, shift_reason, take_reason, with_id}
use Rattle.ir_store.proofs.of_tree_laws.WellKept.{put_keeps, take_keeps, shift_keeps}
use Rattle.ir_store.proofs.of_tree_laws.Changed.{put_changes, take_changes, shift_changes}
use Rattle.ir_event.specs.declared.event.Event.TheVariants.{Put, Take, Shift}
use Rattle.ir_event.specs.Modules.{module_meaning}
use Rattle.ir_event.specs.Step.{Step}
use Rattle.ir_event.proofs.Steps.{wellformed_meaning, sorted_meaning}
use Rattle.ir_event.proofs.Sounds.{renamed_sound, shifted_sound}
use Rattle.ir_event.proofs.Mapped.{takes_mapped, shifts_mapped}

pub put_steps : (c : ContextModel) (place : Place) (o : Op) (m : Numbered) → IsWellFormed (isolated_in c) m → IsSoundIn c m.tree → IsSoundIn c o → hold_none (regions o) ≡ true → put_reason (isolated_in c) place o m.next m.tree ≡ None
    → Step c (Put m.next place true) (module_meaning c m) (module_meaning c (record { tree = put place (with_id m.next o) m.tree; next = m.next + 1 }))
put_steps c place o m w sound own leaf e =
    let n : Numbered = record { tree = put place (with_id m.next o) m.tree; next = m.next + 1 } in
    record {
      before = wellformed_meaning c m w;
      after = wellformed_meaning c n (put_keeps (isolated_in c) place o m w leaf e);
      sorted_before = sorted_meaning c m sound;
      sorted_after = sorted_meaning c n (put_sound c place (with_id m.next o) m.tree (renamed_sound c m.next o own) sound);
      numbers = tt;
      changes = takes_mapped (name_term c) (type_term c) (attr_term c) m.next place true n m (put_changes (isolated_in c) place o m w leaf e);
    }

pub take_steps : (c : ContextModel) (x : ℕ) (m : Numbered) → IsWellFormed (isolated_in c) m → IsSoundIn c m.tree → take_reason x m.tree ≡ None → (place : Place) × Step c (Take x place false) (module_meaning c m) (module_meaning c (record m { tree = without x m.tree }))
take_steps c x m w sound e =
    let n : Numbered = record m { tree = without x m.tree } in
    let t = take_changes x false m n w.distinct e refl refl in (
      t.0,
      record {
        before = wellformed_meaning c m w;
        after = wellformed_meaning c n (take_keeps (isolated_in c) x m w e);
        sorted_before = sorted_meaning c m sound;
        sorted_after = sorted_meaning c n (without_sound c x m.tree sound);
        numbers = tt;
        changes = takes_mapped (name_term c) (type_term c) (attr_term c) x t.0 false m n t.1;
      },
    )

pub shift_steps : (c : ContextModel) (x : ℕ) (place : Place) (m : Numbered) → IsWellFormed (isolated_in c) m → IsSoundIn c m.tree → shift_reason (isolated_in c) (λ n. is_table (name_term c n)) x place m.tree ≡ None
    → (old : Place) × Step c (Shift x old place) (module_meaning c m) (module_meaning c (record m { tree = shifted x place m.tree }))
shift_steps c x place m w sound e =
    let n : Numbered = record m { tree = shifted x place m.tree } in
    let s = shift_changes (isolated_in c) (λ n. is_table (name_term c n)) x place m w.distinct e in (
      s.0,
      record {
        before = wellformed_meaning c m w;
        after = wellformed_meaning c n (shift_keeps (isolated_in c) (λ n. is_table (name_term c n)) x place m w e);
        sorted_before = sorted_meaning c m sound;
        sorted_after = sorted_meaning c n (shifted_sound c x place m.tree sound);
        numbers = tt;
        changes = shifts_mapped (name_term c) (type_term c) (attr_term c) is_table x s.0 place m n s.1;
      },
    )
