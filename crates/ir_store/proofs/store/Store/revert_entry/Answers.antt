use Rattle.std.proofs.Common.{◌∙◌, ap, sym}
use Rattle.ir_store_reads.specs.trees.Ids.{has_id}
use Rattle.ir_store_reads.specs.trees.Limits.{every}
use Rattle.ir_store_reads.specs.trees.Meaning.{key_before_in, dictionaries_rise}
use Rattle.ir_store_reads.specs.Stored.{has_slot, has_entry}
use Rattle.ir_store.specs.Calls.{after_entry}
use Rattle.ir_store.proofs.Called.{rows_in, keys_in, same_inside}
use Rattle.ir_store_reads.proofs.Marking.{can_mark_used}
use Rattle.ir_store_reads.proofs.SlotLaws.{found}
use Rattle.ir_store.proofs.Changes.{set_sound}
use Rattle.ir_store.proofs.Dictionaries.{revert_found, revert_sorted, revert_slot, revert_there, entry_given, entry_fits, entry_done}
use Rattle.ir_store.proofs.store.Store.revert_entry.Goals as goal

pub revert-requires-clause-sorted : goal.revert-requires-clause-sorted
revert-requires-clause-sorted c =
    let before = key_before_in c.args.ctx.now in
    revert_sorted c.self.inside c.self.invariant c.args.op c.args.part c.args.key before c.args.value c.in-Some.at c.in-Some.ensures
    (ap (λ s. every (dictionaries_rise before) s.module_of.tree) c.self.view_is ∙ c.requires.sound.sorted)

pub revert-requires-clause-slot : goal.revert-requires-clause-slot
revert-requires-clause-slot c =
    revert_slot c.self.inside c.self.invariant c.args.op c.args.part c.args.key (key_before_in c.args.ctx.now) c.args.value c.in-Some.at c.in-Some.ensures
    (ap (has_slot c.args.op c.args.part c.args.key) c.self.view_is ∙ c.requires.can.slot)

pub revert-requires-clause-entry : goal.revert-requires-clause-entry
revert-requires-clause-entry c e =
    revert_there c.self.inside c.self.invariant c.args.op c.args.part c.args.key (key_before_in c.args.ctx.now) c.args.value c.in-Some.at c.in-Some.ensures
    (ap (has_entry c.args.op c.args.part c.args.key) c.self.view_is ∙ c.requires.can.entry e)

pub same-self : goal.same-self
same-self c = same_inside c.self.inside _ _ _

pub returns-in_default-clause-done : goal.returns-in_default-clause-done
returns-in_default-clause-done c =
    absurd (revert_found c.self.inside c.self.invariant c.args.op c.args.part c.args.key (key_before_in c.args.ctx.now) c.args.value (ap (λ s. has_id c.args.op s.module_of.tree) c.self.view_is ∙ c.requires.can.there) c.in_default.ensures)

pub link_slot-requires : goal.link_slot-requires
link_slot-requires c =
    let a = c.self.inside in
    let w = c.self.invariant in
    can_mark_used (rows_in a) a.marks.homes c.in-Some.at w.marked (w.right.live_used c.in-Some.at (found (rows_in a) (keys_in a) a.sibs a.root a.represented.0 w.right a.represented.1 c.args.op c.in-Some.at (sym c.in-Some.ensures)).live)

pub invariant_of-self-inside-2 : goal.invariant_of-self-inside-2
invariant_of-self-inside-2 c =
    entry_given c.self.inside c.self.invariant c.args.op c.args.part c.args.key (key_before_in c.args.ctx.now) c.args.value c.in-Some.at c.in-Some.ensures c.revert.new.self c.revert.ensures

pub invariant_of-self : goal.invariant_of-self
invariant_of-self c =
    entry_fits c.self.inside c.self.invariant c.args.op c.args.part c.args.key (key_before_in c.args.ctx.now) c.args.value c.in-Some.at c.in-Some.ensures c.revert.new.self c.revert.ensures
    c.self-2-1.given.0 c.link_slot.new.marks.homes c.link_slot.ensures

pub returns-clause-done : goal.returns-clause-done
returns-clause-done c =
    let before = key_before_in c.args.ctx.now in
    entry_done c.self.inside c.self.invariant c.args.op c.args.part c.args.key before c.args.value c.in-Some.at c.in-Some.ensures c.revert.new.self c.revert.ensures
    c.self-2-1.given.0 c.self-2-1.given.1.0 c.self-2-1.given.1.1.0
    ∙ ap (after_entry before c.args.op c.args.part c.args.key c.args.value) c.self.view_is

pub returns-clause-sound : goal.returns-clause-sound
returns-clause-sound c =
    let before = key_before_in c.args.ctx.now in
    set_sound c.args.ctx.now c.args.op c.args.part c.args.key c.args.value c.args.self.now _ c.requires.key c.requires.value c.requires.sound
    (entry_done c.self.inside c.self.invariant c.args.op c.args.part c.args.key before c.args.value c.in-Some.at c.in-Some.ensures c.revert.new.self c.revert.ensures
    c.self-2-1.given.0 c.self-2-1.given.1.0 c.self-2-1.given.1.1.0
    ∙ ap (after_entry before c.args.op c.args.part c.args.key c.args.value) c.self.view_is)
