use Rattle.std.proofs.Common.{refl, ◌∙◌, sym, ap, ⊎_elim, inl, inr}
use Rattle.std.specs.Prelude.{Ok, Err}
use Rattle.std.proofs.lemmas.Bool.{false≢true}
use Rattle.ir_store_reads.specs.trees.Limits.{every}
use Rattle.ir_store_reads.specs.trees.Meaning.{key_before_in, dictionaries_rise}
use Rattle.ir_store_reads.specs.trees.Edits.{part_of}
use Rattle.ir_store_reads.specs.tree_laws.Reasons.{entry_reason, set_entry_reason}
use Rattle.ir_store_reads.specs.Stored.{has_slot}
use Rattle.ir_store.specs.Calls.{after_entry}
use Rattle.ir_store.proofs.Called.{rows_in, keys_in, same_inside}
use Rattle.ir_store_reads.proofs.Marking.{can_mark_used}
use Rattle.ir_store_reads.proofs.SlotLaws.{found}
use Rattle.ir_store.proofs.Dictionaries.{refused_some, refused_memory, revert_sorted, revert_slot, entry_found, there_before, entry_given, same_given, entry_fits, same_fits, entry_done, same_done}
use Rattle.ir_store.proofs.store.Store.enter.Goals as goal

pub same-self : goal.same-self
same-self c = same_inside c.self.inside _ _ _

pub returns-in-Err-clause-done : goal.returns-in-Err-clause-done
returns-in-Err-clause-done c = (
  refused_some _ c.in-Err.e
      (sym (ap (λ s. set_entry_reason (key_before_in c.args.ctx.now) c.args.op c.args.part c.args.key c.args.value s.module_of.tree) c.self.view_is)
      ∙ entry_found c.self.inside c.self.invariant c.args.op c.args.part c.args.key (key_before_in c.args.ctx.now) c.args.value (Err c.in-Err.e) c.in-Err.ensures),
  refl,
)

pub returns-in-Err-clause-slot : goal.returns-in-Err-clause-slot
returns-in-Err-clause-slot c = λ _ _.
    sym (ap (λ s. set_entry_reason (key_before_in c.args.ctx.now) c.args.op c.args.part c.args.key c.args.value s.module_of.tree) c.self.view_is)
    ∙ entry_found c.self.inside c.self.invariant c.args.op c.args.part c.args.key (key_before_in c.args.ctx.now) c.args.value (Err c.in-Err.e) c.in-Err.ensures

pub change-requires-clause-entry : goal.change-requires-clause-entry
change-requires-clause-entry c =
    let before = key_before_in c.args.ctx.now in
    let p = entry_found c.self.inside c.self.invariant c.args.op c.args.part c.args.key before c.args.value (Ok c.in-Ok.at) c.in-Ok.ensures in
    there_before before c.args.key c.args.value _ p.1.1

pub link_slot-requires : goal.link_slot-requires
link_slot-requires c =
    let a = c.self.inside in
    let w = c.self.invariant in
    let p = entry_found a w c.args.op c.args.part c.args.key (key_before_in c.args.ctx.now) c.args.value (Ok c.in-Ok.at) c.in-Ok.ensures in
    can_mark_used (rows_in a) a.marks.homes c.in-Ok.at w.marked (w.right.live_used c.in-Ok.at (found (rows_in a) (keys_in a) a.sibs a.root a.represented.0 w.right a.represented.1 c.args.op c.in-Ok.at (sym p.0)).live)

pub invariant_of-self-inside-2 : goal.invariant_of-self-inside-2
invariant_of-self-inside-2 c =
    let before = key_before_in c.args.ctx.now in
    let p = entry_found c.self.inside c.self.invariant c.args.op c.args.part c.args.key before c.args.value (Ok c.in-Ok.at) c.in-Ok.ensures in
    entry_given c.self.inside c.self.invariant c.args.op c.args.part c.args.key before c.args.value c.in-Ok.at p.0 c.change.new.self c.in-Ok-change.ensures.ok

pub invariant_of-self-inside-in-Err-change : goal.invariant_of-self-inside-in-Err-change
invariant_of-self-inside-in-Err-change c =
    let before = key_before_in c.args.ctx.now in
    let p = entry_found c.self.inside c.self.invariant c.args.op c.args.part c.args.key before c.args.value (Ok c.in-Ok.at) c.in-Ok.ensures in
    same_given c.self.inside c.self.invariant c.args.op c.args.part c.args.key before c.args.value c.in-Ok.at p.0 c.change.new.self c.in-Err-change.ensures.err

pub invariant_of-self : goal.invariant_of-self
invariant_of-self c =
    let before = key_before_in c.args.ctx.now in
    let p = entry_found c.self.inside c.self.invariant c.args.op c.args.part c.args.key before c.args.value (Ok c.in-Ok.at) c.in-Ok.ensures in
    same_fits c.self.inside c.self.invariant c.args.op c.args.part c.args.key before c.args.value c.in-Ok.at p.0 c.change.new.self
    c.in-Err-change.ensures.err c.self-in-Err-change-1.given.0

pub returns-clause-done : goal.returns-clause-done
returns-clause-done c =
    let before = key_before_in c.args.ctx.now in
    let p = entry_found c.self.inside c.self.invariant c.args.op c.args.part c.args.key before c.args.value (Ok c.in-Ok.at) c.in-Ok.ensures in (
      sym (ap (λ s. set_entry_reason before c.args.op c.args.part c.args.key c.args.value s.module_of.tree) c.self.view_is) ∙ p.1.0,
      entry_done c.self.inside c.self.invariant c.args.op c.args.part c.args.key before c.args.value c.in-Ok.at p.0 c.change.new.self
          c.in-Ok-change.ensures.ok c.self-2-1.given.0 c.self-2-1.given.1.0 c.self-2-1.given.1.1.0
          ∙ ap (after_entry before c.args.op c.args.part c.args.key c.args.value) c.self.view_is,
    )

pub returns-in-Err-change-clause-done : goal.returns-in-Err-change-clause-done
returns-in-Err-change-clause-done c =
    let before = key_before_in c.args.ctx.now in
    let p = entry_found c.self.inside c.self.invariant c.args.op c.args.part c.args.key before c.args.value (Ok c.in-Ok.at) c.in-Ok.ensures in (
      refused_memory _ (sym (ap (λ s. set_entry_reason before c.args.op c.args.part c.args.key c.args.value s.module_of.tree) c.self.view_is) ∙ p.1.0),
      same_done c.self.inside c.self.invariant c.args.op c.args.part c.args.key before c.args.value c.in-Ok.at p.0 c.change.new.self
          c.in-Err-change.ensures.err c.self-in-Err-change-1.given.0 c.self-in-Err-change-1.given.1.0 c.self-in-Err-change-1.given.1.1.0
          ∙ c.self.view_is,
    )

pub returns-in-Err-change-clause-slot : goal.returns-in-Err-change-clause-slot
returns-in-Err-change-clause-slot c = λ sound wants.
    let before = key_before_in c.args.ctx.now in
    let p = entry_found c.self.inside c.self.invariant c.args.op c.args.part c.args.key before c.args.value (Ok c.in-Ok.at) c.in-Ok.ensures in
    let sorted = revert_sorted c.self.inside c.self.invariant c.args.op c.args.part c.args.key before c.args.value c.in-Ok.at p.0
    (ap (λ s. every (dictionaries_rise before) s.module_of.tree) c.self.view_is ∙ sound.sorted) in
    let slot = ⊎_elim
    (λ e. inl e)
    (λ e. inr (revert_slot c.self.inside c.self.invariant c.args.op c.args.part c.args.key before c.args.value c.in-Ok.at p.0
    (ap (has_slot c.args.op c.args.part c.args.key) c.self.view_is ∙ e)))
    wants in
    absurd (false≢true (c.in-Err-change.ensures.slot sorted slot))

pub invariant_of-self-2 : goal.invariant_of-self-2
invariant_of-self-2 c =
    let before = key_before_in c.args.ctx.now in
    let p = entry_found c.self.inside c.self.invariant c.args.op c.args.part c.args.key before c.args.value (Ok c.in-Ok.at) c.in-Ok.ensures in
    entry_fits c.self.inside c.self.invariant c.args.op c.args.part c.args.key before c.args.value c.in-Ok.at p.0 c.change.new.self
    c.in-Ok-change.ensures.ok c.self-2-1.given.0 c.link_slot.new.marks.homes c.link_slot.ensures
