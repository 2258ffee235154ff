use Rattle.std.proofs.Common.{sym, ap, ◌∙◌}
use Rattle.std.specs.FinMap as finmap
use Rattle.ir_store_slots.proofs.Sweeping.{slot_given, slot_stays}
use Rattle.ir_store_slots.proofs.release.release_slot.Goals as goal

pub returns-then-not-is_given-clause-slot : goal.returns-then-not-is_given-clause-slot
returns-then-not-is_given-clause-slot c = slot_stays c.args.from c.args.key c.args.slots.now (sym c.is_given.ensures ∙ c.if-not-is_given.true) c.args.keys.now

pub returns-clause-slot : goal.returns-clause-slot
returns-clause-slot c =
    slot_given c.args.from c.args.key c.args.slots.now c.free.new.self c.requires.inside (sym c.is_given.ensures ∙ c.if-not-is_given.false) c.free.ensures c.args.keys.now c.remove.new.self
    (c.remove.ensures ∙ ap (finmap.remove c.args.keys.now) (c.number.ensures ∙ c.id-op.ensures))
