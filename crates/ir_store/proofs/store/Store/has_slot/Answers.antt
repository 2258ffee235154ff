use Rattle.std.proofs.Common.{◌∙◌, sym, ap, Some, None}
use Rattle.ir_store_reads.specs.Stored.{has_slot}
use Rattle.ir_store.proofs.Dictionaries.{slot_is}
use Rattle.ir_store.proofs.store.Store.has_slot.Goals as goal

pub returns : goal.returns
returns c = c.has_slot_at.ensures ∙ slot_is c.self.inside c.self.invariant c.args.op c.args.part c.args.key (Some c.in-Some.at) (sym c.in-Some.ensures) ∙ ap (has_slot c.args.op c.args.part c.args.key) c.self.view_is

pub returns-in_default : goal.returns-in_default
returns-in_default c = slot_is c.self.inside c.self.invariant c.args.op c.args.part c.args.key None (sym c.in_default.ensures) ∙ ap (has_slot c.args.op c.args.part c.args.key) c.self.view_is
