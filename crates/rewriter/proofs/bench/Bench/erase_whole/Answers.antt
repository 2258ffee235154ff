use Rattle.std.proofs.Common.{◌∙◌, sym, None, Some, []}
use Rattle.rewriter.specs.Edits.{Erase}
use Rattle.rewriter.proofs.Noted.{recorded_none}
use Rattle.rewriter.proofs.Together.{reason_in, goes_refused}
use Rattle.rewriter.proofs.bench.Bench.erase_whole.Goals as goal

pub returns-in-Some-clause-does : goal.returns-in-Some-clause-does
returns-in-Some-clause-does g c =
    goes_refused g.L.Analysis.meaning c.led_benches_are_kept.ensures.ages c.led_benches_are_kept.ensures.none (Erase c.args.op) c.in-Some.refusal c.args.self.now (reason_in (Erase c.args.op) (Some c.in-Some.refusal) c.world.result.now.ctx c.args.self.now.transaction.ctx c.world.result.now.store c.args.self.now.transaction.store c.world.ensures.ctx c.world.ensures.store (sym c.erase_fault.ensures ∙ c.in-Some.is))

pub returns-in-Some-clause-led : goal.returns-in-Some-clause-led
returns-in-Some-clause-led g c =
    ([], c.led_benches_are_kept.ensures.none c.args.self.now)

pub returns-in-Some-clause-journal : goal.returns-in-Some-clause-journal
returns-in-Some-clause-journal g c = recorded_none c.args.self.now.transaction

pub erase_inside-requires : goal.erase_inside-requires
erase_inside-requires g c =
    reason_in (Erase c.args.op) None c.world.result.now.ctx c.args.self.now.transaction.ctx c.world.result.now.store c.args.self.now.transaction.store c.world.ensures.ctx c.world.ensures.store (sym c.erase_fault.ensures ∙ c.in_default.is)
