use Rattle.std.proofs.Common.{◌∙◌, sym, None, Some, []}
use Rattle.rewriter.specs.Edits.{Replace}
use Rattle.rewriter.proofs.Noted.{recorded_none}
use Rattle.rewriter.proofs.Together.{reason_in, goes_refused}
use Rattle.rewriter.proofs.bench.Bench.replace_all.Goals as goal

pub returns-in-Some-clause-does : goal.returns-in-Some-clause-does
returns-in-Some-clause-does g c =
    goes_refused g.L.Analysis.meaning c.led_benches_are_kept.ensures.ages c.led_benches_are_kept.ensures.none (Replace c.args.old c.args.new) c.in-Some.refusal c.args.self.now (reason_in (Replace c.args.old c.args.new) (Some c.in-Some.refusal) c.world.result.now.ctx c.args.self.now.transaction.ctx c.world.result.now.store c.args.self.now.transaction.store c.world.ensures.ctx c.world.ensures.store (sym c.replace_fault.ensures ∙ c.in-Some.is))

pub returns-in-Some-clause-led : goal.returns-in-Some-clause-led
returns-in-Some-clause-led g c =
    ([], c.led_benches_are_kept.ensures.none c.args.self.now)

pub returns-in-Some-clause-journal : goal.returns-in-Some-clause-journal
returns-in-Some-clause-journal g c = recorded_none c.args.self.now.transaction

pub replace_unchecked-requires : goal.replace_unchecked-requires
replace_unchecked-requires g c =
    reason_in (Replace c.args.old c.args.new) None c.world.result.now.ctx c.args.self.now.transaction.ctx c.world.result.now.store c.args.self.now.transaction.store c.world.ensures.ctx c.world.ensures.store (sym c.replace_fault.ensures ∙ c.in_default.is)
