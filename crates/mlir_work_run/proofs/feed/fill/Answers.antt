use Rattle.std.proofs.Common.{arith}
use Rattle.mlir_work_run.proofs.Feeds.{long_buffer}
use Rattle.mlir_work_run.proofs.feed.fill.Goals as goal

pub returns-then-most-len-clause-many : goal.returns-then-most-len-clause-many
returns-then-most-len-clause-many g c e = long_buffer c.args.most _ c.turns.kept.items (g.R.Source.intake c.turns.reader).remaining c.turns.invariant.whole c.turns.invariant.feedless (let lt = c.if-most-len.true in let is = c.len.ensures in omega (arith, lt, is))
