use Rattle.std.proofs.Common.{◌∙◌, sym, inl, inr}
use Rattle.greedy.proofs.Comings.{limit_low, limit_high, limit_fits}
use Rattle.greedy.proofs.Noting.{left_none}
use Rattle.mlir_work_transforms.proofs.AtRuns.{absent_reason, limit_reason, ok_there, refused_there}
use Rattle.mlir_work_transforms.proofs.at.rewrites.Goals as goal

pub returns-then-limit-lt1-clause-refused : goal.returns-then-limit-lt1-clause-refused
returns-then-limit-lt1-clause-refused g c = elim c.then-limit-lt1.either [
  | inl l ↦ limit_reason c.args.op c.args.limit _ _ (limit_low c.args.limit l)
  | inr p ↦ limit_reason c.args.op c.args.limit _ _ (limit_high c.args.limit p.0 p.1)
]

pub returns-then-limit-lt1-clause-journal : goal.returns-then-limit-lt1-clause-journal
returns-then-limit-lt1-clause-journal g c = left_none (g.R.GreedyRewriter.transaction c.args.bench.now)

pub returns-then-not-in_tree-clause-refused : goal.returns-then-not-in_tree-clause-refused
returns-then-not-in_tree-clause-refused g c = absent_reason c.args.op c.args.limit _ (limit_fits c.args.limit c.if-limit-lt1.false c.if-limit-gt1000000.false) _ (sym c.in_tree.ensures ∙ c.if-not-in_tree.true)

pub returns-then-not-in_tree-clause-journal : goal.returns-then-not-in_tree-clause-journal
returns-then-not-in_tree-clause-journal g c = left_none (g.R.GreedyRewriter.transaction c.args.bench.now)

pub returns-clause-ok : goal.returns-clause-ok
returns-clause-ok g c = ok_there c.args.op c.args.limit _ (limit_fits c.args.limit c.if-limit-lt1.false c.if-limit-gt1000000.false) (sym c.in_tree.ensures ∙ c.if-not-in_tree.false) _ c.run.result c.run.ensures.ok

pub returns-clause-refused : goal.returns-clause-refused
returns-clause-refused g c = refused_there c.args.op c.args.limit _ (limit_fits c.args.limit c.if-limit-lt1.false c.if-limit-gt1000000.false) (sym c.in_tree.ensures ∙ c.if-not-in_tree.false) _ c.run.result c.run.ensures.refused
