use Rattle.greedy.proofs.SameRules.{same_rewriting}
use Rattle.greedy.proofs.Traces.{trace_is_counted}
use Rattle.conversion.specs.rewriter.RewriterCalls.{state_of}
use Rattle.mlir_work_transforms.proofs.Limited.{chosen_length}
use Rattle.mlir_work_transforms.proofs.Firings.{lines_reported}
use Rattle.mlir_work_transforms.proofs.transform.transform.Goals as goal

pub returns-clause-reported : goal.returns-clause-reported
returns-clause-reported g c =
    lines_reported _ _ c.args.lines.now _ _ c.requires.fresh
    (chosen_length c.args.rules.now c.requires.may trace_is_counted same_rewriting c.args.lines.now.limit (state_of g.L.Analysis.meaning c.args.bench.now) _ _ c.run-called.ensures.does)
    c.run-called.ensures.traced c.end.ensures
