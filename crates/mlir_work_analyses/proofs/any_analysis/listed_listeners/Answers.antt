use Rattle.rewriter_machine.specs.Panels.{all_shown}
use Rattle.mlir_work_analyses.specs.Listeners.{any_analysis}
use Rattle.mlir_work_analyses.proofs.Listed.{next_kind}
use Rattle.mlir_work_analyses.proofs.any_analysis.listed_listeners.Goals as goal

pub all_kinds-preserved : goal.all_kinds-preserved
all_kinds-preserved c = next_kind c.args.opaque c.args.listed.now c.all_kinds.rest.now c.kind-item.result (all_shown any_analysis c.all_kinds.all.items) (all_shown any_analysis c.add_listed.new.all.items) c.in-len1-up.len_at_least c.kind-item.is c.all_kinds.invariant c.in_ok-add_listed.ensures
