use Rattle.mlir_work_session.specs.Registry.{registry_model}
use Rattle.std.proofs.Common.{◌≡◌, ◌∙◌, ap, subst}
use Rattle.std.specs.Prelude.{IfSome}
use Rattle.ir_event.specs.types.Things.{ContextModel}
use Rattle.ir_event.specs.Modules.{Module, module_in, module_meaning}
use Rattle.mlir_work_run.specs.Feeding.{waiting}
use Rattle.mlir_work_session.specs.Held.{module_held}
use Rattle.mlir_work_session.specs.Panels.{all_shown}
use Rattle.mlir_work_run.specs.Live.{Live, LiveEnded, whole_lines}
use Rattle.mlir_work_run.specs.Whole.{setting_with}
use Rattle.mlir_work_run.proofs.live.answer_world.Goals as goal

pub answer_in_rewriter-requires-clause-none : goal.answer_in_rewriter-requires-clause-none
answer_in_rewriter-requires-clause-none g c = c.from_world-bench.ensures.listeners

pub answer_in_rewriter-requires-clause-unmarked : goal.answer_in_rewriter-requires-clause-unmarked
answer_in_rewriter-requires-clause-unmarked g c = c.from_world-bench.ensures.transaction.opens

pub returns-clause-ended : goal.returns-clause-ended
returns-clause-ended g c =
    let is = c.from_world-bench.ensures.transaction in
    let same : module_held c.from_world-bench.result.transaction ≡ module_in c.args.world = (λ i. module_meaning (is.ctx i) (is.module_of i)) in
    subst (λ (m : Module). IfSome (waiting c.args.kept.now.items (g.R.Source.intake c.args.reader.now).remaining) (λ script. LiveEnded c.args.before (Live (setting_with g.L.AnalysisSource.supply c.args.options (registry_model c.args.registry)) (all_shown g.L.Analysis.meaning c.args.boxes.items) m c.args.before) (whole_lines script) (g.W.Sink.stream c.args.writer.now) (g.W.Sink.stream c.answer_in_rewriter.new.writer) (g.W.Sink.handed c.answer_in_rewriter.new.writer) c.answer_in_rewriter.result)) same c.answer_in_rewriter.ensures.ended

pub answer_in_rewriter-requires-clause-mode : goal.answer_in_rewriter-requires-clause-mode
answer_in_rewriter-requires-clause-mode g c = ap (λ (d : ContextModel). d.opaque) c.from_world-bench.ensures.transaction.ctx ∙ c.requires.mode
