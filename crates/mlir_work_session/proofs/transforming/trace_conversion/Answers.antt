use Rattle.mlir_work_transforms.specs.rewriter.RewriterCalls.{state_of}
use Rattle.mlir_work_script_base.specs.Clauses.{clauses_of, target_of}
use Rattle.mlir_work_transforms.specs.Converting.{command_aim, conversion}
use Rattle.mlir_work_transforms.proofs.Converted.{convert_full}
use Rattle.mlir_work_session.proofs.Fulfilling.{fulfils_converted}
use Rattle.mlir_work_session.proofs.Headroom.{replied}
use Rattle.mlir_work_session.proofs.transforming.trace_conversion.Goals as goal

pub returns-clause-fulfils : goal.returns-clause-fulfils
returns-clause-fulfils g c setting =
    let target = target_of c.args.full (clauses_of c.args.clauses.now) in
    fulfils_converted setting target _ _ _ _ _ c.reply_converted.ensures c.convert_traced-traced.ensures.does c.convert_traced-traced.ensures.lines

pub returns-clause-headroom : goal.returns-clause-headroom
returns-clause-headroom g c =
    let target = target_of c.args.full (clauses_of c.args.clauses.now) in
    let before = state_of g.L.Analysis.meaning c.args.bench.now in
    replied _ before (conversion target) _ _ c.reply_converted.ensures (convert_full (command_aim target) before _ _ c.convert_traced-traced.result.called c.convert_traced-traced.ensures.converts)

pub returns-clause-kept : goal.returns-clause-kept
returns-clause-kept g c = c.led_benches_are_kept.ensures.kept _ _ c.convert_traced-traced.ensures.led c.requires

pub returns-clause-mode : goal.returns-clause-mode
returns-clause-mode g c = c.convert_traced-traced.ensures.grows.opaque
