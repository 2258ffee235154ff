use Rattle.std.proofs.Common.{refl}
use Rattle.mlir_work_transforms.specs.rewriter.Commands as command
use Rattle.mlir_work_transforms.specs.rewriter.Machine as call
use Rattle.mlir_work_transforms.specs.rewriter.RewriterCalls.{state_of}
use Rattle.mlir_work_script_base.specs.Clauses.{clauses_of, target_of}
use Rattle.mlir_work_transforms.specs.Converting.{command_aim, conversion}
use Rattle.mlir_work_transforms.proofs.Converted.{convert_full}
use Rattle.mlir_work_session.proofs.Obeying.{obeys_plain}
use Rattle.mlir_work_session.proofs.Headroom.{replied}
use Rattle.mlir_work_session.proofs.transforming.convert_plainly.Goals as goal

pub returns-clause-obeys : goal.returns-clause-obeys
returns-clause-obeys g c session_options =
    let target = target_of c.args.full (clauses_of c.args.clauses.now) in
    obeys_plain session_options _ _ (command.Convert target) (call.Change (conversion target)) _ _ c.reply_converted.ensures refl c.convert.ensures.does

pub returns-clause-kept : goal.returns-clause-kept
returns-clause-kept g c = c.led_benches_are_kept.ensures.kept _ _ c.convert.ensures.led c.requires

pub returns-clause-headroom : goal.returns-clause-headroom
returns-clause-headroom g c =
    let target = target_of c.args.full (clauses_of c.args.clauses.now) in
    let before = state_of g.L.Analysis.meaning c.args.bench.now in
    replied _ before (conversion target) _ _ c.reply_converted.ensures (convert_full (command_aim target) before _ _ c.convert.result c.convert.ensures.converts)

pub returns-clause-mode : goal.returns-clause-mode
returns-clause-mode g c = c.convert.ensures.grows.opaque
