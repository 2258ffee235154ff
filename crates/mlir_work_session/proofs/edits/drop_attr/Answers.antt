use Rattle.std.proofs.Common.{ap, ◌∙◌}
use Rattle.ir_event.specs.types.Terms.{name_term}
use Rattle.mlir_work_transforms.specs.rewriter.Commands as command
use Rattle.mlir_work_transforms.specs.rewriter.Commands.{Ask}
use Rattle.mlir_work_transforms.specs.rewriter.Edits as edit
use Rattle.mlir_work_transforms.specs.rewriter.Machine.{Do}
use Rattle.mlir_work_script_base.specs.Keys.{key_bytes}
use Rattle.mlir_work_session.proofs.Obeying.{obeys_after, obeys_unnamed}
use Rattle.mlir_work_session.proofs.edits.drop_attr.Goals as goal

pub returns-in_default-clause-obeys : goal.returns-in_default-clause-obeys
returns-in_default-clause-obeys g c session_options = obeys_unnamed session_options c.args.op (key_bytes c.args.key.now) _ _ c.name_of.ensures.grown.same

pub returns-in_default-clause-kept : goal.returns-in_default-clause-kept
returns-in_default-clause-kept g c = c.name_of.ensures.grown.kept c.requires

pub returns-clause-obeys : goal.returns-clause-obeys
returns-clause-obeys g c session_options =
    let d = c.name_of.new.bench.transaction.ctx in
    obeys_after session_options _ _ _ (command.DropAttr c.args.op (key_bytes c.args.key.now)) (Do (edit.DropAttr c.args.op (name_term d c.in-Some.key))) _ _ c.name_of.ensures.grown.same c.reply_to.ensures
    (ap (λ k. Ask (Do (edit.DropAttr c.args.op k))) c.in-Some.ensures.name.1) c.drop_attr.ensures.does

pub returns-clause-kept : goal.returns-clause-kept
returns-clause-kept g c = c.led_benches_are_kept.ensures.kept _ _ c.drop_attr.ensures.led (c.name_of.ensures.grown.kept c.requires)

pub returns-in_default-clause-mode : goal.returns-in_default-clause-mode
returns-in_default-clause-mode g c = c.name_of.ensures.grown.grows.opaque

pub returns-clause-mode : goal.returns-clause-mode
returns-clause-mode g c = c.drop_attr.ensures.led.1.grows.opaque ∙ c.name_of.ensures.grown.grows.opaque
