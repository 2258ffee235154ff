use Rattle.std.proofs.Common.{ap, ◌∙◌}
use Rattle.ir_event.specs.types.Terms.{name_term, attr_term}
use Rattle.mlir_work_transforms.specs.rewriter.Commands as command
use Rattle.mlir_work_transforms.specs.rewriter.Edits as edit
use Rattle.mlir_work_transforms.specs.rewriter.Machine.{Do}
use Rattle.mlir_work_script_base.specs.Keys.{key_bytes}
use Rattle.mlir_work_session.specs.Machine.{response_of}
use Rattle.mlir_work_session.proofs.Obeying.{obeys_after, obeys_unparsed}
use Rattle.mlir_work_session.proofs.texts.set_attr.Goals as goal

pub returns-in-Err-clause-obeys : goal.returns-in-Err-clause-obeys
returns-in-Err-clause-obeys g c = obeys_unparsed c.args.session_options.now c.args.op (key_bytes c.args.key.now) c.args.text.now _ _ (response_of c.in-Err.reply) c.entry_of.ensures.grown.same (rw c.requires.mode at c.in-Err.ensures.unparsed)

pub returns-in-Err-clause-kept : goal.returns-in-Err-clause-kept
returns-in-Err-clause-kept g c = c.entry_of.ensures.grown.kept c.requires.kept

pub returns-clause-obeys : goal.returns-clause-obeys
returns-clause-obeys g c =
    let d = c.entry_of.new.bench.transaction.ctx in
    obeys_after c.args.session_options.now _ _ _ (command.SetAttr c.args.op (key_bytes c.args.key.now) c.args.text.now) (Do (edit.SetAttr c.args.op (name_term d c.in-Ok.entry.0) (attr_term d c.in-Ok.entry.1))) _ _ c.entry_of.ensures.grown.same c.reply_to.ensures
    (attr_term d c.in-Ok.entry.1, rw c.requires.mode at c.in-Ok.ensures.attr.1, ap (λ k. Do (edit.SetAttr c.args.op k (attr_term d c.in-Ok.entry.1))) c.in-Ok.ensures.key.1) c.set_attr.ensures.does

pub returns-clause-kept : goal.returns-clause-kept
returns-clause-kept g c = c.led_benches_are_kept.ensures.kept _ _ c.set_attr.ensures.led (c.entry_of.ensures.grown.kept c.requires.kept)

pub returns-in-Err-clause-mode : goal.returns-in-Err-clause-mode
returns-in-Err-clause-mode g c = c.entry_of.ensures.grown.grows.opaque

pub returns-clause-mode : goal.returns-clause-mode
returns-clause-mode g c = c.set_attr.ensures.led.1.grows.opaque ∙ c.entry_of.ensures.grown.grows.opaque
