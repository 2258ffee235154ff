use Rattle.std.proofs.Common.{◌∙◌, ap, sym}
use Rattle.std.proofs.lemmas.List.Elements.{All-nil}
use Rattle.ir_event.specs.types.Things.{ContextModel}
use Rattle.mlir_work_cases.proofs.traces.run_notified.Goals as goal

pub run_script-requires-clause-kept : goal.run_script-requires-clause-kept
run_script-requires-clause-kept g c = c.attach.ensures.kept (rw c.requires (All-nil _))

pub run_script-requires-clause-mode : goal.run_script-requires-clause-mode
run_script-requires-clause-mode g c = sym (c.is_opaque.ensures ∙ ap (λ (d : ContextModel). d.opaque) c.world.ensures.ctx)
