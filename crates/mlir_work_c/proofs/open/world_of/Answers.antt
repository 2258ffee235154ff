use Rattle.std.proofs.Common.{◌∙◌, ap}
use Rattle.ir_event.specs.types.Things.{ContextModel}
use Rattle.ir_event.specs.Modules.{module_in}
use Rattle.mlir_work_run.proofs.Numbered.{numbered_meaning, wellformed_meaning, world_is}
use Rattle.mlir_work_c.proofs.open.world_of.Goals as goal

pub hold-requires-clause-numbered : goal.hold-requires-clause-numbered
hold-requires-clause-numbered c = numbered_meaning c.in-Ok.found.0 c.in-Ok.found.1 c.in-Ok.ensures.read.holds.spells.numbered

pub hold-requires-clause-wellformed : goal.hold-requires-clause-wellformed
hold-requires-clause-wellformed c = wellformed_meaning c.in-Ok.found.0 c.in-Ok.found.1 c.in-Ok.ensures.read.holds.spells.wellformed

pub returns-in-Some-clause-world : goal.returns-in-Some-clause-world
returns-in-Some-clause-world c = world_is c.args.opaque c.args.text.now c.in-Ok.found.0 c.in-Ok.found.1 (module_in c.in-Some.world) c.in-Ok.ensures.read c.in-Some.ensures.module

pub returns-in-Some-clause-mode : goal.returns-in-Some-clause-mode
returns-in-Some-clause-mode c = ap (λ (d : ContextModel). d.opaque) c.in-Some.ensures.ctx ∙ c.in-Ok.ensures.mode
