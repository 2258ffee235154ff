use Rattle.std.proofs.Common.{refl}
use Rattle.mlir_work_registry.proofs.Redefining.{replaces}
use Rattle.mlir_work_registry.proofs.redefine.redefine.Goals as goal

pub returns-in-Ok-clause-gives : goal.returns-in-Ok-clause-gives
returns-in-Ok-clause-gives c =
    replaces c.args.registry.now.held.items _ c.args.text.now c.in-Ok-Some.place c.in-Ok.held (rw c.in-Ok-Some.field-0-is at c.in-Ok-Some.ensures) c.in-Ok.ensures refl
