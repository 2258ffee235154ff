use Rattle.ir_event.specs.Modules.{module_in}
use Rattle.patterns.specs.Held.{module_held}
use Rattle.conversion.proofs.VisibleValues.{same_module}
use Rattle.conversion.proofs.Walking.{gives_held}
use Rattle.conversion.proofs.bench.BenchConversionRewriter.defining_ops.Goals as goal

pub returns-in-Ok : goal.returns-in-Ok
returns-in-Ok g c = gives_held c.args.op (module_in c.world.result.now) (module_held c.args.self.now.transaction) (same_module c.world.result.now c.args.self.now.transaction c.world.ensures.ctx c.world.ensures.store) c.in-Ok.found c.in-Ok.ensures
