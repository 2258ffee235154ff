use Rattle.std.proofs.Common.{ap, ◌∙◌}
use Rattle.ir_event.specs.Modules.{Module}
use Rattle.conversion_base.specs.Reconciling.{is_cast}
use Rattle.conversion.proofs.VisibleValues.{same_module}
use Rattle.conversion.proofs.bench.BenchConversionRewriter.is_cast.Goals as goal

pub returns : goal.returns
returns g c = c.is_cast.ensures ∙ ap (λ (m : Module). is_cast c.args.op m.tree) (same_module c.world.result.now c.args.self.now.transaction c.world.ensures.ctx c.world.ensures.store)
