use Rattle.std.proofs.Common.{ap, sym, subst, ◌∙◌}
use Rattle.ir_event.specs.types.Things.{ContextModel}
use Rattle.conversion_base.specs.Targets.{IsNamedIn, target_model, is_accepted}
use Rattle.conversion.proofs.bench.BenchConversionRewriter.is_accepted.Goals as goal

pub is_accepted-requires : goal.is_accepted-requires
is_accepted-requires g c = record { names = subst (λ (d : ContextModel). IsNamedIn d c.args.target.now) (sym c.world.ensures.ctx) c.requires }

pub returns : goal.returns
returns g c = c.is_accepted.ensures ∙ ap (λ (d : ContextModel). is_accepted (target_model d c.args.target.now)) c.world.ensures.ctx
