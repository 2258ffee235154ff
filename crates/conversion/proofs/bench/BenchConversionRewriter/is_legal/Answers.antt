use Rattle.std.proofs.Common.{sym, subst, ◌∙◌}
use Rattle.ir_event.specs.types.Things.{ContextModel}
use Rattle.conversion_base.specs.Targets.{IsNamedIn, target_model, is_legal}
use Rattle.conversion.proofs.VisibleValues.{same_module}
use Rattle.conversion.proofs.bench.BenchConversionRewriter.is_legal.Goals as goal

pub is_legal-requires : goal.is_legal-requires
is_legal-requires g c = record { names = subst (λ (d : ContextModel). IsNamedIn d c.args.target.now) (sym c.world.ensures.ctx) c.requires.names }

pub returns : goal.returns
returns g c = c.is_legal.ensures ∙ (λ i. is_legal (target_model (c.world.ensures.ctx i) c.args.target.now) c.args.op (same_module c.world.result.now c.args.self.now.transaction c.world.ensures.ctx c.world.ensures.store i).tree)
