use Rattle.std.proofs.Common.{◌∙◌, refl, subst, ap, sym}
use Rattle.std.specs.Prelude.{option_map, Some, None}
use Rattle.patterns_regions.specs.Blocks.{ended_in}
use Rattle.patterns_lowering.specs.Planned.{AreTaken}
use Rattle.patterns_lowering.proofs.reading.take.Goals as goal

pub returns-in_default : goal.returns-in_default
returns-in_default c = subst (λ o. AreTaken o None) (ap (option_map (ended_in c.args.world.now.ctx)) (sym c.in_default.is) ∙ c.in_ok-body.ensures.body) tt

pub returns : goal.returns
returns c =
    subst (λ o. AreTaken o (Some (record { before = c.in-Some.body.before; last = c.in-Some.body.last; handed = c.in_ok-handed.handed })))
    (ap (option_map (ended_in c.args.world.now.ctx)) (sym c.in-Some.is) ∙ c.in_ok-body.ensures.body)
    (record { before = refl; last = refl; handed = c.in_ok-handed.ensures.items ∙ c.operands.ensures })
