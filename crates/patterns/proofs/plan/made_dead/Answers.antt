use Rattle.std.proofs.Common.{◌∷◌, [], refl, sym, Some, true}
use Rattle.ir_event.specs.Modules.{module_in}
use Rattle.patterns_soundness.specs.base.declared.rule.Rule.TheVariants.{EraseDead}
use Rattle.patterns_soundness.specs.base.Edits.{Erase}
use Rattle.patterns_plans.proofs.Headed.{one_dead}
use Rattle.patterns_plans.specs.reads.Reads.{header_of_node}
use Rattle.patterns.proofs.Planned.{by_rule}
use Rattle.patterns.proofs.plan.made_dead.Goals as goal

pub returns-clause-edits : goal.returns-clause-edits
returns-clause-edits c =
    let w = c.args.world.now in
    let m = module_in w in
    by_rule EraseDead m c.args.op (header_of_node w.ctx c.args.node.now) c.args.point.now (Some (Erase c.args.op ∷ []))
    c.requires.shown c.requires.point c.requires.eligible
    (λ o f. one_dead c.args.op m.tree o true (sym c.requires.dead) refl f m.next c.args.point.now)
