use Rattle.std.proofs.Common.{◌∙◌, sym, ap, Some}
use Rattle.std.specs.Prelude.{option_map}
use Rattle.ir_event.specs.declared.world.World.{World}
use Rattle.listeners_support.specs.declared.op_context.OpContext.{OpContext}
use Rattle.listeners_support.specs.Gathered.{gathered_in, tree_in}
use Rattle.listeners_support.proofs.Following.{fact_gathered}
use Rattle.listeners_support.proofs.fact.fact_at.Goals as goal

pub returns-in-None-clause-fact : goal.returns-in-None-clause-fact
returns-in-None-clause-fact g c =
    let w = c.args.view.now.world.now in
    let fact = g.F.LocalFact.fact in
    ap (option_map (λ (a : OpContext). fact (gathered_in w.ctx a))) (sym c.in-None.is) ∙ fact_gathered fact w.ctx (tree_in w) c.args.op c.in_ok-gather.field-0 c.in_ok-gather.ensures.around

pub returns-in-Some-clause-fact : goal.returns-in-Some-clause-fact
returns-in-Some-clause-fact g c =
    let w = c.args.view.now.world.now in
    let fact = g.F.LocalFact.fact in
    ap Some (c.compute.ensures ∙ ap (λ k. fact (gathered_in k c.in-Some.around)) (c.context.ensures ∙ ap (λ (u : World). u.ctx) c.gather.ensures.world))
    ∙ ap (option_map (λ (a : OpContext). fact (gathered_in w.ctx a))) (sym c.in-Some.is)
    ∙ fact_gathered fact w.ctx (tree_in w) c.args.op c.in_ok-gather.field-0 c.in_ok-gather.ensures.around
