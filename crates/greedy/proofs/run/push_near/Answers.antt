use Rattle.std.proofs.Common.{ap, eqb, eqb-true, not, sym, ◌∙◌, true≢false}
use Rattle.std.proofs.lemmas.Bool.{not-true}
use Rattle.ir_event.specs.trees.Ids.{has_id}
use Rattle.ir_event.proofs.of_tree_laws.Listed.{both}
use Rattle.greedy.proofs.run.push_near.Goals as goal

pub returns-then-is_gone-clause-added : goal.returns-then-is_gone-clause-added
returns-then-is_gone-clause-added g c h =
    let t = (g.R.GreedyRewriter.held c.args.bench.now).tree in
    let site = c.args.site.now in
    let gone = both (eqb c.args.op site.op) (not site.stays) (sym c.is_gone.ensures ∙ c.if-is_gone.true) in
    absurd (true≢false (sym h ∙ ap (λ x. has_id x t) (eqb-true c.args.op site.op gone.0) ∙ sym c.requires.stays ∙ not-true site.stays gone.1))
