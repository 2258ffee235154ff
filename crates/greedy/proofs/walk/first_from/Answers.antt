use Rattle.std.proofs.Common.{◌∙◌, sym, subst, ◌≤◌}
use Rattle.ir_event.specs.trees.Ids.{find}
use Rattle.greedy.proofs.Following.{inside_found, inside_none, inside_past}
use Rattle.greedy.proofs.walk.first_from.Goals as goal

pub returns-in-Some : goal.returns-in-Some
returns-in-Some c = sym (c.regions.invariant ∙ inside_found c.regions.region (find c.args.op c.args.store.now.module_of.tree) c.in-Some.first (sym c.in-Some.ensures))

pub regions-preserved : goal.regions-preserved
regions-preserved c = c.regions.invariant ∙ inside_none c.regions.region (find c.args.op c.args.store.now.module_of.tree) (sym c.in_default.ensures)

pub returns : goal.returns
returns c = sym (c.regions.invariant ∙ inside_past c.regions.region (find c.args.op c.args.store.now.module_of.tree) (subst (λ n. n ≤ c.regions.region) c.count_regions-count.ensures.count c.regions-test.false))
