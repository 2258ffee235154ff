use Rattle.std.proofs.Common.{ap, sym, ◌∙◌, subst}
use Rattle.ir_event.specs.store.Stored.{Stored}
use Rattle.ir_event.specs.trees.Ids.{has_id}
use Rattle.ir_event.specs.trees.Meaning.{isolated_in}
use Rattle.greedy.specs.Following.{HasFewRegions, following}
use Rattle.greedy.proofs.Benches.{held_has, held_following, few_regions}
use Rattle.greedy.proofs.bench.BenchGreedyRewriter.following.Goals as goal

pub following-requires-clause-there : goal.following-requires-clause-there
following-requires-clause-there g c = ap (λ (s : Stored). has_id c.args.op s.module_of.tree) c.world.ensures.store ∙ sym (held_has c.args.self.now.transaction c.args.op) ∙ c.requires

pub following-requires-clause-few : goal.following-requires-clause-few
following-requires-clause-few g c = subst (λ (s : Stored). HasFewRegions s.module_of.tree) (sym c.world.ensures.store) (few_regions (isolated_in c.args.self.now.transaction.ctx) c.args.self.now.transaction.store.module_of c.is_wellformed.ensures.wellformed)

pub returns : goal.returns
returns g c = c.following.ensures ∙ ap (λ (s : Stored). following c.args.op s.module_of.tree) c.world.ensures.store ∙ held_following c.args.self.now.transaction c.args.op
