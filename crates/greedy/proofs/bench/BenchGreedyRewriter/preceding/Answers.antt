use Rattle.std.proofs.Common.{ap, sym, ◌∙◌, subst, true, ◌≡◌, List, ℕ}
use Rattle.std.specs.Option.{IfSome}
use Rattle.ir_event.specs.store.Stored.{Stored}
use Rattle.ir_event.specs.trees.Ids.{ids, has_id}
use Rattle.ir_event.specs.tree_laws.Reads.{comes_after}
use Rattle.greedy.proofs.Benches.{held_has, held_ids}
use Rattle.greedy.proofs.bench.BenchGreedyRewriter.preceding.Goals as goal

pub preceding-requires-clause-there : goal.preceding-requires-clause-there
preceding-requires-clause-there g c = ap (λ (s : Stored). has_id c.args.op s.module_of.tree) c.world.ensures.store ∙ sym (held_has c.args.self.now.transaction c.args.op) ∙ c.requires

pub returns-clause-some : goal.returns-clause-some
returns-clause-some g c =
    let same = ap (λ (s : Stored). ids s.module_of.tree) c.world.ensures.store ∙ sym (held_ids c.args.self.now.transaction) in
    subst (λ (l : List ℕ). IfSome c.preceding.result (λ p. comes_after p c.args.op l ≡ true)) same c.preceding.ensures.some
