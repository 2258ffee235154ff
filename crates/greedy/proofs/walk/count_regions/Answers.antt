use Rattle.std.proofs.Common.{◌∙◌, sym, subst, ◌≤◌}
use Rattle.greedy.proofs.Following.{shown_count, few_shown}
use Rattle.greedy.proofs.walk.count_regions.Goals as goal

pub returns-in-Some-clause-count : goal.returns-in-Some-clause-count
returns-in-Some-clause-count c = c.region_count.ensures ∙ shown_count c.args.store.now.module_of.tree c.requires.distinct c.args.op _ c.in-Some.node c.requires.there c.in-Some.ensures

pub returns-in-Some-clause-few : goal.returns-in-Some-clause-few
returns-in-Some-clause-few c = subst (λ n. n ≤ 16) (sym (c.region_count.ensures ∙ shown_count c.args.store.now.module_of.tree c.requires.distinct c.args.op _ c.in-Some.node c.requires.there c.in-Some.ensures)) (few_shown c.args.store.now.module_of.tree c.requires.distinct c.args.op c.requires.few c.requires.there)
