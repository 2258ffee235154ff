use Rattle.std.proofs.Common.{rules}
use Rattle.std.proofs.lemmas.List.Sorted.{IsNonDecreasingBy-from_sort_by_key}
use Rattle.ir_tree.specs.Tree.{head}
use Rattle.ir_tree.specs.Meaning.{meaning}
use Rattle.ir_tree_blocks.specs.Scopes.{label_of}
use Rattle.ir_tree_blocks.proofs.text_order.sort.Goals as goal

pub returns-clause-rising : goal.returns-clause-rising
returns-clause-rising c = IsNonDecreasingBy-from_sort_by_key (λ o. label_of (head (meaning c.args.ctx.now o.now))) _ c.in_ok-sort_by_key.ensures.sorted (λ a r q k. search rules)
