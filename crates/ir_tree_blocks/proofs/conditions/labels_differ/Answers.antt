use Rattle.std.proofs.Common.{◌≡◌, ◌∙◌, subst, ℕ, List}
use Rattle.std.specs.Prelude.{IfOk}
use Rattle.ir_tree_blocks.specs.Nesting.{all_differ}
use Rattle.ir_tree_blocks.proofs.Differing.{labels_of_views}
use Rattle.ir_tree_blocks.proofs.conditions.labels_differ.Goals as goal

pub returns : goal.returns
returns c = subst (λ (ls : List ℕ). IfOk c.are_distinct.result (λ b. b ≡ all_differ ls)) (c.in_ok-labels.ensures ∙ labels_of_views c.args.placed.now.items) c.are_distinct.ensures
