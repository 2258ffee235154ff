use Rattle.ir_tree_blocks.proofs.Samples.{block_missing, label_missing, label_twice, label_hidden, scope_first, branch_first}
use Rattle.ir_tree_blocks.proofs.laws.broken_forms_are_refused.Goals as goal

pub returns-clause-block : goal.returns-clause-block
returns-clause-block c = block_missing

pub returns-clause-label : goal.returns-clause-label
returns-clause-label c = label_missing

pub returns-clause-twice : goal.returns-clause-twice
returns-clause-twice c = label_twice

pub returns-clause-hidden : goal.returns-clause-hidden
returns-clause-hidden c = label_hidden

pub returns-clause-scope : goal.returns-clause-scope
returns-clause-scope c = scope_first

pub returns-clause-branch : goal.returns-clause-branch
returns-clause-branch c = branch_first
