use Rattle.std.proofs.Common.{◌≡◌, length}
use Rattle.ir_tree_laws.specs.trees.Edits.{entry_at}
use Rattle.ir_tree_laws.specs.trees.Meaning.{key_before_in}
use Rattle.ir_store_arena.proofs.lookup.value_at.Given as goal

abbrev pub invariant-loop-rest : goal.invariant-loop-rest
invariant-loop-rest l = entry_at (key_before_in l.ctx) l.key l.entries ≡ entry_at (key_before_in l.ctx) l.key l.rest

abbrev pub decreases-loop-rest : goal.decreases-loop-rest
decreases-loop-rest l = length l.rest
