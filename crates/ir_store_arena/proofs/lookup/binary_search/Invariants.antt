use Rattle.std.proofs.Common.{length}
use Rattle.ir_tree_laws.specs.trees.Meaning.{key_before_in}
use Rattle.ir_store_arena.proofs.Lookups.{Point}
use Rattle.ir_store_arena.proofs.lookup.binary_search.Given as goal

abbrev pub invariant-loop-rest : goal.invariant-loop-rest
invariant-loop-rest l = Point (key_before_in l.ctx) l.key l.at l.rest l.entries

abbrev pub decreases-loop-rest : goal.decreases-loop-rest
decreases-loop-rest l = length l.rest
