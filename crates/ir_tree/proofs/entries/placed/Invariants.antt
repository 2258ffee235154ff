use Rattle.std.proofs.Common.{◌≡◌, ◌++◌, length}
use Rattle.ir_tree.specs.Edits.{put_entry}
use Rattle.ir_tree.specs.Meaning.{key_before_in}
use Rattle.ir_tree.proofs.entries.placed.Given as goal

abbrev pub invariant-loop-rest : goal.invariant-loop-rest
invariant-loop-rest l = l.placed.items ++ put_entry (key_before_in l.ctx) l.key l.attr l.rest ≡ put_entry (key_before_in l.ctx) l.key l.attr l.entries

abbrev pub decreases-loop-rest : goal.decreases-loop-rest
decreases-loop-rest l = length l.rest
