use Rattle.std.proofs.Common.{◌≡◌, drop}
use Rattle.ir_tree.specs.Meaning.{rises, rises_after, key_before_in}
use Rattle.ir_tree.proofs.sound.is_sorted.Given as goal

abbrev pub invariant-loop-entry : goal.invariant-loop-entry
invariant-loop-entry l = rises (key_before_in l.ctx) l.entries.items ≡ rises_after (key_before_in l.ctx) l.last (drop l.entry-index l.rest)
