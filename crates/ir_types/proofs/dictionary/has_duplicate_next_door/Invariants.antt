use Rattle.std.proofs.Common.{◌≡◌, drop}
use Rattle.ir_types.specs.Dictionaries.{duplicate_after}
use Rattle.ir_types.proofs.dictionary.has_duplicate_next_door.Given as goal

abbrev pub invariant-loop-entry : goal.invariant-loop-entry
invariant-loop-entry l = duplicate_after l.initial.last l.rest ≡ duplicate_after l.last (drop l.entry-index l.rest)
