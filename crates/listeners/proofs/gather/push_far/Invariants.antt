use Rattle.std.proofs.Common.{◌≡◌, ◌++◌}
use Rattle.listeners.specs.Keys.{keys_of}
use Rattle.listeners.specs.Tables.{changed_uses}
use Rattle.listeners.proofs.gather.push_far.Given as goal

abbrev pub invariant-loop-id : goal.invariant-loop-id
invariant-loop-id l = l.keys.items ++ keys_of (changed_uses l.id-iterator) ≡ l.initial.keys.items ++ keys_of (changed_uses l.far.entries)
