use Rattle.std.proofs.Common.{◌≡◌, ◌++◌, drop}
use Rattle.listeners_support.specs.Map.{entries_from}
use Rattle.listeners.specs.Keys.{keys_of}
use Rattle.listeners.specs.Tables.{changed_uses}
use Rattle.listeners.proofs.gather.push_near.Given as goal

abbrev pub invariant-loop-id : goal.invariant-loop-id
invariant-loop-id l = l.keys.items ++ keys_of (changed_uses (entries_from l.id (drop l.id l.near))) ≡ l.initial.keys.items ++ keys_of (changed_uses (entries_from 0 l.near))
