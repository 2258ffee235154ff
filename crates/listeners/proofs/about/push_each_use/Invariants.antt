use Rattle.std.proofs.Common.{◌≡◌, ◌++◌, map}
use Rattle.listeners.specs.About.{use_with}
use Rattle.listeners.specs.Keys.{keys_of}
use Rattle.listeners.proofs.about.push_each_use.Given as goal

abbrev pub invariant-loop-user : goal.invariant-loop-user
invariant-loop-user l = l.keys.items ++ keys_of (map (use_with l.value) l.user-iterator) ≡ l.initial.keys.items ++ keys_of (map (use_with l.value) l.fn.uses)
