use Rattle.std.proofs.Common.{◌≡◌, ◌-◌, ◌++◌}
use Rattle.listeners.specs.About.{arguments_from}
use Rattle.listeners.proofs.about.push_arguments.Given as goal

abbrev pub invariant-arguments : goal.invariant-arguments
invariant-arguments l = l.values.items ++ arguments_from l.op l.region l.place (l.count - l.place) ≡ l.initial.values.items ++ arguments_from l.op l.region 0 l.count

abbrev pub decreases-arguments : goal.decreases-arguments
decreases-arguments l = l.count - l.place
