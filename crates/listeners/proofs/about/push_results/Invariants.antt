use Rattle.std.proofs.Common.{◌≡◌, ◌-◌, ◌++◌}
use Rattle.listeners.specs.About.{results_from}
use Rattle.listeners.proofs.about.push_results.Given as goal

abbrev pub invariant-results : goal.invariant-results
invariant-results l = l.values.items ++ results_from l.op l.place (l.count - l.place) ≡ l.initial.values.items ++ results_from l.op 0 l.count

abbrev pub decreases-results : goal.decreases-results
decreases-results l = l.count - l.place
