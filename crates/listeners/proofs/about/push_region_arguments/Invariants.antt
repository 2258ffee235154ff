use Rattle.std.proofs.Common.{◌≡◌, ◌-◌, ◌++◌, drop}
use Rattle.listeners.specs.About.{region_arguments}
use Rattle.listeners.proofs.about.push_region_arguments.Given as goal

abbrev pub invariant-regions : goal.invariant-regions
invariant-regions l = l.values.items ++ region_arguments l.op l.region (drop l.region l.node.arguments) ≡ l.initial.values.items ++ region_arguments l.op 0 l.node.arguments

abbrev pub decreases-regions : goal.decreases-regions
decreases-regions l = l.count - l.region
