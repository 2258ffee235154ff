use Rattle.std.proofs.Common.{◌≡◌, ◌++◌, length, map, option_map}
use Rattle.ir_event.specs.Modules.{module_in}
use Rattle.dialects_int.specs.Folds.{known_of}
use Rattle.patterns_plans.specs.Numbers.{known_each}
use Rattle.patterns_plans.proofs.constant.known_each.Given as goal

abbrev pub invariant-values : goal.invariant-values
invariant-values l = option_map (λ r. map known_of l.known.items ++ r) (known_each (module_in l.world).tree l.rest) ≡ known_each (module_in l.world).tree l.fn.values

abbrev pub decreases-values : goal.decreases-values
decreases-values l = length l.rest
