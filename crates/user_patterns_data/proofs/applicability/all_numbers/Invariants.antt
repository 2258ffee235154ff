use Rattle.std.proofs.Common.{◌≡◌, length}
use Rattle.std.specs.List.{list_all}
use Rattle.user_patterns_data.specs.Fitting.{number_fits}
use Rattle.user_patterns_data.proofs.applicability.all_numbers.Given as goal

abbrev pub invariant-numbers : goal.invariant-numbers
invariant-numbers l = list_all (number_fits l.fn.value_types) l.rest ≡ list_all (number_fits l.fn.value_types) l.fn.numbers

abbrev pub decreases-numbers : goal.decreases-numbers
decreases-numbers l = length l.rest
