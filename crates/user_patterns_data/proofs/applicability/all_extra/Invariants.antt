use Rattle.std.proofs.Common.{◌≡◌, length}
use Rattle.std.specs.List.{list_all}
use Rattle.user_patterns_data.specs.Fitting.{extra_fits}
use Rattle.user_patterns_data.proofs.applicability.all_extra.Given as goal

abbrev pub invariant-extra : goal.invariant-extra
invariant-extra l = list_all (extra_fits l.fn.value_types) l.rest ≡ list_all (extra_fits l.fn.value_types) l.fn.extra

abbrev pub decreases-extra : goal.decreases-extra
decreases-extra l = length l.rest
