use Rattle.std.proofs.Common.{◌≡◌, ◌-◌, ◌≤◌}
use Rattle.std.specs.List.{range_with_len}
use Rattle.user_patterns_sema.proofs.sema_result.variable_types.Given as goal

abbrev pub invariant-places : goal.invariant-places
invariant-places l = record {
  found : l.found.items ≡ range_with_len 0 l.place;
  within : l.place ≤ l.fn.count;
}

abbrev pub decreases-places : goal.decreases-places
decreases-places l = l.fn.count - l.place
