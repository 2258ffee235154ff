use Rattle.std.proofs.Common.{length, ◌+◌, ◌≡◌}
use Rattle.ir_event.specs.trees.Uses.{same_value}
use Rattle.user_patterns_data.specs.Matching.{all_bound}
use Rattle.user_patterns_apply.specs.Mismatches.{first_unbound}
use Rattle.user_patterns_apply.proofs.places.bind_all.Given as goal

abbrev pub invariant-places : goal.invariant-places
invariant-places l = record {
  bound : all_bound same_value l.places l.given l.values ≡ all_bound same_value l.fn.places l.fn.given l.fn.values;
  unbound : first_unbound l.index l.places l.given l.values ≡ first_unbound 0 l.fn.places l.fn.given l.fn.values;
  counted : l.index + length l.places ≡ length l.fn.places;
}

abbrev pub decreases-places : goal.decreases-places
decreases-places l = length l.places
