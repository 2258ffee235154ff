use Rattle.std.proofs.Common.{length, ◌≡◌}
use Rattle.std.specs.List.{list_all}
use Rattle.user_patterns_data.specs.Shapes.{pattern_model}
use Rattle.user_patterns_data.specs.Depth.{is_near}
use Rattle.user_patterns_data.proofs.depth.all_near.Given as goal

abbrev pub invariant-places : goal.invariant-places
invariant-places l =
    list_all (λ k. is_near l.fn.pattern.root l.fn.root k l.fn.from (pattern_model l.fn.pattern).old) l.rest
    ≡ list_all (λ k. is_near l.fn.pattern.root l.fn.root k l.fn.from (pattern_model l.fn.pattern).old) l.fn.places

abbrev pub decreases-places : goal.decreases-places
decreases-places l = length l.rest
