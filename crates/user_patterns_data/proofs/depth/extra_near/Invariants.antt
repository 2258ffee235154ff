use Rattle.std.proofs.Common.{length, ◌≡◌, ◌+◌}
use Rattle.user_patterns_data.specs.Shapes.{pattern_model}
use Rattle.user_patterns_data.specs.Depth.{all_near_from, is_near}
use Rattle.user_patterns_data.proofs.depth.extra_near.Given as goal

abbrev pub invariant-extra : goal.invariant-extra
invariant-extra l =
    (all_near_from (λ k. is_near l.fn.pattern.root l.fn.root k l.fn.from (pattern_model l.fn.pattern).old) l.place l.rest
    ≡ all_near_from (λ k. is_near l.fn.pattern.root l.fn.root k l.fn.from (pattern_model l.fn.pattern).old) (length (pattern_model l.fn.pattern).values) (pattern_model l.fn.pattern).extra)
    × (l.place + length l.rest ≡ length (pattern_model l.fn.pattern).values + length (pattern_model l.fn.pattern).extra)

abbrev pub decreases-extra : goal.decreases-extra
decreases-extra l = length l.rest
