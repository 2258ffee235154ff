use Rattle.std.proofs.Common.{◌≡◌, ◌∷◌, length}
use Rattle.conversion.specs.MatchFailures.{last_rule}
use Rattle.conversion.proofs.why.last_of.Given as goal

abbrev pub invariant-rules : goal.invariant-rules
invariant-rules l = last_rule (l.last ∷ l.rest) ≡ last_rule l.rules

abbrev pub decreases-rules : goal.decreases-rules
decreases-rules l = length l.rest
