-- Why an operation of the original module can't be legalized: the last rule that was tried, and why it failed.
use Rattle.std.specs.Prelude.{ℕ, List, [], ◌∷◌, Option, Some, None, if◌then◌else◌}
use Rattle.ir_event.specs.trees.Ids.{ids}
use Rattle.ir_event.specs.Modules.{Module}
use Rattle.conversion_base.specs.Legalization.{Outcome, legalised, failed, aborted, legalization_of, standing}
use Rattle.conversion_base.specs.Rule.{Rule}
use Rattle.conversion_base.specs.Targets.{Aim, is_accepted}
use Rattle.conversion_base.specs.Reasons.{reason_of}
use Rattle.conversion_base.specs.Reason.{Reason}
use Rattle.conversion.specs.declared.match_failure.MatchFailure.{MatchFailure}
use Rattle.conversion.specs.declared.match_failure.MatchFailure.TheVariants.{NoRule, ConditionFails, MakesIllegal}

-- the last rule of a list
abbrev pub last_rule : List Rule → Option Rule
last_rule [] = None
last_rule (r ∷ []) = Some r
last_rule (r ∷ s ∷ rs) = last_rule (s ∷ rs)

-- a rule that failed: a condition doesn't hold, or the operations that it makes can't be legalized
abbrev pub unhelpful : Rule → Option Reason → MatchFailure
unhelpful r (Some c) = ConditionFails r c
unhelpful r None = MakesIllegal r

-- why operation x can't be legalized, if all rules fail and this is the last one
abbrev pub match_failure_by : Option Rule → Module → ℕ → MatchFailure
match_failure_by None m x = NoRule
match_failure_by (Some r) m x = unhelpful r (reason_of r m x)

-- the first of some operations that can't be legalized, with the reason; if this one succeeded, the later ones decide
abbrev pub match_failure_after : (Module → Option (ℕ × MatchFailure)) → ℕ → MatchFailure → Outcome → Option (ℕ × MatchFailure)
match_failure_after next x s (legalised n ks limit_reached) = next n
match_failure_after next x s (failed limit_reached) = Some (x, s)
match_failure_after next x s (aborted e) = None

abbrev pub staying : Aim → List ℕ → Module → Option (ℕ × MatchFailure)
staying g [] m = None
staying g (x ∷ xs) m =
    match_failure_after (staying g xs) x (match_failure_by (last_rule g.rules) m x) (standing (legalization_of g g.depth) m x)

-- the operation that a module's conversion can't legalize, if there is one, with the reason
abbrev pub unlegalised_op : Aim → Module → Option (ℕ × MatchFailure)
unlegalised_op g m = if is_accepted g then staying g (ids m.tree) m else None

-- the match failure that is reported with a refusal, if the refusal is about an operation
abbrev pub reported_failure : Option ℕ → Option (ℕ × MatchFailure) → Option MatchFailure
reported_failure None s = None
reported_failure (Some x) None = None
reported_failure (Some x) (Some s) = Some s.1
