-- The decisions of claims.
use Rattle.std.specs.Prelude.{◌<◌, ℕ, Option, Some, None}
use Rattle.width_claims.specs.declared.verdict.Verdict.{Verdict}
use Rattle.width_claims.specs.declared.verdict.Verdict.TheVariants as verdict
use Rattle.width_claims.specs.Claimed.{IsEqualDecided}
use Rattle.width_claims.specs.Right.{IsEqualAtAllWidths}
use Rattle.user_patterns_data.specs.Shapes.{PatternModel}
use Rattle.user_patterns_claims.specs.declared.aim.Aim.{Aim}
use Rattle.user_patterns_claims.specs.declared.decision.Decision.{Decision}
use Rattle.user_patterns_claims.specs.declared.decision.Decision.TheVariants as decision
use Rattle.user_patterns_claims.specs.Outcomes.{HoldsAtAllWidths, IsNeverNumber}
use Rattle.user_patterns_claims.specs.Quotients.{IsProvedByClaims}
use Rattle.user_patterns_claims.specs.Translation.{Goal, empty_goal_of, goal_for, goal_of, set_count}

abbrev pub IsReached : Option Goal → Type 0
IsReached None = ⊥
IsReached (Some None) = Unit {0}
IsReached (Some (Some c)) = IsEqualAtAllWidths c

-- the goal holds for each set of poison variables
abbrev pub AreClaimsTrue : PatternModel → Type 0
AreClaimsTrue p = (set : ℕ) → set < set_count p 0 p.values → IsReached (goal_of p set)

abbrev pub ClaimsDecide : Type 0
ClaimsDecide = (p : PatternModel) → AreClaimsTrue p → HoldsAtAllWidths p

-- the same of the claims that the old side is never a number
abbrev pub AreEmptyClaimsTrue : PatternModel → Type 0
AreEmptyClaimsTrue p = (set : ℕ) → set < set_count p 0 p.values → IsReached (empty_goal_of p set)

abbrev pub EmptyClaimsDecide : Type 0
EmptyClaimsDecide = (p : PatternModel) → AreEmptyClaimsTrue p → IsNeverNumber p

-- ---- the results of the code

-- letters after which the truth of a claim isn't accepted; no shorter word has this property
abbrev pub IsFailed : Option Goal → Verdict → Type 0
IsFailed (Some (Some c)) v = IsEqualDecided c v
IsFailed _ v = ⊥

abbrev pub IsGoalDecided : Option Goal → Verdict → Type 0
IsGoalDecided g verdict.Always = IsReached g
IsGoalDecided g (verdict.Fails word) = IsFailed g (verdict.Fails word)
IsGoalDecided g verdict.TooMany = Unit {0}

-- the goals of an aim for the sets below a number are decided
abbrev pub AreGoalsDecided : Aim → PatternModel → ℕ → Decision → Type 0
AreGoalsDecided aim p n decision.Always = (set : ℕ) → set < n → IsReached (goal_for aim p set)
AreGoalsDecided aim p n (decision.Fails set word) = IsFailed (goal_for aim p set) (verdict.Fails word)
AreGoalsDecided aim p n decision.Undecided = Unit {0}

abbrev pub IsAimDecided : Aim → PatternModel → Decision → Type 0
IsAimDecided aim p d = AreGoalsDecided aim p (set_count p 0 p.values) d

-- the claims prove the pattern, or the claim for a set of poison variables fails
abbrev pub IsPatternDecided : PatternModel → Decision → Type 0
IsPatternDecided p decision.Always = IsProvedByClaims p
IsPatternDecided p (decision.Fails set word) = IsFailed (goal_of p set) (verdict.Fails word)
IsPatternDecided p decision.Undecided = Unit {0}

-- the old side is never a number, or the claim about it for a set of poison variables fails
abbrev pub IsEmptyDecided : PatternModel → Decision → Type 0
IsEmptyDecided p decision.Always = IsNeverNumber p
IsEmptyDecided p (decision.Fails set word) = IsFailed (empty_goal_of p set) (verdict.Fails word)
IsEmptyDecided p decision.Undecided = Unit {0}

-- the decision that a verdict on the goal for a set implies
abbrev pub decision_by : ℕ → Verdict → Decision
decision_by set verdict.Always = decision.Always
decision_by set (verdict.Fails word) = decision.Fails set word
decision_by set verdict.TooMany = decision.Undecided
