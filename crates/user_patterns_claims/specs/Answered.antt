-- What claims say of a pattern.
use Rattle.std.specs.Prelude.{◌≡◌, ℕ, List, Bool, true, false}
use Rattle.user_patterns_data.specs.Shapes.{PatternModel}
use Rattle.user_patterns_claims.specs.declared.answer.Answer.{Answer}
use Rattle.user_patterns_claims.specs.declared.answer.Answer.TheVariants as answer
use Rattle.user_patterns_claims.specs.declared.assignment.Refutation.{Refutation}
use Rattle.user_patterns_claims.specs.Decoding.{IsRefutation}
use Rattle.user_patterns_claims.specs.Outcomes.{IsNeverNumber}
use Rattle.user_patterns_claims.specs.Quotients.{IsProvedByClaims}

-- a counterexample that some word spells for some set of poison variables
abbrev pub IsRefuted : PatternModel → Refutation → Type 0
IsRefuted p r = (set : ℕ) × (word : List ℕ) × IsRefutation p set word r

-- the old side is never a number, or it is one somewhere
abbrev pub IsEmptyAnswer : PatternModel → Bool → Type 0
IsEmptyAnswer p true = IsNeverNumber p
IsEmptyAnswer p false = IsNeverNumber p → ⊥

abbrev pub IsAnswer : PatternModel → Answer → Type 0
IsAnswer p answer.Empty = IsNeverNumber p
IsAnswer p (answer.Right somewhere) = IsProvedByClaims p × (somewhere ≡ true → IsNeverNumber p → ⊥)
IsAnswer p (answer.Wrong r) = IsRefuted p r
IsAnswer p answer.Open = Unit {0}
