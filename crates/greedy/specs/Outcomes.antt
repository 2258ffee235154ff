-- Outcomes of runs of the driver.
use Rattle.std.specs.Prelude.{◌≡◌, ◌≢◌, ◌⊎◌, ◌↔◌, ℕ, Bool, true, false, ◌&&◌, nat_le}
use Rattle.ir_event.specs.types.declared.refusal.Refusal.{Refusal}
use Rattle.ir_event.specs.types.declared.refusal.Refusal.TheVariants.{Memory, BadLimit, Full}
use Rattle.ir_event.specs.Modules.{Module}
use Rattle.patterns_base.specs.Rewrites.{Rewrite, none, refused, becomes}
use Rattle.patterns_base.specs.Canonicalization.{Canonical, End, converged, limited, aborted, ended, most_rewrites}
use Rattle.greedy.specs.Rewriting.{rewritten_from, rewriting_of}
use Rattle.greedy.specs.PatternSet.{PatternSetModel}
use Rattle.greedy.specs.declared.outcome.Outcome.{Outcome}
use Rattle.greedy.specs.declared.outcome.Outcome.TheVariants.{Converged, Limit}

-- the flag says that there was a rewrite, and the second module is its result
abbrev pub Applied : Rewrite → Bool → Module → Module → Type 0
Applied none done m n = (done ≡ false) × (n ≡ m)
Applied (becomes p) done m n = (done ≡ true) × (n ≡ p)
Applied (refused e) done m n = ⊥

-- a rewrite is refused because memory runs out, because the definition refuses it, or because a rewrite exists and no
-- more can be interned
abbrev pub Refuses : Rewrite → Type 0 → Refusal → Type 0
Refuses a is_full e = (e ≡ Memory) ⊎ ((a ≡ refused e) ⊎ ((e ≡ Full) × ((a ≢ none) × is_full)))

-- the flag is true only if there is a rewrite
abbrev pub MarksRewrite : Rewrite → Bool → Type 0
MarksRewrite a true = a ≢ none
MarksRewrite a false = a ≡ none

-- the number of rewrites of an outcome, and how the run ended
abbrev pub count_of : Outcome → ℕ
count_of (Converged k) = k
count_of (Limit k) = k

abbrev pub ending_of : Outcome → End
ending_of (Converged k) = converged
ending_of (Limit k) = limited

-- at most a number of rewrites of module m by a pattern set end with an outcome and module n
abbrev pub ComeTo : PatternSetModel → ℕ → Module → Outcome → Module → Type 0
ComeTo a limit m o n = rewritten_from a limit 0 m ≡ ended n (count_of o) (ending_of o)

-- the rewrites are refused because memory runs out, because the definition refuses one, or because no more can be
-- interned
abbrev pub Stop : PatternSetModel → ℕ → Module → Type 0 → Refusal → Type 0
Stop a limit m is_full e = (e ≡ Memory) ⊎ ((rewritten_from a limit 0 m ≡ aborted e) ⊎ ((e ≡ Full) × is_full))

-- rewriting module m by a pattern set ends with an outcome and module n
abbrev pub IsRewriting : PatternSetModel → ℕ → Module → Outcome → Module → Type 0
IsRewriting a limit m o n = rewriting_of a limit m ≡ ended n (count_of o) (ending_of o)

-- whether a limit is within the allowed range
abbrev pub is_limit : ℕ → Bool
is_limit limit = nat_le 1 limit && nat_le limit most_rewrites

-- why a run with a defined result is refused: with `BadLimit` exactly if its limit isn't allowed; otherwise because
-- memory runs out, because the definition refuses it, or because no more can be interned
pub record IsReasonFor (due : Canonical) (limit : ℕ) (is_full : Type 0) (e : Refusal) : Type 0 where
  pub limited : (e ≡ BadLimit) ↔ (is_limit limit ≡ false)
  pub others : is_limit limit ≡ true → (e ≡ Memory) ⊎ ((due ≡ aborted e) ⊎ ((e ≡ Full) × is_full))

-- why rewriting module m by a pattern set is refused
abbrev pub IsReasonBy : PatternSetModel → ℕ → Module → Type 0 → Refusal → Type 0
IsReasonBy a limit m is_full e = IsReasonFor (rewriting_of a limit m) limit is_full e
