-- Running two lists of steps in sequence.
use Rattle.std.proofs.Common.{◌≡◌, List, [], ◌∷◌, ◌++◌, Option, Some, None, refl}
use Rattle.user_patterns_check.specs.declared.step.Step.{Step}
use Rattle.user_patterns_check.specs.Outcomes.{Outcome, given, run, step_of}

pub run_after : (ss rs : List Step) (env : List Outcome) → run (ss ++ rs) env ≡ given (run ss env) (run rs)
run_after [] rs env = refl
run_after (s ∷ ss) rs env = go (λ v. run_after ss rs (env ++ (v ∷ []))) (step_of s env)
  where
    go : ((v : Outcome) → run (ss ++ rs) (env ++ (v ∷ [])) ≡ given (run ss (env ++ (v ∷ []))) (run rs)) → (o : Option Outcome)
        → given o (λ v. run (ss ++ rs) (env ++ (v ∷ []))) ≡ given (given o (λ v. run ss (env ++ (v ∷ [])))) (run rs)
    go ih None = refl
    go ih (Some v) = ih v
