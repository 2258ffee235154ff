-- The numbers of a pattern, from the bindings of a match.
use Rattle.std.proofs.Common.{◌≡◌, ℕ, ap, sym, ◌∙◌, List, [], map, take, Bool, true, false, None, Some}
use Rattle.ir_event.specs.types.Terms.{TypeTerm}
use Rattle.ir_event.specs.trees.declared.value.Value.{Value}
use Rattle.ir_event.specs.trees.Meaning.{Operation}
use Rattle.user_patterns_check.specs.Checks as check
use Rattle.user_patterns_check.specs.Contents.{Content}
use Rattle.user_patterns_check.specs.Outcomes.{Outcome, given, run}
use Rattle.user_patterns_check.specs.declared.step.Step.{Step}
use Rattle.user_patterns_data.specs.Fitting.{content_with}
use Rattle.user_patterns_data.specs.Matching.{Header, BoundValues}
use Rattle.user_patterns_data.specs.Planning.{bound_type, outcomes, typed}
use Rattle.user_patterns_data.specs.Shapes.{PatternModel}
use Rattle.user_patterns_apply.specs.Matched.{any, matched}
use Rattle.user_patterns_apply.specs.Numbers.{numbers_at, numbers_given, or_empty}
use Rattle.user_patterns_apply.proofs.Planned.{not_ran, ran}

module _ (t : Operation) (verified : Header → Bool) (n : ℕ) (p : PatternModel) (most : ℕ) (b : BoundValues Value) (ts : BoundValues TypeTerm) where
  pub computed : (x : ℕ) → Some b ≡ matched t any p x → Some ts ≡ typed t verified n p b → numbers_given t verified n p most b ts ≡ numbers_at t verified n p x most
  computed x match_is types_are =
      ap (λ z. or_empty (given z (λ ts. run (take most (Content.given (content_with (map bound_type ts) p))) (outcomes t verified n p 0 p.values b)))) types_are
      ∙ ap (λ z. or_empty (given z (λ b. given (typed t verified n p b) (λ ts. run (take most (Content.given (content_with (map bound_type ts) p))) (outcomes t verified n p 0 p.values b))))) match_is

  module _ (steps : List Step) (are : steps ≡ take most (Content.given (content_with (map bound_type ts) p))) (env : List Outcome) (start : env ≡ outcomes t verified n p 0 p.values b) (after : List Outcome) (done : Bool) (stands : check.Stands (run steps env) after done) where
    same : run (take most (Content.given (content_with (map bound_type ts) p))) (outcomes t verified n p 0 p.values b) ≡ run steps env
    same = λ i. run (sym are i) (sym start i)

    pub all_numbers : done ≡ true → after ≡ numbers_given t verified n p most b ts
    all_numbers e = sym (ap or_empty (same ∙ ran (run steps env) after done stands e))

    pub no_numbers : done ≡ false → [] ≡ numbers_given t verified n p most b ts
    no_numbers e = sym (ap or_empty (same ∙ not_ran (run steps env) after done stands e))

-- without types that agree there are none
pub untyped : (t : Operation) (verified : Header → Bool) (n : ℕ) (p : PatternModel) (most : ℕ) (b : BoundValues Value) (x : ℕ) → Some b ≡ matched t any p x → None ≡ typed t verified n p b → [] ≡ numbers_at t verified n p x most
untyped t verified n p most b x match_is types_are =
    ap (λ z. or_empty (given z (λ ts. run (take most (Content.given (content_with (map bound_type ts) p))) (outcomes t verified n p 0 p.values b)))) types_are
    ∙ ap (λ z. or_empty (given z (λ b. given (typed t verified n p b) (λ ts. run (take most (Content.given (content_with (map bound_type ts) p))) (outcomes t verified n p 0 p.values b))))) match_is
