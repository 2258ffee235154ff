-- The reported reasons.
use Rattle.std.proofs.lemmas.Option.{same_Some}
use Rattle.std.proofs.Common.{◌≡◌, refl, ap, sym, inl, inr, ◌∙◌, List, [], ◌∷◌, Bool, true, false, Option, Some, None}
use Rattle.std.specs.Prelude.{◌&&◌, is_none, is_some}
use Rattle.ir_event.specs.trees.declared.place.Place.{Place}
use Rattle.ir_event.specs.trees.Ids.{find}
use Rattle.ir_event.specs.trees.Meaning.{Operation}
use Rattle.ir_event.specs.trees.Tree.{head}
use Rattle.ir_event.specs.tree_laws.Members.{In}
use Rattle.patterns_base.specs.Keeps.{given}
use Rattle.patterns_base.specs.Looks.{insertion_of, when}
use Rattle.patterns_base.specs.Contents.{Edit}
use Rattle.patterns_base.specs.Rewrites.{edits_of, eligible}
use Rattle.patterns_base.specs.Rules.{has_rule, rule}
use Rattle.patterns_base.proofs.Dispatch.{only_listed}
use Rattle.patterns_lowering.specs.region_rules.Reason.{Reason}
use Rattle.patterns_lowering.specs.region_rules.Reason.TheVariants.{IsRoot, NotVerified, WrongOperation}
use Rattle.patterns_lowering.specs.region_rules.Conditions.{Test, all_hold, asks, first_failed_test, unless_holds}
use Rattle.patterns_lowering.specs.region_rules.RuleTests.{tests}
use Rattle.conversion_base.specs.Reasons.{conditions, reason_of, ReportedReasonsHold, NoReasonWhereRulesApply}
use Rattle.patterns_plans.proofs.Answered.{none_fails}
use Rattle.patterns_plans.proofs.Passing.{passes}

-- a failed condition is in the list, and doesn't hold
one_of : (b : Bool) (k : Reason) (ts : List Test) (c : Reason) → (first_failed_test ts ≡ Some c → In (asks c false) ts) → unless_holds b k (first_failed_test ts) ≡ Some c
    → In (asks c false) (asks k b ∷ ts)
one_of true k ts c later e = inr (later e)
one_of false k ts c later e = inl (ap (λ (d : Reason). asks d false) (sym (same_Some k c e)))

failing_in : (ts : List Test) (c : Reason) → first_failed_test ts ≡ Some c → In (asks c false) ts
failing_in [] c h = absurd cc
failing_in (t ∷ ts) c h = one_of t.holds t.condition ts c (failing_in ts c) h

-- the conditions before a rule's own tests
split : {Y : Type 0} (p : Option Place) (c h : Bool) (g : Place → Option Y) (T : Bool → Bool) → ((f : Place) → T (is_some (g f)) ≡ is_some (g f))
    → (h ≡ false → (f : Place) → g f ≡ None)
    → is_some p && (c && (h && T (is_some (given p (λ f. when c (g f)))))) ≡ is_some (given p (λ f. when c (g f)))
split None c h g T pass listed = refl
split (Some f) false h g T pass listed = refl
split (Some f) true false g T pass listed = sym (ap is_some (listed refl f))
split (Some f) true true g T pass listed = pass f

pub reported_where_rules_apply : NoReasonWhereRulesApply
unfolding reason_of edits_of
reported_where_rules_apply r m x o e = at_find (find x m.tree) e
  where
    edits : Option Operation → Option (List Edit)
    edits q = given q (λ o. given (insertion_of x m.tree) (λ insertion. when (eligible r m.tree (head o)) (rule r m.tree m.next insertion o)))

    requested : Bool → Operation → List Test
    requested b o = asks IsRoot (is_some (insertion_of x m.tree)) ∷ asks NotVerified (eligible r m.tree (head o)) ∷ asks WrongOperation (has_rule r (head o).name) ∷ tests r m.tree o b

    at_find : (q : Option Operation) → q ≡ Some o → is_none (given q (λ o. first_failed_test (requested (is_some (edits q)) o))) ≡ is_some (edits q)
    at_find q is =
        rw is (none_fails (requested (is_some (edits (Some o))) o)
        ∙ split (insertion_of x m.tree) (eligible r m.tree (head o)) (has_rule r (head o).name) (λ insertion. rule r m.tree m.next insertion o) (λ b. all_hold (tests r m.tree o b))
        (λ insertion. passes m.tree m.next insertion o r) (λ none insertion. only_listed r m.tree m.next insertion o none))

pub reported_conditions_fail : ReportedReasonsHold
unfolding reason_of
reported_conditions_fail r m x c h = at_find (find x m.tree) refl h
  where
    at_find : (q : Option Operation) → find x m.tree ≡ q → given q (λ o. first_failed_test (conditions r m x o)) ≡ Some c → (o : Operation) × (find x m.tree ≡ Some o) × In (asks c false) (conditions r m x o)
    at_find None e f = absurd cc
    at_find (Some o) e f = (o, e, failing_in (conditions r m x o) c f)
