-- The reason why a rule doesn't apply at an operation that the store shows.
use Rattle.std.proofs.Common.{◌≡◌, ◌∙◌, ap, sym, refl, ℕ, List, Bool, true, false, Option, Some, None}
use Rattle.std.proofs.lemmas.Option.{none-some, same_Some}
use Rattle.std.specs.Prelude.{is_ok, is_some, option_map, Result, Ok, Err}
use Rattle.std.specs.Result.{result_err, result_ok}
use Rattle.ir_event.specs.trees.declared.place.Place.{Place}
use Rattle.ir_event.specs.trees.Tree.{head}
use Rattle.ir_event.specs.trees.Ids.{find}
use Rattle.ir_event.specs.trees.Meaning.{Operation}
use Rattle.ir_event.proofs.of_tree_laws.Members.{found_stands}
use Rattle.ir_event.specs.Modules.{Module, module_in}
use Rattle.ir_event.specs.declared.world.World.{World}
use Rattle.patterns_base.specs.Contents.{Edit}
use Rattle.patterns_base.specs.Keeps.{given}
use Rattle.patterns_base.specs.Looks.{Header, insertion_of, when}
use Rattle.patterns_base.specs.Rewrites.{edits_of, eligible}
use Rattle.patterns_base.specs.Rules.{has_rule, rule}
use Rattle.patterns_base.specs.declared.rule.Rule.{Rule}
use Rattle.patterns_lowering.specs.region_rules.Answers.{HasReasonAt}
use Rattle.patterns_lowering.specs.region_rules.Conditions.{first_failed_test, unless_holds}
use Rattle.patterns_lowering.specs.region_rules.Reason.{Reason}
use Rattle.patterns_lowering.specs.region_rules.Reason.TheVariants.{NotVerified, WrongOperation, IsRoot}
use Rattle.patterns_lowering.specs.region_rules.RuleTests.{tests}
use Rattle.patterns_lowering.specs.region_rules.reads.Reads.{head_at}
use Rattle.conversion_base.specs.Reasons.{IsReasonAt, applies, conditions, reason_of}

-- the reason of an answer whose plan is that of the rule
pub answered : {P : Type 0} (f : P → List Edit) (r : Rule) (w : World) (x : ℕ) (point : Place) (a : Result P Reason)
    → ((o : Operation) → find x (module_in w).tree ≡ Some o → option_map f (result_ok a) ≡ rule r (module_in w).tree (module_in w).next point o)
    → HasReasonAt r w x a → IsReasonAt r (module_in w) x point (result_err a)
answered {P = P} f r w x point a e h o k = h o k ∙ ap (λ b. first_failed_test (tests r (module_in w).tree o b)) (one a ∙ ap is_some (e o k))
  where
    one : (a : Result P Reason) → is_ok a ≡ is_some (option_map f (result_ok a))
    one (Ok p) = refl
    one (Err c) = refl

-- the operation that the store shows
shown_of : (x : ℕ) (t : Operation) (h : Header) → Some h ≡ head_at x t → (o : Operation) × (find x t ≡ Some o) × (head o ≡ h) × (h.id ≡ x)
shown_of x t h e = go (find x t) refl
  where
    go : (f : Option Operation) → find x t ≡ f → (o : Operation) × (find x t ≡ Some o) × (head o ≡ h) × (h.id ≡ x)
    go None k = absurd (none-some h (sym (e ∙ ap (option_map (λ o. head o)) k)))
    go (Some o) k =
        let s = found_stands x t o k in
        let same = same_Some (head o) h (sym (e ∙ ap (option_map (λ o. head o)) k)) in
        (o, k, same, ap (λ (j : Header). j.id) (sym same) ∙ ap (λ (z : Operation). (head z).id) (sym s.3) ∙ s.2)

-- ---- the conditions of all rules
reason_there : (r : Rule) (m : Module) (x : ℕ) (o : Operation) → find x m.tree ≡ Some o → reason_of r m x ≡ first_failed_test (conditions r m x o)
unfolding reason_of
reason_there r m x o is = ap (λ q. given q (λ o. first_failed_test (conditions r m x o))) is

pub nowhere : (r : Rule) (m : Module) (x : ℕ) → None ≡ head_at x m.tree → None ≡ reason_of r m x
unfolding reason_of
nowhere r m x e = go (find x m.tree) refl
  where
    go : (f : Option Operation) → find x m.tree ≡ f → None ≡ reason_of r m x
    go None k = sym (ap (λ q. given q (λ o. first_failed_test (conditions r m x o))) k)
    go (Some o) k = absurd (let some : None ≡ Some (head o) = e ∙ ap (option_map (λ o. head o)) k in cc)

module _ (r : Rule) (m : Module) (x : ℕ) (h : Header) (e : Some h ≡ head_at x m.tree) where
  at : (o : Operation) × (find x m.tree ≡ Some o) × (head o ≡ h) × (h.id ≡ x)
  at = shown_of x m.tree h e

  o : Operation
  o = at.0

  is : find x m.tree ≡ Some o
  unfolding o
  is = at.1

  same : head o ≡ h
  unfolding o
  same = at.2

  with_id : record h { id = x } ≡ head o
  with_id = (λ i. record h { id = sym at.3 i }) ∙ sym same

  pub at_root : None ≡ insertion_of x m.tree → Some IsRoot ≡ reason_of r m x
  at_root f =
      sym (reason_there r m x o is ∙ ap (λ (p : Option Place). unless_holds (is_some p) IsRoot (unless_holds (eligible r m.tree (head o)) NotVerified
      (unless_holds (has_rule r (head o).name) WrongOperation (first_failed_test (tests r m.tree o (applies r m x)))))) (sym f))

  module _ (insertion : Place) (f : Some insertion ≡ insertion_of x m.tree) where
    after_insertion : reason_of r m x ≡ unless_holds (eligible r m.tree (head o)) NotVerified (unless_holds (has_rule r (head o).name) WrongOperation (first_failed_test (tests r m.tree o (applies r m x))))
    after_insertion =
        reason_there r m x o is ∙ ap (λ (p : Option Place). unless_holds (is_some p) IsRoot (unless_holds (eligible r m.tree (head o)) NotVerified
        (unless_holds (has_rule r (head o).name) WrongOperation (first_failed_test (tests r m.tree o (applies r m x)))))) (sym f)

    pub unfit : (b : Bool) → b ≡ eligible r m.tree (record h { id = x }) → b ≡ false → Some NotVerified ≡ reason_of r m x
    unfit b s n =
        sym (after_insertion ∙ ap (λ c. unless_holds c NotVerified (unless_holds (has_rule r (head o).name) WrongOperation (first_failed_test (tests r m.tree o (applies r m x)))))
        (ap (eligible r m.tree) (sym with_id) ∙ sym s ∙ n))

    module _ (b : Bool) (s : b ≡ eligible r m.tree (record h { id = x })) (fits_in : b ≡ true) where
      eligible_it : eligible r m.tree (head o) ≡ true
      eligible_it = ap (eligible r m.tree) (sym with_id) ∙ sym s ∙ fits_in

      after_fit : reason_of r m x ≡ unless_holds (has_rule r (head o).name) WrongOperation (first_failed_test (tests r m.tree o (applies r m x)))
      after_fit = after_insertion ∙ ap (λ c. unless_holds c NotVerified (unless_holds (has_rule r (head o).name) WrongOperation (first_failed_test (tests r m.tree o (applies r m x))))) eligible_it

      pub other : (d : Bool) → d ≡ has_rule r h.name → d ≡ false → Some WrongOperation ≡ reason_of r m x
      other d l n =
          sym (after_fit ∙ ap (λ c. unless_holds c WrongOperation (first_failed_test (tests r m.tree o (applies r m x)))) (ap (λ (j : Header). has_rule r j.name) same ∙ sym l ∙ n))

      made : is_some (rule r m.tree m.next insertion o) ≡ applies r m x
      unfolding edits_of
      made =
          sym (ap (λ c. is_some (when c (rule r m.tree m.next insertion o))) eligible_it)
          ∙ ap (λ (p : Option Place). is_some (given p (λ insertion. when (eligible r m.tree (head o)) (rule r m.tree m.next insertion o)))) f
          ∙ sym (ap (λ (q : Option Operation). is_some (given q (λ o. given (insertion_of x m.tree) (λ insertion. when (eligible r m.tree (head o)) (rule r m.tree m.next insertion o))))) is)

      pub requested : (d : Bool) (k : Option Reason) → d ≡ has_rule r h.name → d ≡ true → IsReasonAt r m x insertion k → k ≡ reason_of r m x
      requested d k l listed t =
          t o is ∙ ap (λ a. first_failed_test (tests r m.tree o a)) made
          ∙ sym (after_fit ∙ ap (λ c. unless_holds c WrongOperation (first_failed_test (tests r m.tree o (applies r m x)))) (ap (λ (j : Header). has_rule r j.name) same ∙ sym l ∙ listed))
