-- The rewrite of the highest-priority rule that applies.
use Rattle.std.proofs.Common.{◌≡◌, refl, ap, sym, ◌∙◌, subst, ℕ, List, ◌∷◌, true, false, Option, Some, None, Result, Ok, Err, option_map}
use Rattle.std.specs.Prelude.{IfOk, IfSome}
use Rattle.ir_event.specs.trees.declared.place.Place.{Place}
use Rattle.ir_event.specs.trees.Tree.{head}
use Rattle.ir_event.specs.trees.Meaning.{IsSoundIn, isolated_in}
use Rattle.ir_event.specs.trees.WellFormed.{IsWellFormed}
use Rattle.ir_event.specs.Modules.{Module, module_in}
use Rattle.ir_event.specs.declared.world.World.{World}
use Rattle.patterns_lowering.specs.Held.{TransactionModel, module_held}
use Rattle.patterns_plans.specs.Planned.{IsPlanAt}
use Rattle.patterns_plans.specs.reads.Reads.{head_at}
use Rattle.patterns_soundness.specs.base.Looks.{Header}
use Rattle.patterns_soundness.specs.base.RuleNames.{is_canonical}
use Rattle.patterns_soundness.specs.base.Rules.{OnlyListed, rules_for}
use Rattle.patterns_soundness.specs.base.declared.rule.Rule.{Rule}
use Rattle.patterns_soundness.specs.Accepted.{AreAccepted}
use Rattle.patterns_soundness.specs.base.Canonicalization.{greedy_rules, highest_priority}
use Rattle.patterns_soundness.specs.base.Rewrites.{none, edits_of, rewrite_of, carried_out}
use Rattle.patterns.specs.Applied.{RewriteOutcome}
use Rattle.patterns.specs.FirstMatching.{first_matching_rule}
use Rattle.patterns.specs.HighestPriority.{IsFirst, IsLeftOut, IsHighestPriority, FirstMatch, greedy}
use Rattle.patterns.specs.Planned.{IsFree, MadeIsOf, made_edits, planned_edits}
use Rattle.patterns.specs.declared.plan.RulePlan.{RulePlan}
use Rattle.patterns.specs.declared.apply_highest_priority.MatchedRule.{MatchedRule}
use Rattle.patterns_soundness.proofs.of_base.Suffices.{rises}
use Rattle.patterns.proofs.Acceptance.{accepted_of}
use Rattle.patterns.proofs.Applying.{edits_due, rewrite_due, same_module}
use Rattle.patterns.proofs.ByList.{named_suffice}
use Rattle.patterns.proofs.Firsts.{left_out, none_then, past, some_then, taken}
use Rattle.patterns.proofs.Planned.{found, none_rule}

module _ (w : World) (x : ℕ) (insertion : Place) (r : Rule) (pattern_set : is_canonical r ≡ true) where
  pub attempted : (p : Option RulePlan) → option_map (made_edits w.ctx (module_in w).next x insertion) p ≡ edits_of r (module_in w) x → IfSome p (MadeIsOf w.ctx) → FirstMatch r w x insertion p
  attempted None e of = left_out r (module_in w) x pattern_set e
  attempted (Some p) e of = (record { edits = e; of = of }, taken r (module_in w) x (made_edits w.ctx (module_in w).next x insertion p) pattern_set e)

  pub tried_ok : {E : Type 0} (result : Result (Option RulePlan) E) → IfOk result (λ p. option_map (made_edits w.ctx (module_in w).next x insertion) p ≡ edits_of r (module_in w) x) → IfOk result (λ p. IfSome p (MadeIsOf w.ctx)) → IfOk result (FirstMatch r w x insertion)
  tried_ok (Ok p) e of = attempted p e of
  tried_ok (Err f) e of = tt

-- the first of some rules may be left out, so the first of the others that applies is the first of all
pub first_others : (w : World) (x : ℕ) (insertion : Place) (r : Rule) (rs : List Rule) (f : Option (Rule × RulePlan)) → IsLeftOut r w x → IsFirst rs w x insertion f → IsFirst (r ∷ rs) w x insertion f
first_others w x insertion r rs None out first = out rs ∙ first
first_others w x insertion r rs (Some f) out first = (first.0, out rs ∙ first.1)

pub first_others_ok : {E : Type 0} (w : World) (x : ℕ) (insertion : Place) (r : Rule) (rs : List Rule) (result : Result (Option (Rule × RulePlan)) E) → IsLeftOut r w x → IfOk result (IsFirst rs w x insertion) → IfOk result (IsFirst (r ∷ rs) w x insertion)
first_others_ok w x insertion r rs (Ok f) out first = first_others w x insertion r rs f out first
first_others_ok w x insertion r rs (Err e) out first = tt

-- the table entry of the operation's name
module _ (only : OnlyListed) (m : Module) (x : ℕ) (h : Header) (shown : Some h ≡ head_at x m.tree) (rules : List Rule) (row : rules ≡ rules_for h.name) where
  name_is : rules ≡ rules_for (head (found x m.tree h shown).here).name
  name_is = row ∙ ap (λ (k : Header). rules_for k.name) (found x m.tree h shown).same

  pub row_suffices : first_matching_rule greedy_rules m x ≡ first_matching_rule (greedy rules) m x
  row_suffices =
      named_suffice only m x (found x m.tree h shown).here (found x m.tree h shown).is greedy_rules
      ∙ ap (λ rs. first_matching_rule rs m x) (rises (head (found x m.tree h shown).here).name)
      ∙ ap (λ rs. first_matching_rule (greedy rs) m x) (sym name_is)

-- the first applicable rule of a sufficient list is the highest-priority rule
module _ (w : World) (x : ℕ) (insertion : Place) (rules : List Rule) (suffices : first_matching_rule greedy_rules (module_in w) x ≡ first_matching_rule (greedy rules) (module_in w) x) where
  pub none_first_highest_priority : (f : Option (Rule × RulePlan)) → IsFirst rules w x insertion f → f ≡ None → IsHighestPriority w x None
  none_first_highest_priority f is e = suffices ∙ subst (IsFirst rules w x insertion) e is

  pub first_highest_priority : (f : Option (Rule × RulePlan)) (r : Rule) (p : RulePlan) → IsFirst rules w x insertion f → f ≡ Some (r, p) → IsHighestPriority w x (Some (record { rule = r; planned = record { point = insertion; made = p } }))
  first_highest_priority f r p is e = (let first = subst (IsFirst rules w x insertion) e is in (first.0, suffices ∙ first.1))

-- the world of a rewriter and its transaction
module _ (w : World) (b : TransactionModel) (ctx : w.ctx ≡ b.ctx) (store : w.store ≡ b.store) (x : ℕ) where
  pub none_held : first_matching_rule greedy_rules (module_in w) x ≡ None → RewriteOutcome (highest_priority (module_held b) x) false (module_held b) (module_held b)
  none_held e = subst (λ a. RewriteOutcome a false (module_held b) (module_held b)) (sym (ap (λ m. highest_priority m x) (sym (same_module w b ctx store x)) ∙ none_then greedy_rules (module_in w) x e)) (refl, refl)

  pub none_applied : first_matching_rule greedy_rules (module_in w) x ≡ None → first_matching_rule greedy_rules (module_held b) x ≡ None
  none_applied e = subst (λ m. first_matching_rule greedy_rules m x ≡ None) (same_module w b ctx store x) e

  module _ (f : MatchedRule) (is : IsHighestPriority w x (Some f)) where
    pub fits_held : MadeIsOf b.ctx f.planned.made
    fits_held = subst (λ c. MadeIsOf c f.planned.made) ctx is.0.of

    pub rule_held : highest_priority (module_held b) x ≡ rewrite_of f.rule (module_held b) x
    rule_held = subst (λ m. highest_priority m x ≡ rewrite_of f.rule m x) (same_module w b ctx store x) (some_then greedy_rules (module_in w) x f.rule is.1)

    pub applied_held : first_matching_rule greedy_rules (module_held b) x ≡ Some f.rule
    applied_held = subst (λ m. first_matching_rule greedy_rules m x ≡ Some f.rule) (same_module w b ctx store x) is.1

    pub highest_priority_due : highest_priority (module_held b) x ≡ carried_out (planned_edits b.ctx (module_held b).next x f.planned) (module_held b)
    highest_priority_due = rule_held ∙ rewrite_due w b ctx store x (λ c n q. planned_edits c n x q) f.rule (Some f.planned) is.0.edits f.planned refl

    pub free_held : AreAccepted → IsSoundIn b.ctx b.store.module_of.tree → IsWellFormed (isolated_in b.ctx) b.store.module_of → IsFree (planned_edits b.ctx (module_held b).next x f.planned) (module_held b)
    free_held accepted sound wellformed n e =
        accepted_of accepted b sound wellformed f.rule x (planned_edits b.ctx (module_held b).next x f.planned) n
        (edits_due w b ctx store x (λ c n q. planned_edits c n x q) f.rule (Some f.planned) is.0.edits f.planned refl) e

-- rules that may be left out
pub never : (w : World) (x : ℕ) (r : Rule) → is_canonical r ≡ true → IsPlanAt r w x None → IsLeftOut r w x
never w x r pattern_set is = left_out r (module_in w) x pattern_set (none_rule r (module_in w) x is)

pub untried : (w : World) (x : ℕ) (r : Rule) → is_canonical r ≡ false → IsLeftOut r w x
untried w x r out = past r (module_in w) x out
