-- The rewrite of the first rule of a list that applies.
use Rattle.std.proofs.Common.{◌≡◌, refl, ap, sym, ◌∙◌, subst, ℕ, List, [], ◌∷◌, Bool, true, false, Option, Some, None}
use Rattle.std.specs.Prelude.{All, if◌then◌else◌}
use Rattle.std.specs.List.{filter}
use Rattle.std.proofs.lemmas.List.Elements.{All-head, All-tail, All-filter}
use Rattle.ir_event.specs.trees.declared.place.Place.{Place}
use Rattle.ir_event.specs.trees.Tree.{head}
use Rattle.ir_event.specs.trees.Ids.{find}
use Rattle.ir_event.specs.trees.Meaning.{Operation, IsSoundIn, isolated_in}
use Rattle.ir_event.specs.trees.WellFormed.{IsWellFormed}
use Rattle.ir_event.specs.Modules.{Module, module_in}
use Rattle.ir_event.specs.declared.world.World.{World}
use Rattle.patterns_lowering.specs.Held.{TransactionModel, module_held}
use Rattle.patterns_plans.specs.reads.Reads.{head_at}
use Rattle.patterns_soundness.specs.base.Looks.{Header}
use Rattle.patterns_soundness.specs.base.RuleNames.{is_canonical}
use Rattle.patterns_soundness.specs.base.Rules.{OnlyListed, has_rule}
use Rattle.patterns_soundness.specs.base.declared.rule.Rule.{Rule}
use Rattle.patterns_soundness.specs.base.Canonicalization.{first_rule}
use Rattle.patterns_soundness.specs.base.Rewrites.{none, edits_of, rewrite_of, rewrite_by, carried_out}
use Rattle.patterns_soundness.specs.Accepted.{AreAccepted}
use Rattle.patterns.specs.Applied.{RewriteOutcome}
use Rattle.patterns.specs.FirstMatching.{first_matching_rule, rule_or}
use Rattle.patterns.specs.HighestPriority.{IsFirst, greedy}
use Rattle.patterns.specs.Planned.{IsFree, MadeIsOf, planned_edits}
use Rattle.patterns.specs.Rows.{AreCanonical, IsFirstOf, those_for}
use Rattle.patterns.specs.declared.plan.RulePlan.{RulePlan}
use Rattle.patterns.specs.declared.apply_highest_priority.MatchedRule.{MatchedRule}
use Rattle.patterns.proofs.Acceptance.{accepted_of}
use Rattle.patterns.proofs.Applying.{edits_due, rewrite_due, same_module}
use Rattle.patterns_soundness.proofs.of_base.Facts.{rewrite_is}
use Rattle.patterns.proofs.Firsts.{first_matching_more, none_then, some_then}
use Rattle.patterns.proofs.Planned.{found, none_rule}

abbrev IsTried : Rule → Type 0
IsTried r = is_canonical r ≡ true

-- filtering a list of canonicalization rules keeps all of them
all_kept : (rs : List Rule) → AreCanonical rs → greedy rs ≡ rs
all_kept [] h = refl
all_kept (r ∷ rs) h =
    ap (λ (b : Bool). if b then r ∷ greedy rs else greedy rs) (All-head IsTried r rs h)
    ∙ ap (λ (xs : List Rule). r ∷ xs) (all_kept rs (All-tail IsTried r rs h))

-- rules that the table doesn't list for the operation's name may be left out
module _ (only : OnlyListed) (m : Module) (x : ℕ) (o : Operation) (is : find x m.tree ≡ Some o) where
  abbrev name : List ℕ
  name = (head o).name

  unlisted : (r : Rule) → has_rule r name ≡ false → None ≡ edits_of r m x
  unlisted r lacks = none_rule r m x (λ p f n insertion. sym (only r m.tree n insertion p (subst (λ (q : Operation). has_rule r (head q).name ≡ false) (same p f) lacks)))
    where
      same : (p : Operation) → find x m.tree ≡ Some p → o ≡ p
      same p f = (let both : Some o ≡ Some p = sym is ∙ f in cc)

  pub named_suffice : (rs : List Rule) → first_matching_rule rs m x ≡ first_matching_rule (those_for rs name) m x
  named_suffice [] = refl
  named_suffice (r ∷ rs) = by (has_rule r name) refl (named_suffice rs)
    where
      by : (t : Bool) → has_rule r name ≡ t → first_matching_rule rs m x ≡ first_matching_rule (those_for rs name) m x → first_matching_rule (r ∷ rs) m x ≡ first_matching_rule (if t then r ∷ those_for rs name else those_for rs name) m x
      by true f rest = first_matching_more r rs m x ∙ ap (rule_or (rewrite_of r m x) r) rest ∙ sym (first_matching_more r (those_for rs name) m x)
      by false f rest =
          first_matching_more r rs m x
          ∙ ap (λ w. rule_or w r (first_matching_rule rs m x)) (rewrite_is r m x ∙ ap (λ es. rewrite_by es m) (sym (unlisted r f)))
          ∙ rest

-- the table entry of the operation's name
module _ (only : OnlyListed) (m : Module) (x : ℕ) (h : Header) (shown : Some h ≡ head_at x m.tree) (rs : List Rule) (canonical : AreCanonical rs) (row : List Rule) (is : row ≡ those_for rs h.name) where
  row_is : row ≡ those_for rs (head (found x m.tree h shown).here).name
  row_is = is ∙ ap (λ (k : Header). those_for rs k.name) (found x m.tree h shown).same

  tried_there : AreCanonical (those_for rs h.name)
  tried_there = All-filter (λ r. has_rule r h.name) IsTried rs canonical

  pub list_suffices : first_matching_rule rs m x ≡ first_matching_rule (greedy row) m x
  list_suffices =
      named_suffice only m x (found x m.tree h shown).here (found x m.tree h shown).is rs
      ∙ ap (λ (xs : List Rule). first_matching_rule xs m x) (sym row_is ∙ sym (all_kept row (subst AreCanonical (sym is) tried_there)))

-- the first applicable rule of a sufficient list is the first of the whole list
module _ (w : World) (x : ℕ) (insertion : Place) (rs rules : List Rule) (suffices : first_matching_rule rs (module_in w) x ≡ first_matching_rule (greedy rules) (module_in w) x) where
  pub none_of_list : (f : Option (Rule × RulePlan)) → IsFirst rules w x insertion f → f ≡ None → IsFirstOf rs w x None
  none_of_list f is e = suffices ∙ subst (IsFirst rules w x insertion) e is

  pub some_of_list : (f : Option (Rule × RulePlan)) (r : Rule) (p : RulePlan) → IsFirst rules w x insertion f → f ≡ Some (r, p) → IsFirstOf rs w x (Some (record { rule = r; planned = record { point = insertion; made = p } }))
  some_of_list f r p is e = (let first = subst (IsFirst rules w x insertion) e is in (first.0, suffices ∙ first.1))

-- the world of a rewriter and its transaction
module _ (w : World) (b : TransactionModel) (ctx : w.ctx ≡ b.ctx) (store : w.store ≡ b.store) (x : ℕ) (rs : List Rule) where
  pub none_held : first_matching_rule rs (module_in w) x ≡ None → RewriteOutcome (first_rule rs (module_held b) x) false (module_held b) (module_held b)
  none_held e = subst (λ a. RewriteOutcome a false (module_held b) (module_held b)) (sym (ap (λ m. first_rule rs m x) (sym (same_module w b ctx store x)) ∙ none_then rs (module_in w) x e)) (refl, refl)

  pub none_applied : first_matching_rule rs (module_in w) x ≡ None → first_matching_rule rs (module_held b) x ≡ None
  none_applied e = subst (λ m. first_matching_rule rs m x ≡ None) (same_module w b ctx store x) e

  module _ (f : MatchedRule) (is : IsFirstOf rs w x (Some f)) where
    pub fits_held : MadeIsOf b.ctx f.planned.made
    fits_held = subst (λ c. MadeIsOf c f.planned.made) ctx is.0.of

    pub rule_held : first_rule rs (module_held b) x ≡ rewrite_of f.rule (module_held b) x
    rule_held = subst (λ m. first_rule rs m x ≡ rewrite_of f.rule m x) (same_module w b ctx store x) (some_then rs (module_in w) x f.rule is.1)

    pub applied_held : first_matching_rule rs (module_held b) x ≡ Some f.rule
    applied_held = subst (λ m. first_matching_rule rs m x ≡ Some f.rule) (same_module w b ctx store x) is.1

    pub first_due : first_rule rs (module_held b) x ≡ carried_out (planned_edits b.ctx (module_held b).next x f.planned) (module_held b)
    first_due = rule_held ∙ rewrite_due w b ctx store x (λ c n q. planned_edits c n x q) f.rule (Some f.planned) is.0.edits f.planned refl

    pub free_held : AreAccepted → IsSoundIn b.ctx b.store.module_of.tree → IsWellFormed (isolated_in b.ctx) b.store.module_of → IsFree (planned_edits b.ctx (module_held b).next x f.planned) (module_held b)
    free_held accepted sound wellformed n e =
        accepted_of accepted b sound wellformed f.rule x (planned_edits b.ctx (module_held b).next x f.planned) n
        (edits_due w b ctx store x (λ c n q. planned_edits c n x q) f.rule (Some f.planned) is.0.edits f.planned refl) e
