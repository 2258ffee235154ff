-- The first of some rules that applies.
use Rattle.std.proofs.Common.{◌≡◌, refl, ap, sym, ◌∙◌, ℕ, ◌+◌, List, [], ◌∷◌, Bool, true, false, Option, Some, None}
use Rattle.std.specs.Prelude.{nat_le, if◌then◌else◌}
use Rattle.ir_event.specs.trees.Ids.{op_count}
use Rattle.ir_event.specs.trees.Limits.{most_ops, most_next}
use Rattle.ir_event.specs.Modules.{Module}
use Rattle.ir_event.specs.types.declared.refusal.Refusal.TheVariants.{Full, IdsExhausted}
use Rattle.patterns_lowering.specs.Contents.{Edit, all_edited}
use Rattle.patterns_soundness.specs.base.Canonicalization.{first_rule, greedy_rules, or_else}
use Rattle.patterns_soundness.specs.base.Makes.{made_by}
use Rattle.patterns_soundness.specs.base.Rewrites.{Rewrite, none, refused, becomes, edits_of, rewrite_of, rewrite_by, carried_out}
use Rattle.patterns_soundness.specs.base.RuleNames.{is_canonical}
use Rattle.patterns_soundness.specs.base.declared.rule.Rule.{Rule}
use Rattle.patterns.specs.FirstMatching.{first_matching_rule, rewrite_if, rule_or}
use Rattle.patterns.specs.HighestPriority.{greedy}
use Rattle.patterns_soundness.proofs.of_base.Facts.{rewrite_is}

pub first_matching_more : (r : Rule) (rs : List Rule) (m : Module) (x : ℕ) → first_matching_rule (r ∷ rs) m x ≡ rule_or (rewrite_of r m x) r (first_matching_rule rs m x)
unfolding first_matching_rule
first_matching_more r rs m x = refl

pub first_matching_none : (m : Module) (x : ℕ) → first_matching_rule [] m x ≡ None
unfolding first_matching_rule
first_matching_none m x = refl

kept : (es : List Edit) (m : Module) (r : Rule) (f : Option Rule) → rule_or (carried_out es m) r f ≡ Some r
kept es m r f = go (nat_le (op_count m.tree + made_by es) most_ops) (nat_le (m.next + made_by es) most_next)
  where
    go : (a b : Bool) → rule_or (if a then (if b then becomes (all_edited es m) else refused IdsExhausted) else refused Full) r f ≡ Some r
    go true true = refl
    go true false = refl
    go false b = refl

filtered : (r : Rule) (rs : List Rule) (b : Bool) → is_canonical r ≡ b → greedy (r ∷ rs) ≡ (if b then r ∷ greedy rs else greedy rs)
filtered r rs b e = ap (λ b. if b then r ∷ greedy rs else greedy rs) e

pub past : (r : Rule) (m : Module) (x : ℕ) → is_canonical r ≡ false → (rs : List Rule) → first_matching_rule (greedy (r ∷ rs)) m x ≡ first_matching_rule (greedy rs) m x
past r m x untried rs = ap (λ z. first_matching_rule z m x) (filtered r rs false untried)

pub left_out : (r : Rule) (m : Module) (x : ℕ) → is_canonical r ≡ true → None ≡ edits_of r m x → (rs : List Rule) → first_matching_rule (greedy (r ∷ rs)) m x ≡ first_matching_rule (greedy rs) m x
left_out r m x is e rs =
    ap (λ z. first_matching_rule z m x) (filtered r rs true is) ∙ first_matching_more r (greedy rs) m x
    ∙ ap (λ w. rule_or w r (first_matching_rule (greedy rs) m x)) (rewrite_is r m x ∙ ap (λ p. rewrite_by p m) (sym e))

pub taken : (r : Rule) (m : Module) (x : ℕ) (es : List Edit) → is_canonical r ≡ true → Some es ≡ edits_of r m x → (rs : List Rule) → first_matching_rule (greedy (r ∷ rs)) m x ≡ Some r
taken r m x es pattern_set e rs =
    let is : rewrite_of r m x ≡ carried_out es m = rewrite_is r m x ∙ ap (λ p. rewrite_by p m) (sym e) in
    ap (λ z. first_matching_rule z m x) (filtered r rs true pattern_set) ∙ first_matching_more r (greedy rs) m x
    ∙ ap (λ w. rule_or w r (first_matching_rule (greedy rs) m x)) is ∙ kept es m r (first_matching_rule (greedy rs) m x)

-- no rule applies at all
pub none_of : (rs : List Rule) (m : Module) (x : ℕ) → ((r : Rule) → None ≡ edits_of r m x) → first_matching_rule rs m x ≡ None
none_of [] m x h = first_matching_none m x
none_of (r ∷ rs) m x h = first_matching_more r rs m x ∙ ap (λ w. rule_or w r (first_matching_rule rs m x)) (rewrite_is r m x ∙ ap (λ p. rewrite_by p m) (sym (h r))) ∙ none_of rs m x h

pub none_highest_priority : (m : Module) (x : ℕ) → ((r : Rule) → None ≡ edits_of r m x) → first_matching_rule greedy_rules m x ≡ None
none_highest_priority m x h = none_of greedy_rules m x h

pub none_first : (m : Module) (x : ℕ) → first_matching_rule (greedy []) m x ≡ None
none_first m x = first_matching_none m x

-- the rewrite of the first rule that applies is the rewrite by the list
pub first_is : (rs : List Rule) (m : Module) (x : ℕ) → first_rule rs m x ≡ rewrite_if (first_matching_rule rs m x) m x
unfolding first_rule first_matching_rule
first_is [] m x = refl
first_is (r ∷ rs) m x = go (rewrite_of r m x) refl (first_is rs m x)
  where
    go : (w : Rewrite) → rewrite_of r m x ≡ w → first_rule rs m x ≡ rewrite_if (first_matching_rule rs m x) m x → or_else w (first_rule rs m x) ≡ rewrite_if (rule_or w r (first_matching_rule rs m x)) m x
    go none e others = others
    go (refused f) e others = sym e
    go (becomes n) e others = sym e

pub none_then : (rs : List Rule) (m : Module) (x : ℕ) → first_matching_rule rs m x ≡ None → first_rule rs m x ≡ none
none_then rs m x e = first_is rs m x ∙ ap (λ f. rewrite_if f m x) e

pub some_then : (rs : List Rule) (m : Module) (x : ℕ) (r : Rule) → first_matching_rule rs m x ≡ Some r → first_rule rs m x ≡ rewrite_of r m x
some_then rs m x r e = first_is rs m x ∙ ap (λ f. rewrite_if f m x) e
