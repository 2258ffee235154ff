-- Rules that expand an operation into others.
use Rattle.std.proofs.Common.{◌≡◌, refl, ℕ}
use Rattle.std.specs.Prelude.{codes}
use Rattle.ir_event.specs.trees.declared.place.Place.{Place}
use Rattle.ir_event.specs.trees.Tree.{head}
use Rattle.ir_event.specs.trees.Meaning.{Operation}
use Rattle.patterns_soundness.specs.base.Words.{named}
use Rattle.patterns_soundness.specs.base.Looks.{Header, two}
use Rattle.patterns_soundness.specs.base.Rules.{rule}
use Rattle.patterns_laws.proofs.Composed.{complement_added, all_divided}
use Rattle.patterns_laws.proofs.Lowered.{all_chosen}
use Rattle.patterns_soundness.specs.base.Folding.{expand_min_max, expand_difference, expand_remainder}
use Rattle.patterns_soundness.specs.base.declared.rule.Rule.TheVariants.{ExpandMinMax, ExpandDifference, ExpandRemainder}
use Rattle.patterns_soundness.proofs.of_base.Dispatch.{only_listed}
use Rattle.patterns_soundness.proofs.of_base.Making.{converting_rules_make}
use Rattle.op_registry.specs.Registry.{next_to}
use Rattle.patterns_soundness.specs.base.Words.{predicate_of_min_max, division_of_remainder}
use Rattle.patterns_soundness.specs.Alike.{Same, DominatedByAlike}
use Rattle.patterns_soundness.specs.Soundness.{Soundness}
use Rattle.patterns_soundness.proofs.Near.{still, tested, of_some, Fine}
use Rattle.patterns_soundness.proofs.Looking.{given_alike, when_alike, on_two_alike}
use Rattle.patterns_soundness.proofs.Accepting.{are_accepted_at}

module _ (t : Operation) (n : ℕ) (place : Place) (o : Operation) where
  abbrev h : Header
  h = head o

  abbrev x : ℕ
  x = h.id

  near_expand_min_max : Fine place o (expand_min_max t n place o)
  near_expand_min_max = of_some place o (two h) _ (λ p. of_some place o (next_to p.name predicate_of_min_max) _ (λ asks. still place o _ (refl, refl, (refl, refl, refl))))

  near_expand_difference : Fine place o (expand_difference t n place o)
  near_expand_difference = of_some place o (two h) _ (λ p. tested place o _ _ (still place o _ (refl, refl, (refl, refl, (refl, refl, (refl, refl, (refl, refl, refl)))))))

  near_expand_remainder : Fine place o (expand_remainder t n place o)
  near_expand_remainder = of_some place o (two h) _ (λ p. of_some place o (next_to p.name division_of_remainder) _ (λ division. still place o _ (refl, refl, (refl, refl, (refl, refl, refl)))))

module _ (t u : Operation) (n k : ℕ) (f g : Place) (o p : Operation) (same : head o ≡ head p) (dominated_by : DominatedByAlike t u (head o)) where
  same_expand_min_max : Same (expand_min_max t n f o) (expand_min_max u k g p)
  same_expand_min_max = on_two_alike t u o p same dominated_by _ _ (λ q s r e. given_alike (next_to q.name predicate_of_min_max) _ _ _ refl (λ asks i. refl))

  same_expand_difference : Same (expand_difference t n f o) (expand_difference u k g p)
  same_expand_difference = on_two_alike t u o p same dominated_by _ _ (λ q s r e. when_alike (named (codes "arith.subi") q.name) _ _ _ refl refl)

  same_expand_remainder : Same (expand_remainder t n f o) (expand_remainder u k g p)
  same_expand_remainder = on_two_alike t u o p same dominated_by _ _ (λ q s r e. given_alike (next_to q.name division_of_remainder) _ _ _ refl (λ division i. refl))

pub expand_min_max_facts : Soundness ExpandMinMax
unfolding rule
expand_min_max_facts = record {
  keeps = all_chosen;
  listed = only_listed ExpandMinMax;
  near = λ lowers t n place o. (near_expand_min_max t n place o).each;
  alike = λ lowers t u n k f g o p looks. same_expand_min_max t u n k f g o p looks.heads looks.dominated_by;
  accepted = are_accepted_at ExpandMinMax;
  makes = λ converts t n insertion o es. converting_rules_make ExpandMinMax t n insertion o es converts;
}

pub expand_difference_facts : Soundness ExpandDifference
unfolding rule
expand_difference_facts = record {
  keeps = complement_added;
  listed = only_listed ExpandDifference;
  near = λ lowers t n place o. (near_expand_difference t n place o).each;
  alike = λ lowers t u n k f g o p looks. same_expand_difference t u n k f g o p looks.heads looks.dominated_by;
  accepted = are_accepted_at ExpandDifference;
  makes = λ converts t n insertion o es. converting_rules_make ExpandDifference t n insertion o es converts;
}

pub expand_remainder_facts : Soundness ExpandRemainder
unfolding rule
expand_remainder_facts = record {
  keeps = all_divided;
  listed = only_listed ExpandRemainder;
  near = λ lowers t n place o. (near_expand_remainder t n place o).each;
  alike = λ lowers t u n k f g o p looks. same_expand_remainder t u n k f g o p looks.heads looks.dominated_by;
  accepted = are_accepted_at ExpandRemainder;
  makes = λ converts t n insertion o es. converting_rules_make ExpandRemainder t n insertion o es converts;
}
