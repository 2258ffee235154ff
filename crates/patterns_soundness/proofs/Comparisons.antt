-- Rules on comparisons.
use Rattle.std.proofs.Common.{◌≡◌, refl, ap, ℕ, eqb, ◌&&◌, ◌||◌}
use Rattle.ir_event.specs.trees.declared.place.Place.{Place}
use Rattle.ir_event.specs.trees.Tree.{head}
use Rattle.ir_event.specs.trees.Meaning.{Operation}
use Rattle.patterns_soundness.specs.base.Looks.{Header, two, predicate}
use Rattle.patterns_soundness.specs.base.Folding.{compare_itself, mirror_comparison, compare_zero}
use Rattle.patterns_soundness.specs.base.Rules.{rule}
use Rattle.ir_event.specs.trees.Uses.{same_value}
use Rattle.patterns_laws.proofs.Chosen.{itself_compared, comparison_mirrored, nothing_below, all_at_least}
use Rattle.patterns_soundness.specs.base.declared.rule.Rule.TheVariants.{CompareItself, MirrorComparison, CompareZero}
use Rattle.patterns_soundness.proofs.of_base.Dispatch.{only_listed}
use Rattle.patterns_soundness.specs.Alike.{Same, DominatedByAlike}
use Rattle.patterns_soundness.specs.Soundness.{Soundness}
use Rattle.patterns_soundness.proofs.Near.{still, tested, of_some, Fine}
use Rattle.patterns_soundness.proofs.Looking.{when_alike, number_alike, on_comparison_alike, swap_alike}
use Rattle.patterns_soundness.proofs.Accepting.{are_accepted_at}

module _ (t : Operation) (n : ℕ) (place : Place) (o : Operation) where
  abbrev h : Header
  h = head o

  abbrev x : ℕ
  x = h.id

  near_compare_itself : Fine place o (compare_itself t n place o)
  near_compare_itself = of_some place o (two h) _ (λ p. tested place o _ _ (of_some place o (predicate h) _ (λ asks. tested place o _ _ (still place o _ (refl, refl, refl)))))

  near_mirror_comparison : Fine place o (mirror_comparison t n place o)
  near_mirror_comparison = of_some place o (two h) _ (λ p. tested place o _ _ (of_some place o (predicate h) _ (λ asks. tested place o _ _ (still place o _ tt))))

  near_compare_zero : Fine place o (compare_zero t n place o)
  near_compare_zero = of_some place o (two h) _ (λ p. tested place o _ _ (of_some place o (predicate h) _ (λ asks. tested place o _ _ (still place o _ (refl, refl, refl)))))

module _ (t u : Operation) (n k : ℕ) (f g : Place) (o p : Operation) (same : head o ≡ head p) (dominated_by : DominatedByAlike t u (head o)) where
  same_compare_itself : Same (compare_itself t n f o) (compare_itself u k g p)
  same_compare_itself = on_comparison_alike t u o p same dominated_by _ _ (λ q asks s r. when_alike (same_value q.first q.second) _ _ _ refl refl)

  same_mirror_comparison : Same (mirror_comparison t n f o) (mirror_comparison u k g p)
  same_mirror_comparison = on_comparison_alike t u o p same dominated_by _ _ (λ q asks s r. when_alike _ _ _ _ (swap_alike t u n k f g o p q s r) refl)

  same_compare_zero : Same (compare_zero t n f o) (compare_zero u k g p)
  same_compare_zero = on_comparison_alike t u o p same dominated_by _ _ (λ q asks s r. when_alike _ _ _ _ (ap (λ b. b && (eqb asks 6 || eqb asks 9)) (number_alike t u 0 q.second r)) refl)

pub compare_itself_facts : Soundness CompareItself
unfolding rule
compare_itself_facts = record {
  keeps = itself_compared;
  listed = only_listed CompareItself;
  near = λ lowers t n place o. (near_compare_itself t n place o).each;
  alike = λ lowers t u n k f g o p looks. same_compare_itself t u n k f g o p looks.heads looks.dominated_by;
  accepted = are_accepted_at CompareItself;
  makes = λ converts. absurd cc;
}

pub mirror_comparison_facts : Soundness MirrorComparison
unfolding rule
mirror_comparison_facts = record {
  keeps = comparison_mirrored;
  listed = only_listed MirrorComparison;
  near = λ lowers t n place o. (near_mirror_comparison t n place o).each;
  alike = λ lowers t u n k f g o p looks. same_mirror_comparison t u n k f g o p looks.heads looks.dominated_by;
  accepted = are_accepted_at MirrorComparison;
  makes = λ converts. absurd cc;
}

pub compare_zero_facts : Soundness CompareZero
unfolding rule
compare_zero_facts = record {
  keeps = (nothing_below, all_at_least);
  listed = only_listed CompareZero;
  near = λ lowers t n place o. (near_compare_zero t n place o).each;
  alike = λ lowers t u n k f g o p looks. same_compare_zero t u n k f g o p looks.heads looks.dominated_by;
  accepted = are_accepted_at CompareZero;
  makes = λ converts. absurd cc;
}
