-- Rules on choices between two values.
use Rattle.std.proofs.Common.{◌≡◌, refl, ℕ, [], ◌∷◌, ◌&&◌}
use Rattle.std.specs.Prelude.{codes}
use Rattle.ir_event.specs.trees.declared.place.Place.{Place}
use Rattle.ir_event.specs.trees.Tree.{head}
use Rattle.ir_event.specs.trees.Meaning.{Operation}
use Rattle.rewriter_machine.specs.Edits.{SetOperand}
use Rattle.patterns_soundness.specs.base.Words.{named}
use Rattle.patterns_soundness.specs.base.Looks.{Header, is_number, source, known, two, three}
use Rattle.patterns_soundness.specs.base.Folding.{choose_same, choose_known, choose_truth, choose_opposite}
use Rattle.patterns_soundness.specs.base.Rules.{rule}
use Rattle.ir_event.specs.types.SameTypes.{same_type}
use Rattle.ir_event.specs.trees.Uses.{same_value}
use Rattle.patterns_laws.specs.Made.{i1}
use Rattle.patterns_laws.proofs.Chosen.{one_chosen, chosen_by_constant, truth_chosen, chosen_by_opposite}
use Rattle.patterns_soundness.specs.base.declared.rule.Rule.TheVariants.{ChooseSame, ChooseKnown, ChooseTruth, ChooseOpposite}
use Rattle.patterns_soundness.proofs.of_base.Dispatch.{only_listed}
use Rattle.patterns_soundness.specs.Alike.{Same, DominatedByAlike}
use Rattle.patterns_soundness.specs.Soundness.{Soundness}
use Rattle.patterns_soundness.proofs.Near.{still, tested, of_some, Fine}
use Rattle.patterns_soundness.proofs.Looking.{given_alike, when_alike, source_alike, known_alike, number_alike, inner_two, on_choice_alike}
use Rattle.patterns_soundness.proofs.Accepting.{are_accepted_at}

module _ (t : Operation) (n : ℕ) (place : Place) (o : Operation) where
  abbrev h : Header
  h = head o

  abbrev x : ℕ
  x = h.id

  near_choose_same : Fine place o (choose_same t n place o)
  near_choose_same = of_some place o (three h) _ (λ p. tested place o _ _ (tested place o _ _ (still place o _ refl)))

  near_choose_known : Fine place o (choose_known t n place o)
  near_choose_known = of_some place o (three h) _ (λ p. tested place o _ _ (of_some place o (known t p.first) _ (λ c. still place o _ refl)))

  near_choose_truth : Fine place o (choose_truth t n place o)
  near_choose_truth = of_some place o (three h) _ (λ p. tested place o _ _ (tested place o _ _ (still place o _ refl)))

  near_choose_opposite : Fine place o (choose_opposite t n place o)
  near_choose_opposite = of_some place o (three h) _ (λ p. tested place o (named (codes "arith.select") p.name) _ (of_some place o (source t (codes "arith.xori") p.first) _ (λ y. of_some place o (two y) _ (λ q. tested place o (is_number t 1 q.second) _ (still place o (SetOperand x 0 q.first ∷ SetOperand x 1 p.third ∷ SetOperand x 2 p.second ∷ []) tt)))))

module _ (t u : Operation) (n k : ℕ) (f g : Place) (o p : Operation) (same : head o ≡ head p) (dominated_by : DominatedByAlike t u (head o)) where
  same_choose_same : Same (choose_same t n f o) (choose_same u k g p)
  same_choose_same = on_choice_alike t u o p same dominated_by _ _ (λ q s r w. when_alike (same_value q.second q.third) _ _ _ refl refl)

  same_choose_known : Same (choose_known t n f o) (choose_known u k g p)
  same_choose_known = on_choice_alike t u o p same dominated_by _ _ (λ q s r w. given_alike (known t q.first) (known u q.first) _ _ (known_alike t u q.first (dominated_by.operands q.first s)) (λ c i. refl))

  same_choose_truth : Same (choose_truth t n f o) (choose_truth u k g p)
  same_choose_truth = on_choice_alike t u o p same dominated_by _ _ (λ q s r w. when_alike _ _ _ _ (λ i. same_type q.ty i1 && (number_alike t u 1 q.second (dominated_by.operands q.second r) i && number_alike t u 0 q.third (dominated_by.operands q.third w) i)) refl)

  same_choose_opposite : Same (choose_opposite t n f o) (choose_opposite u k g p)
  same_choose_opposite = on_choice_alike t u o p same dominated_by _ _ (λ q s r w. given_alike (source t (codes "arith.xori") q.first) (source u (codes "arith.xori") q.first) _ _ (source_alike t u (codes "arith.xori") q.first (dominated_by.operands q.first s)) (λ y i.
      given_alike (two y) (two y) _ _ refl (λ z j. when_alike _ _ _ _ (number_alike t u 1 z.second (inner_two t u o p same dominated_by q.first s (codes "arith.xori") y i z j)) refl)))

pub choose_same_facts : Soundness ChooseSame
unfolding rule
choose_same_facts = record {
  keeps = one_chosen;
  listed = only_listed ChooseSame;
  near = λ lowers t n place o. (near_choose_same t n place o).each;
  alike = λ lowers t u n k f g o p looks. same_choose_same t u n k f g o p looks.heads looks.dominated_by;
  accepted = are_accepted_at ChooseSame;
  makes = λ converts. absurd cc;
}

pub choose_known_facts : Soundness ChooseKnown
unfolding rule
choose_known_facts = record {
  keeps = chosen_by_constant;
  listed = only_listed ChooseKnown;
  near = λ lowers t n place o. (near_choose_known t n place o).each;
  alike = λ lowers t u n k f g o p looks. same_choose_known t u n k f g o p looks.heads looks.dominated_by;
  accepted = are_accepted_at ChooseKnown;
  makes = λ converts. absurd cc;
}

pub choose_truth_facts : Soundness ChooseTruth
unfolding rule
choose_truth_facts = record {
  keeps = truth_chosen;
  listed = only_listed ChooseTruth;
  near = λ lowers t n place o. (near_choose_truth t n place o).each;
  alike = λ lowers t u n k f g o p looks. same_choose_truth t u n k f g o p looks.heads looks.dominated_by;
  accepted = are_accepted_at ChooseTruth;
  makes = λ converts. absurd cc;
}

pub choose_opposite_facts : Soundness ChooseOpposite
unfolding rule
choose_opposite_facts = record {
  keeps = chosen_by_opposite;
  listed = only_listed ChooseOpposite;
  near = λ lowers t n place o. (near_choose_opposite t n place o).each;
  alike = λ lowers t u n k f g o p looks. same_choose_opposite t u n k f g o p looks.heads looks.dominated_by;
  accepted = are_accepted_at ChooseOpposite;
  makes = λ converts. absurd cc;
}
