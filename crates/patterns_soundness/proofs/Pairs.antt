-- Rules on two operands whose result follows from one operand, or from both being the same; and the rule that moves a
-- constant to the second operand.
use Rattle.std.proofs.Common.{◌≡◌, refl, ap, ℕ, List, Option, ◌&&◌}
use Rattle.std.specs.Prelude.{codes}
use Rattle.ir_event.specs.trees.declared.place.Place.{Place}
use Rattle.ir_event.specs.trees.Tree.{head}
use Rattle.ir_event.specs.trees.Meaning.{Operation}
use Rattle.rewriter_machine.specs.Contents.{Edit}
use Rattle.patterns_soundness.specs.base.Keeps.{given}
use Rattle.patterns_soundness.specs.base.Words.{named, among}
use Rattle.patterns_soundness.specs.base.Looks.{Header, Two, two, passes}
use Rattle.patterns_soundness.specs.base.Folding.{swap_constant, drop_zero, drop_one, drop_all_ones, cancel_itself, keep_itself}
use Rattle.patterns_soundness.specs.base.Folding.{zero_remainder, is_all_ones}
use Rattle.patterns_soundness.specs.base.Rules.{rule}
use Rattle.ir_event.specs.trees.Uses.{same_value}
use Rattle.patterns_laws.specs.Words.{commutative, with_zero_as_right_identity, with_one_as_right_identity, self_inverse, idempotent, remainders}
use Rattle.patterns_laws.proofs.PairRules.{all_swapped, all_zero_kept, all_one_kept, ones_kept, all_cancelled, all_itself_given, all_left_nothing}
use Rattle.patterns_soundness.specs.base.declared.rule.Rule.TheVariants.{SwapConstant, DropZero, DropOne, DropAllOnes}
use Rattle.patterns_soundness.specs.base.declared.rule.Rule.TheVariants.{CancelItself, KeepItself, ZeroRemainder}
use Rattle.patterns_soundness.proofs.of_base.Dispatch.{only_listed}
use Rattle.patterns_soundness.specs.Alike.{Same, DominatedByAlike}
use Rattle.patterns_soundness.specs.Soundness.{Soundness}
use Rattle.patterns_soundness.proofs.Near.{still, tested, of_some, Fine}
use Rattle.patterns_soundness.proofs.Looking.{when_alike, known_alike, number_alike, on_two_alike, swap_alike}
use Rattle.patterns_soundness.proofs.Accepting.{are_accepted_at}

module _ (t : Operation) (n : ℕ) (place : Place) (o : Operation) where
  abbrev h : Header
  h = head o

  abbrev x : ℕ
  x = h.id

  on_two : (f : Two → Option (List Edit)) → ((p : Two) → Fine place o (f p)) → Fine place o (given (two h) f)
  on_two f g = of_some place o (two h) f g

  near_swap_constant : Fine place o (swap_constant t n place o)
  near_swap_constant = of_some place o (two h) _ (λ p. tested place o _ _ (still place o _ tt))

  near_drop_zero : Fine place o (drop_zero t n place o)
  near_drop_zero = of_some place o (two h) _ (λ p. tested place o _ _ (still place o _ refl))

  near_drop_one : Fine place o (drop_one t n place o)
  near_drop_one = of_some place o (two h) _ (λ p. tested place o _ _ (still place o _ refl))

  near_drop_all_ones : Fine place o (drop_all_ones t n place o)
  near_drop_all_ones = of_some place o (two h) _ (λ p. tested place o _ _ (still place o _ refl))

  near_cancel_itself : Fine place o (cancel_itself t n place o)
  near_cancel_itself = of_some place o (two h) _ (λ p. tested place o _ _ (still place o _ (refl, refl, refl)))

  near_keep_itself : Fine place o (keep_itself t n place o)
  near_keep_itself = of_some place o (two h) _ (λ p. tested place o _ _ (still place o _ refl))

  near_zero_remainder : Fine place o (zero_remainder t n place o)
  near_zero_remainder = of_some place o (two h) _ (λ p. tested place o _ _ (still place o _ (refl, refl, refl)))

module _ (t u : Operation) (n k : ℕ) (f g : Place) (o p : Operation) (same : head o ≡ head p) (dominated_by : DominatedByAlike t u (head o)) where
  same_swap_constant : Same (swap_constant t n f o) (swap_constant u k g p)
  same_swap_constant = on_two_alike t u o p same dominated_by _ _ (λ q s r e. when_alike _ _ _ _ (ap (λ b. among commutative q.name && b) (swap_alike t u n k f g o p q s r)) refl)

  same_drop_zero : Same (drop_zero t n f o) (drop_zero u k g p)
  same_drop_zero = on_two_alike t u o p same dominated_by _ _ (λ q s r e. when_alike _ _ _ _ (ap (λ b. among with_zero_as_right_identity q.name && b) (number_alike t u 0 q.second r)) refl)

  same_drop_one : Same (drop_one t n f o) (drop_one u k g p)
  same_drop_one = on_two_alike t u o p same dominated_by _ _ (λ q s r e. when_alike _ _ _ _ (ap (λ b. among with_one_as_right_identity q.name && b) (number_alike t u 1 q.second r)) refl)

  same_drop_all_ones : Same (drop_all_ones t n f o) (drop_all_ones u k g p)
  same_drop_all_ones = on_two_alike t u o p same dominated_by _ _ (λ q s r e. when_alike _ _ _ _ (ap (λ c. named (codes "arith.andi") q.name && passes (is_all_ones q.ty) c) (known_alike t u q.second r)) refl)

  same_cancel_itself : Same (cancel_itself t n f o) (cancel_itself u k g p)
  same_cancel_itself = on_two_alike t u o p same dominated_by _ _ (λ q s r e. when_alike (among self_inverse q.name && same_value q.first q.second) _ _ _ refl refl)

  same_keep_itself : Same (keep_itself t n f o) (keep_itself u k g p)
  same_keep_itself = on_two_alike t u o p same dominated_by _ _ (λ q s r e. when_alike (among idempotent q.name && same_value q.first q.second) _ _ _ refl refl)

  same_zero_remainder : Same (zero_remainder t n f o) (zero_remainder u k g p)
  same_zero_remainder = on_two_alike t u o p same dominated_by _ _ (λ q s r e. when_alike _ _ _ _ (ap (λ b. among remainders q.name && b) (number_alike t u 1 q.second r)) refl)

pub swap_constant_facts : Soundness SwapConstant
unfolding rule
swap_constant_facts = record {
  keeps = all_swapped;
  listed = only_listed SwapConstant;
  near = λ lowers t n place o. (near_swap_constant t n place o).each;
  alike = λ lowers t u n k f g o p looks. same_swap_constant t u n k f g o p looks.heads looks.dominated_by;
  accepted = are_accepted_at SwapConstant;
  makes = λ converts. absurd cc;
}

pub drop_zero_facts : Soundness DropZero
unfolding rule
drop_zero_facts = record {
  keeps = all_zero_kept;
  listed = only_listed DropZero;
  near = λ lowers t n place o. (near_drop_zero t n place o).each;
  alike = λ lowers t u n k f g o p looks. same_drop_zero t u n k f g o p looks.heads looks.dominated_by;
  accepted = are_accepted_at DropZero;
  makes = λ converts. absurd cc;
}

pub drop_one_facts : Soundness DropOne
unfolding rule
drop_one_facts = record {
  keeps = all_one_kept;
  listed = only_listed DropOne;
  near = λ lowers t n place o. (near_drop_one t n place o).each;
  alike = λ lowers t u n k f g o p looks. same_drop_one t u n k f g o p looks.heads looks.dominated_by;
  accepted = are_accepted_at DropOne;
  makes = λ converts. absurd cc;
}

pub drop_all_ones_facts : Soundness DropAllOnes
unfolding rule
drop_all_ones_facts = record {
  keeps = ones_kept;
  listed = only_listed DropAllOnes;
  near = λ lowers t n place o. (near_drop_all_ones t n place o).each;
  alike = λ lowers t u n k f g o p looks. same_drop_all_ones t u n k f g o p looks.heads looks.dominated_by;
  accepted = are_accepted_at DropAllOnes;
  makes = λ converts. absurd cc;
}

pub cancel_itself_facts : Soundness CancelItself
unfolding rule
cancel_itself_facts = record {
  keeps = all_cancelled;
  listed = only_listed CancelItself;
  near = λ lowers t n place o. (near_cancel_itself t n place o).each;
  alike = λ lowers t u n k f g o p looks. same_cancel_itself t u n k f g o p looks.heads looks.dominated_by;
  accepted = are_accepted_at CancelItself;
  makes = λ converts. absurd cc;
}

pub keep_itself_facts : Soundness KeepItself
unfolding rule
keep_itself_facts = record {
  keeps = all_itself_given;
  listed = only_listed KeepItself;
  near = λ lowers t n place o. (near_keep_itself t n place o).each;
  alike = λ lowers t u n k f g o p looks. same_keep_itself t u n k f g o p looks.heads looks.dominated_by;
  accepted = are_accepted_at KeepItself;
  makes = λ converts. absurd cc;
}

pub zero_remainder_facts : Soundness ZeroRemainder
unfolding rule
zero_remainder_facts = record {
  keeps = all_left_nothing;
  listed = only_listed ZeroRemainder;
  near = λ lowers t n place o. (near_zero_remainder t n place o).each;
  alike = λ lowers t u n k f g o p looks. same_zero_remainder t u n k f g o p looks.heads looks.dominated_by;
  accepted = are_accepted_at ZeroRemainder;
  makes = λ converts. absurd cc;
}
