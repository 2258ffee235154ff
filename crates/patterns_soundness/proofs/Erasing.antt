-- The rule that erases dead operations.
use Rattle.std.proofs.Common.{refl, ℕ}
use Rattle.ir_event.specs.trees.declared.place.Place.{Place}
use Rattle.ir_event.specs.trees.Tree.{head}
use Rattle.ir_event.specs.trees.Meaning.{Operation}
use Rattle.patterns_soundness.specs.base.Looks.{Header}
use Rattle.patterns_soundness.specs.base.Folding.{erase_dead}
use Rattle.patterns_soundness.specs.base.Rules.{rule}
use Rattle.patterns_soundness.specs.base.declared.rule.Rule.TheVariants.{EraseDead}
use Rattle.patterns_soundness.proofs.of_base.Dispatch.{only_listed}
use Rattle.patterns_soundness.specs.Soundness.{Soundness}
use Rattle.patterns_soundness.proofs.Near.{still, tested, Fine}
use Rattle.patterns_soundness.proofs.Looking.{when_alike}
use Rattle.patterns_soundness.proofs.Accepting.{are_accepted_at}

module _ (t : Operation) (n : ℕ) (place : Place) (o : Operation) where
  abbrev h : Header
  h = head o

  abbrev x : ℕ
  x = h.id

  near_erase_dead : Fine place o (erase_dead t n place o)
  near_erase_dead = tested place o _ _ (still place o _ refl)

pub erase_dead_facts : Soundness EraseDead
unfolding rule
erase_dead_facts = record {
  keeps = tt;
  listed = only_listed EraseDead;
  near = λ lowers t n place o. (near_erase_dead t n place o).each;
  alike = λ lowers t u n k f g o p looks. when_alike _ _ _ _ looks.goes refl;
  accepted = are_accepted_at EraseDead;
  makes = λ converts. absurd cc;
}
