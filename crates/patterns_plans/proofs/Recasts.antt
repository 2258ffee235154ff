-- Casts of casts.
use Rattle.std.proofs.Common.{◌≡◌, refl, ap, sym, ◌∙◌, ℕ, Bool, true, false, Option, Some, None, if◌then◌else◌}
use Rattle.std.specs.Prelude.{codes}
use Rattle.ir_event.specs.trees.declared.place.Place.{Place}
use Rattle.ir_event.specs.trees.Tree.{head}
use Rattle.ir_event.specs.trees.Meaning.{Operation}
use Rattle.patterns_matchers.specs.Casting.{cast_back, unrealized, through_index}
use Rattle.patterns_matchers.specs.Keeps.{given}
use Rattle.patterns_matchers.specs.Looks.{Header, One, is_of_type, one, source, when}
use Rattle.patterns_matchers.specs.Words.{among, named, index_casts}
use Rattle.patterns_plans.specs.declared.reason.Reason.TheVariants.{NoDefiningOp}
use Rattle.patterns_plans.specs.Conditions.{first_failed_test}
use Rattle.patterns_plans.specs.RuleTests.{index_tests, unrealized_tests}

module _ (t : Operation) (n : ℕ) (insertion : Place) (o : Operation) (p : One) where
  pub by_unrealized : (b : Bool) → Some p ≡ one (head o) → b ≡ named (codes "builtin.unrealized_conversion_cast") p.name → b ≡ true → unrealized t n insertion o p ≡ cast_back t n insertion o
  by_unrealized b e d g =
      sym (ap (λ c. if c then unrealized t n insertion o p else when (among index_casts p.name) (through_index t n insertion o p)) (sym d ∙ g))
      ∙ ap (λ q. given q (λ p. if named (codes "builtin.unrealized_conversion_cast") p.name then unrealized t n insertion o p else when (among index_casts p.name) (through_index t n insertion o p))) e

  pub by_index : (b k : Bool) → Some p ≡ one (head o) → b ≡ named (codes "builtin.unrealized_conversion_cast") p.name → b ≡ false → k ≡ among index_casts p.name → k ≡ true → through_index t n insertion o p ≡ cast_back t n insertion o
  by_index b k e d g i j =
      sym (ap (λ c. when c (through_index t n insertion o p)) (sym i ∙ j))
      ∙ sym (ap (λ c. if c then unrealized t n insertion o p else when (among index_casts p.name) (through_index t n insertion o p)) (sym d ∙ g))
      ∙ ap (λ q. given q (λ p. if named (codes "builtin.unrealized_conversion_cast") p.name then unrealized t n insertion o p else when (among index_casts p.name) (through_index t n insertion o p))) e

-- ---- casts whose operand isn't a cast's result
module _ (t : Operation) (p : One) (s : Option Header) (h : Header) (e : s ≡ source t p.name p.first) (is : s ≡ Some h) (none : None ≡ one h) where
  none_inside : given (source t p.name p.first) one ≡ None
  none_inside = ap (λ q. given q one) (sym e ∙ is) ∙ sym none

  pub no_index_cast : Some NoDefiningOp ≡ first_failed_test (index_tests t p)
  no_index_cast = rw none_inside refl

  pub no_unrealized_cast : (b : Bool) → b ≡ is_of_type t p.ty p.first → b ≡ false → Some NoDefiningOp ≡ first_failed_test (unrealized_tests t p)
  no_unrealized_cast b i f = rw (none_inside, sym i ∙ f) refl
