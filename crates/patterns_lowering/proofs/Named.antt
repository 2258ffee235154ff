-- The lowering rules, by their names.
use Rattle.std.proofs.Common.{◌≡◌, ap, sym, ℕ}
use Rattle.ir_event.specs.trees.declared.place.Place.{Place}
use Rattle.ir_event.specs.trees.Meaning.{Operation}
use Rattle.patterns_soundness.specs.base.Lowering.{lower_index, lower_loop, lower_choice}
use Rattle.patterns_soundness.specs.base.Rules.{rule}
use Rattle.patterns_soundness.specs.base.declared.rule.Rule.{Rule}
use Rattle.patterns_soundness.specs.base.declared.rule.Rule.TheVariants.{LowerIndex, LowerLoop, LowerChoice}

pub at_lower_index : (r : Rule) → r ≡ LowerIndex → (t : Operation) (n : ℕ) (insertion : Place) (o : Operation) → lower_index t n insertion o ≡ rule r t n insertion o
unfolding rule
at_lower_index r k t n insertion o = ap (λ r. rule r t n insertion o) (sym k)

pub at_lower_loop : (r : Rule) → r ≡ LowerLoop → (t : Operation) (n : ℕ) (insertion : Place) (o : Operation) → lower_loop t n insertion o ≡ rule r t n insertion o
unfolding rule
at_lower_loop r k t n insertion o = ap (λ r. rule r t n insertion o) (sym k)

pub at_lower_choice : (r : Rule) → r ≡ LowerChoice → (t : Operation) (n : ℕ) (insertion : Place) (o : Operation) → lower_choice t n insertion o ≡ rule r t n insertion o
unfolding rule
at_lower_choice r k t n insertion o = ap (λ r. rule r t n insertion o) (sym k)
