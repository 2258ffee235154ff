-- Types of values, and names of casts between integers.
use Rattle.std.proofs.Common.{◌≡◌, refl, ap, sym, ◌∙◌, ℕ, List, Bool, true, false, ◌||◌, Option, Some}
use Rattle.std.specs.Prelude.{codes, option_map}
use Rattle.std.specs.Option.{option_eq}
use Rattle.ir_event.specs.types.Things.{ContextModel}
use Rattle.ir_event.specs.types.Terms.{TypeTerm, name_term, type_term, attr_term}
use Rattle.ir_event.specs.types.SameTypes.{same_type}
use Rattle.ir_event.specs.trees.declared.value.Value.{Value}
use Rattle.ir_event.specs.trees.Tree.{Op}
use Rattle.ir_event.specs.trees.Meaning.{meaning}
use Rattle.ir_event.specs.tree_laws.Values.{type_of_value}
use Rattle.ir_event.proofs.of_tree_laws.Contents.{map_type_of_value}
use Rattle.patterns_base.specs.Casting.{resizing}
use Rattle.patterns_base.specs.Looks.{is_of_type}
use Rattle.patterns_base.specs.Words.{named, among, extensions}

-- the type of a value
pub typed : (c : ContextModel) (t : Op) (v : Value) (ty : TypeTerm) (b : Bool) (o : Option ℕ) → o ≡ type_of_value v t → b ≡ option_eq same_type (option_map (type_term c) o) (Some ty) → b ≡ is_of_type (meaning c t) ty v
typed c t v ty b o e f = f ∙ ap (λ p. option_eq same_type (option_map (type_term c) p) (Some ty)) e ∙ ap (λ p. option_eq same_type p (Some ty)) (sym (map_type_of_value (name_term c) (type_term c) (attr_term c) v t))

-- one of two
pub or_true : (r a b : Bool) → r ≡ a → r ≡ true → r ≡ (a || b)
or_true true a b e h = ap (λ z. z || b) e
or_true false a b e h = absurd cc

pub or_false : (r s a b : Bool) → r ≡ a → r ≡ false → s ≡ b → s ≡ (a || b)
or_false true s a b e h k = absurd cc
or_false false s a b e h k = k ∙ ap (λ z. z || b) e

pub resizing_is : (name : List ℕ) → among resizing name ≡ (named (codes "arith.trunci") name || among extensions name)
unfolding resizing
resizing_is name = refl
