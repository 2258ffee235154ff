-- The tree after a pattern is applied, if the root's outcome is known.
use Rattle.std.specs.Prelude.{◌≡◌, ◌+◌, ℕ, nat_le, List, [], ◌∷◌, length, Bool, true, ◌||◌, Some}
use Rattle.std.specs.List.{list_all}
use Rattle.ir_tree.specs.declared.value.Value.{Value}
use Rattle.ir_tree.specs.declared.value.Value.TheVariants.{Result}
use Rattle.ir_tree.specs.declared.place.Place.{Place}
use Rattle.ir_tree.specs.Edits.{with_value_replaced}
use Rattle.ir_tree.specs.Places.{put, without}
use Rattle.ir_tree.specs.Meaning.{Operation}
use Rattle.ir_tree_laws.specs.Reasons.{with_id}
use Rattle.ir_tree_laws.specs.Values.{has_value}
use Rattle.dialects_int.specs.Folds.{Known}
use Rattle.user_patterns_check.specs.Checks.{AlwaysKeeps}
use Rattle.user_patterns_data.specs.Fitting.{content_with}
use Rattle.user_patterns_data.specs.Matching.{Header}
use Rattle.user_patterns_data.specs.Planning.{planned}
use Rattle.user_patterns_data.specs.Shapes.{PatternModel}
use Rattle.patterns_refinement.specs.Meaning.{Assignment, Each}
use Rattle.patterns_refinement.specs.Applied.{Agree, Computes, IsFound, IsProper, is_typed, kinds_found}

-- a tree with operations inserted at a place in order, the first with id n
abbrev pub with_made : Place → ℕ → List Operation → Operation → Operation
with_made point n [] t = t
with_made point n (o ∷ os) t = with_made point (n + 1) os (put point (with_id n o) t)

-- a tree in which a value replaces the result of operation x, and x is erased
abbrev pub with_given : ℕ → Value → Operation → Operation
with_given x v t = without x (with_value_replaced (Result x 0) v t)

-- both changes, as an applied pattern makes them
abbrev pub rewritten : Place → ℕ → List Operation → ℕ → Value → Operation → Operation
rewritten point n made x v t = with_given x v (with_made point n made t)

-- the operands of a tree's operations are values of the tree
abbrev pub OperandsStand : Operation → Type 0
OperandsStand t = Each (λ h. list_all (λ v. has_value v t) h.operands ≡ true) t

-- the executed operations, and the new ones from id n on
abbrev pub or_new : ℕ → (ℕ → Bool) → ℕ → Bool
or_new n done y = done y || nat_le n y

-- outcomes that agree with the earlier ones, give v a known number, and fit a tree whose ids are below `end`
pub record ComputesAgain (a : Assignment) (n : ℕ) (v : Value) (k : Known) (done : ℕ → Bool) (end : ℕ) (t : Operation) : Type 0 where
  pub now : Assignment
  pub agrees : Agree n a now
  pub given_is : now v ≡ Some k
  pub computes : Computes now done end t

-- if a matched pattern refines and its root's outcome is known, the rewritten tree computes what the tree computed
-- (if the root is poison, the new value may be a number, and users of the root's result may be more defined than
-- before; this law is silent about that)
abbrev pub RewrittenComputes : Type 0
RewrittenComputes =
    (t : Operation) (verified : Header → Bool) (n : ℕ) (p : PatternModel) (x : ℕ) (a : Assignment) (done : ℕ → Bool) (point : Place) (k : Known)
    → IsProper p → Computes a done n t → OperandsStand t → (found : IsFound t verified n p x a done)
    → is_typed (kinds_found t verified n p x a done found) p ≡ true
    → AlwaysKeeps (content_with (kinds_found t verified n p x a done found) p)
    → a (Result x 0) ≡ Some k
    → (made : List Operation) (v : Value) → planned t verified n p x ≡ Some (made, v)
    → ComputesAgain a n v k (or_new n done) (n + length made) (rewritten point n made x v t)
