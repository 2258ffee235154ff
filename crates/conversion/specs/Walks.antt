-- A walk over the casts of a module, in the order of a list.
use Rattle.std.specs.Prelude.{◌≡◌, ◌⊎◌, ◌<◌, ℕ, List, Bool, true, not, ◌&&◌, eqb, Option, Some, None, slice_get}
use Rattle.ir_event.specs.trees.Tree.{no_regions, head, regions}
use Rattle.ir_event.specs.trees.Ids.{find}
use Rattle.ir_event.specs.trees.Meaning.{Operation}
use Rattle.ir_event.specs.tree_laws.Members.{In}
use Rattle.ir_event.specs.Modules.{Module}
use Rattle.patterns_base.specs.declared.rule.Rule.TheVariants.{CastBack}
use Rattle.patterns_base.specs.Rewrites.{Rewrite, none, edits_of}
use Rattle.conversion_base.specs.Reconciling.{collapse, is_cast}
use Rattle.conversion.specs.DefiningOps.{defining_ops_of}
use Rattle.conversion.specs.Waiting.{Took}

-- whether operation x is a cast, and not the root
abbrev pub is_inner : ℕ → Module → Bool
is_inner x m = is_cast x m.tree && not (eqb (head m.tree).id x)

-- if x is a cast, casting back doesn't apply at x
abbrev pub NoRule : ℕ → Module → Type 0
NoRule x m = is_inner x m ≡ true → edits_of CastBack m x ≡ None

-- no operation is inside operation x, and the list has the defining operations of its operands
abbrev pub Gives : List ℕ → ℕ → Operation → Type 0
Gives gs x t = (o : Operation) → find x t ≡ Some o → (regions o ≡ no_regions) × (gs ≡ defining_ops_of (head o).operands)

-- a number of indices of a list were passed, and some of them are to be visited again: no passed cast collapses, and
-- each unused passed cast is to be visited again
pub record Walked (xs : List ℕ) (passed : ℕ) (again : List ℕ) (m : Module) : Type 0 where
  pub within : (q : ℕ) → In q again → q < passed
  pub stuck : (q x : ℕ) → q < passed → slice_get xs q ≡ Some x → NoRule x m
  pub settled : (q x : ℕ) → q < passed → slice_get xs q ≡ Some x → In q again ⊎ (collapse m x ≡ none)

-- a walk from which index p was taken
abbrev pub Taken : List ℕ → ℕ → List ℕ → ℕ → Module → Type 0
Taken xs passed2 again2 p m =
    (passed : ℕ) × (again : List ℕ) × Walked xs passed again m × Took passed again passed2 again2 p

-- the rewrite that erases the cast at an index
abbrev pub collapse_at : Module → Option ℕ → Rewrite
collapse_at m None = none
collapse_at m (Some x) = collapse m x
