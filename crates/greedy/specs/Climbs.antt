-- The parents of an operation, as far as each has recursive memory effects (those of the operations directly inside).
use Rattle.std.specs.Prelude.{◌≡◌, ℕ, zero, suc, Bool, true, false, ◌&&◌, ◌||◌, eqb, Option, Some, None}
use Rattle.ir_event.specs.trees.Tree.{OpOf, op, RegionsOf, no_regions, region}
use Rattle.ir_event.specs.trees.Tree.{RegionOf, empty, block, OpsOf, no_ops, next}
use Rattle.ir_event.specs.trees.Tree.{head}
use Rattle.ir_event.specs.trees.Ids.{find}
use Rattle.ir_event.specs.tree_laws.Reads.{parent_of}
use Rattle.op_registry.specs.declared.own.Own.{Own}
use Rattle.effects.specs.Effects.{is_recursive}

module _ {N T A : Type 0} (own : N → Own) where
  abbrev recursive_found : Option (OpOf N T A) → Bool
  recursive_found None = false
  recursive_found (Some o) = is_recursive (own (head o).name)

  -- whether operation x is in the tree and has recursive memory effects
  abbrev pub recursive_at : ℕ → OpOf N T A → Bool
  recursive_at x t = recursive_found (find x t)

  -- operation y is x or is a number of levels around x, and every operation from x to below y has recursive memory
  -- effects
  abbrev pub Climbs : ℕ → ℕ → ℕ → OpOf N T A → Type 0
  Climbs zero y x t = (recursive_at x t ≡ true) × (x ≡ y)
  Climbs (suc k) y x t = (recursive_at x t ≡ true) × ((p : ℕ) × (parent_of x t ≡ Some p) × Climbs k y p t)

  -- whether the effects of an operation include those of operation x inside it
  abbrev mutual
    pub feels : ℕ → OpOf N T A → Bool
    feels x (op h rs) = is_recursive (own h.name) && regions_feel x rs

    pub regions_feel : ℕ → RegionsOf N T A → Bool
    regions_feel x no_regions = false
    regions_feel x (region g rs) = region_feels x g || regions_feel x rs

    pub region_feels : ℕ → RegionOf N T A → Bool
    region_feels x empty = false
    region_feels x (block args os) = ops_feel x os

    pub ops_feel : ℕ → OpsOf N T A → Bool
    ops_feel x no_ops = false
    ops_feel x (next o os) = eqb (head o).id x || (feels x o || ops_feel x os)
