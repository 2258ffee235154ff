-- The uses of a value.
use Rattle.std.specs.Prelude.{ℕ, ◌+◌, List, [], ◌∷◌, ◌++◌, eqb, Bool, false, ◌&&◌, if◌then◌else◌}
use Rattle.ir_tree.specs.declared.value.Value.{Value}
use Rattle.ir_tree.specs.declared.value.Value.TheVariants.{Result, Arg}
use Rattle.ir_tree.specs.Tree.{OpOf, op, RegionsOf, no_regions, region, RegionOf, empty, block, OpsOf, no_ops, next}

-- whether two values are equal
abbrev pub same_value : Value → Value → Bool
same_value (Result x k) (Result y l) = eqb x y && eqb k l
same_value (Result x k) (Arg y s l) = false
same_value (Arg x r k) (Result y l) = false
same_value (Arg x r k) (Arg y s l) = eqb x y && (eqb r s && eqb k l)

-- the uses of v among operands of operation x, whose first operand has index k: user and index
abbrev pub operand_uses : Value → ℕ → ℕ → List Value → List (ℕ × ℕ)
operand_uses v x k [] = []
operand_uses v x k (w ∷ ws) = if same_value v w then (x, k) ∷ operand_uses v x (k + 1) ws else operand_uses v x (k + 1) ws

-- the uses of v: its users in pre-order, with the indices of the operands
abbrev mutual
  pub uses_of : {N T A : Type 0} → Value → OpOf N T A → List (ℕ × ℕ)
  uses_of v (op h rs) = operand_uses v h.id 0 h.operands ++ regions_uses v rs

  pub regions_uses : {N T A : Type 0} → Value → RegionsOf N T A → List (ℕ × ℕ)
  regions_uses v no_regions = []
  regions_uses v (region r rs) = region_uses v r ++ regions_uses v rs

  pub region_uses : {N T A : Type 0} → Value → RegionOf N T A → List (ℕ × ℕ)
  region_uses v empty = []
  region_uses v (block args os) = ops_uses v os

  pub ops_uses : {N T A : Type 0} → Value → OpsOf N T A → List (ℕ × ℕ)
  ops_uses v no_ops = []
  ops_uses v (next o os) = uses_of v o ++ ops_uses v os
