-- Trees of the same shape with other ids.
use Rattle.std.specs.Prelude.{◌≡◌, ℕ, List, map, eqb, nat_eq, true}
use Rattle.std.specs.List.{list_any, position_or_len}
use Rattle.ir_tree.specs.declared.value.Value.{Value}
use Rattle.ir_tree.specs.declared.value.Value.TheVariants.{Result, Arg}
use Rattle.ir_tree.specs.Tree.{HeadOf, OpOf, op, RegionsOf, no_regions, region, RegionOf, empty, block, OpsOf, no_ops, next}
use Rattle.ir_tree.specs.Ids.{ids}

-- a value, with f applied to the id of its operation
abbrev pub value_with_id : (ℕ → ℕ) → Value → Value
value_with_id f (Result x k) = Result (f x) k
value_with_id f (Arg x r k) = Arg (f x) r k

-- a head, with f applied to its id and to the id in each operand
abbrev pub head_with_ids : {N T A : Type 0} → (ℕ → ℕ) → HeadOf N T A → HeadOf N T A
head_with_ids f h = record h { id = f h.id; operands = map (value_with_id f) h.operands }

-- a tree, with f applied to each id and to the id in each operand
abbrev mutual
  pub with_ids : {N T A : Type 0} → (ℕ → ℕ) → OpOf N T A → OpOf N T A
  with_ids f (op h rs) = op (head_with_ids f h) (regions_with_ids f rs)

  pub regions_with_ids : {N T A : Type 0} → (ℕ → ℕ) → RegionsOf N T A → RegionsOf N T A
  regions_with_ids f no_regions = no_regions
  regions_with_ids f (region r rs) = region (region_with_ids f r) (regions_with_ids f rs)

  pub region_with_ids : {N T A : Type 0} → (ℕ → ℕ) → RegionOf N T A → RegionOf N T A
  region_with_ids f empty = empty
  region_with_ids f (block args os) = block args (ops_with_ids f os)

  pub ops_with_ids : {N T A : Type 0} → (ℕ → ℕ) → OpsOf N T A → OpsOf N T A
  ops_with_ids f no_ops = no_ops
  ops_with_ids f (next o os) = next (with_ids f o) (ops_with_ids f os)

-- the first position of x in the list, or the length of the list if x isn't in it
abbrev pub place_in : List ℕ → ℕ → ℕ
place_in xs x = position_or_len (nat_eq x) xs

-- a tree, renumbered from 0 on in pre-order
abbrev pub renumbered : {N T A : Type 0} → OpOf N T A → OpOf N T A
renumbered t = with_ids (place_in (ids t)) t

-- f maps a number of the list and another number to different numbers
abbrev pub MapsApart : (ℕ → ℕ) → List ℕ → Type 0
MapsApart f xs = (x y : ℕ) → list_any (λ z. eqb z y) xs ≡ true → eqb (f x) (f y) ≡ eqb x y
