-- Places in the lists of a tree.
use Rattle.std.proofs.Common.{◌≡◌, refl, ap, eqb, ◌||◌, ℕ, zero, suc, List, [], ◌∷◌, map, length, true, arith}
use Rattle.std.specs.Prelude.{slice_get, option_map}
use Rattle.std.specs.List.{list_any}
use Rattle.ir_tree.specs.Tree.{OpOf, op, RegionOf, RegionsOf, no_regions, region, empty, block, no_ops, next, head, regions, regions_of, ops_of}
use Rattle.ir_tree.specs.Ids.{ids, regions_ids}
use Rattle.ir_tree_laws.specs.Reads.{is_among}
use Rattle.ir_tree_laws.specs.Reasons.{hold_none}
use Rattle.ir_tree_laws.specs.Values.{region_at}

module _ {N T A : Type 0} where
  pub among_of : (b : ℕ) (os : List (OpOf N T A)) → is_among b (ops_of os) ≡ list_any (λ o. eqb (head o).id b) os
  among_of b [] = refl
  among_of b (o ∷ os) = ap (λ z. eqb (head o).id b || z) (among_of b os)

  pub region_at_of : {X : Type 0} (f : X → RegionOf N T A) (r : ℕ) (xs : List X) → region_at r (regions_of (map f xs)) ≡ option_map f (slice_get xs r)
  region_at_of f r [] = refl
  region_at_of f zero (x ∷ xs) = refl
  region_at_of f (suc r) (x ∷ xs) = region_at_of f r xs

  -- regions without operations have empty blocks
  none_from : (rs : RegionsOf N T A) → length (regions_ids rs) ≡ 0 → hold_none rs ≡ true
  none_from no_regions e = refl
  none_from (region empty rs) e = none_from rs e
  none_from (region (block args no_ops) rs) e = none_from rs e
  none_from (region (block args (next (op h ss) os)) rs) e = absurd cc

  -- an operation without operations inside it has empty blocks
  pub alone_holds_none : (t : OpOf N T A) → length (ids t) ≡ 1 → hold_none (regions t) ≡ true
  alone_holds_none (op h rs) e = let d : length (regions_ids rs) ≡ 0 = omega (arith, e) in none_from rs d
