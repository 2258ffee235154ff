-- The number of uses, counted along the operations of a tree.
use Rattle.std.proofs.Common.{◌≡◌, ◌≤◌, ℕ, ◌+◌, List, [], ◌∷◌, ◌++◌, length, Bool, true, false, refl, sym, ap, arith, cond, eqb, length-append}
use Rattle.ir_event.specs.types.Terms.{TypeTerm, AttrTerm}
use Rattle.ir_event.specs.trees.declared.value.Value.{Value}
use Rattle.ir_event.specs.trees.declared.value.Value.TheVariants.{Result, Arg}
use Rattle.ir_event.specs.trees.Tree.{OpOf, op, RegionsOf, no_regions, region, RegionOf, empty, block, OpsOf, no_ops, next}
use Rattle.ir_event.specs.trees.Maps.{map_tree, map_regions, map_region, map_ops}
use Rattle.ir_event.specs.trees.Uses.{same_value, operand_uses, uses_of, regions_uses, region_uses, ops_uses}
use Rattle.std.proofs.lemmas.Bool.{eqb-true, eq-eqb}
use Rattle.ir_event.specs.Heads.{heads, regions_heads, region_heads, ops_heads}
use Rattle.constants.specs.Facts.{Header}
use Rattle.constants.specs.Reached.{one_if, is_result_of, results_among, uses_among}
use Rattle.ir_event.proofs.of_tree_laws.Listed.{both}

uses_append : (hs gs : List Header) (d : ℕ) → uses_among (hs ++ gs) d ≡ uses_among hs d + uses_among gs d
uses_append [] gs d = omega arith
uses_append (h ∷ hs) gs d = let r = uses_append hs gs d in omega (arith, r)

counted : (d k : ℕ) (v : Value) (b : Bool) → same_value (Result d k) v ≡ b → one_if b ≤ one_if (is_result_of d v)
counted d k v false e = omega arith
counted d k (Result y l) true e =
    let here : is_result_of d (Result y l) ≡ true = eq-eqb y d (sym (eqb-true d y (both (eqb d y) (eqb k l) e).0)) in
    let q : ◌≡◌ {A = ℕ} (one_if (is_result_of d (Result y l))) 1 = ap one_if here in
    omega (arith, q)
counted d k (Arg y s l) true e = absurd (let bad : false ≡ true = e in cc)

length_operands : (d k x n : ℕ) (vs : List Value) → length (operand_uses (Result d k) x n vs) ≤ results_among d vs
length_operands d k x n [] = omega arith
length_operands d k x n (v ∷ vs) =
    let more = length_operands d k x (n + 1) vs in
    let one = counted d k v (same_value (Result d k) v) refl in
    let size = test (same_value (Result d k) v) in
    omega (arith, more, one, size)
  where
    test : (b : Bool) → length (cond b ((x, n) ∷ operand_uses (Result d k) x (n + 1) vs) (operand_uses (Result d k) x (n + 1) vs)) ≡ one_if b + length (operand_uses (Result d k) x (n + 1) vs)
    test true = omega arith
    test false = omega arith

module _ {N T A : Type 0} (f : N → List ℕ) (g : T → TypeTerm) (h : A → AttrTerm) (d k : ℕ) where
  mutual
    pub length_uses : (t : OpOf N T A) → length (uses_of (Result d k) t) ≤ uses_among (heads (map_tree f g h t)) d
    length_uses (op o rs) =
        let a = length_operands d k o.id 0 o.operands in
        let b = regions_length rs in
        let c = length-append (operand_uses (Result d k) o.id 0 o.operands) (regions_uses (Result d k) rs) in
        omega (arith, a, b, c)

    regions_length : (rs : RegionsOf N T A) → length (regions_uses (Result d k) rs) ≤ uses_among (regions_heads (map_regions f g h rs)) d
    regions_length no_regions = omega arith
    regions_length (region r rs) =
        let a = region_length r in
        let b = regions_length rs in
        let c = length-append (region_uses (Result d k) r) (regions_uses (Result d k) rs) in
        let e = uses_append (region_heads (map_region f g h r)) (regions_heads (map_regions f g h rs)) d in
        omega (arith, a, b, c, e)

    region_length : (r : RegionOf N T A) → length (region_uses (Result d k) r) ≤ uses_among (region_heads (map_region f g h r)) d
    region_length empty = omega arith
    region_length (block args os) = ops_length os

    ops_length : (os : OpsOf N T A) → length (ops_uses (Result d k) os) ≤ uses_among (ops_heads (map_ops f g h os)) d
    ops_length no_ops = omega arith
    ops_length (next o os) =
        let a = length_uses o in
        let b = ops_length os in
        let c = length-append (uses_of (Result d k) o) (ops_uses (Result d k) os) in
        let e = uses_append (heads (map_tree f g h o)) (ops_heads (map_ops f g h os)) d in
        omega (arith, a, b, c, e)
