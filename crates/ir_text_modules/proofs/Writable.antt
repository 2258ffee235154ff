-- Consequences of a writable tree: within the limits of a well-formed tree it fits, and its dictionaries are sorted.
use Rattle.std.proofs.Common.{◌≡◌, ◌≤◌, refl, Bool, true, ◌&&◌, List, length}
use Rattle.std.specs.Prelude.{nat_le}
use Rattle.ir_tree.specs.Limits.{every, regions_every, region_every, ops_every, most_ops, items_fit, head_fits, arguments_pass, all_arguments_pass, op_fits, counts_fit}
use Rattle.ir_tree.specs.Ids.{op_count}
use Rattle.ir_tree.specs.Meaning.{Operation, key_before, dictionaries_rise}
use Rattle.ir_tree.specs.Tree.{op, no_regions, region, region_count, empty, block, no_ops, next}
use Rattle.ir_text_modules.specs.WrittenTrees.{IsWritableHead, IsWritable, AreWritableRegions, IsWritableRegion, AreWritableOps}
use Rattle.ir_text_modules.proofs.Fitting.{FitsHead, FitsOp, FitsRegions, FitsRegion, FitsOps}
use Rattle.ir_text_modules.proofs.Texts.{Head, Regions, Region, Ops}
use Rattle.std.proofs.lemmas.Bool.{and_parts, leb-true}

-- ---- the limits

few_items : {X : Type 0} (xs : List X) → items_fit xs ≡ true → length xs ≤ 256
few_items xs e = leb-true (length xs) 256 e

fits_head : (o : Bool) (h : Head) → head_fits h ≡ true → IsWritableHead o h → FitsHead o h
fits_head o h e w =
    let a = and_parts (items_fit h.operands) (items_fit h.results && (items_fit h.properties && items_fit h.attributes)) e in
    let b = and_parts (items_fit h.results) (items_fit h.properties && items_fit h.attributes) a.1 in
    let c = and_parts (items_fit h.properties) (items_fit h.attributes) b.1 in
    record {
      operands = few_items h.operands a.0;
      results = few_items h.results b.0;
      properties = few_items h.properties c.0;
      attributes = few_items h.attributes c.1;
      written = w;
    }

mutual
  fits_op : (o : Bool) (t : Operation) → every op_fits t ≡ true → IsWritable o t → FitsOp o t
  fits_op o (op h rs) e w =
      let a = and_parts (op_fits (op h rs)) (regions_every op_fits rs) e in
      let b = and_parts (head_fits h) (nat_le (region_count rs) 16 && all_arguments_pass items_fit rs) a.0 in
      let c = and_parts (nat_le (region_count rs) 16) (all_arguments_pass items_fit rs) b.1 in
      (fits_head o h b.0 w.0, leb-true (region_count rs) 16 c.0, fits_regions o rs c.1 a.1 w.1)

  fits_regions : (o : Bool) (rs : Regions) → all_arguments_pass items_fit rs ≡ true → regions_every op_fits rs ≡ true → AreWritableRegions o rs → FitsRegions o rs
  fits_regions o no_regions e k w = tt
  fits_regions o (region g rs) e k w =
      let a = and_parts (arguments_pass items_fit g) (all_arguments_pass items_fit rs) e in
      let b = and_parts (region_every op_fits g) (regions_every op_fits rs) k in
      (fits_region o g a.0 b.0 w.0, fits_regions o rs a.1 b.1 w.1)

  fits_region : (o : Bool) (g : Region) → arguments_pass items_fit g ≡ true → region_every op_fits g ≡ true → IsWritableRegion o g → FitsRegion o g
  fits_region o empty e k w = tt
  fits_region o (block args os) e k w = (few_items args e, w.0, fits_ops o os k w.2)

  fits_ops : (o : Bool) (os : Ops) → ops_every op_fits os ≡ true → AreWritableOps o os → FitsOps o os
  fits_ops o no_ops k w = tt
  fits_ops o (next t ts) k w =
      let b = and_parts (every op_fits t) (ops_every op_fits ts) k in
      (fits_op o t b.0 w.0, fits_ops o ts b.1 w.1)

pub fits : (o : Bool) (t : Operation) → counts_fit t ≡ true → IsWritable o t → FitsOp o t
fits o t e w = fits_op o t (and_parts (nat_le (op_count t) most_ops) (every op_fits t) e).1 w

pub few_ops : (t : Operation) → counts_fit t ≡ true → op_count t ≤ most_ops
few_ops t e = leb-true (op_count t) most_ops (and_parts (nat_le (op_count t) most_ops) (every op_fits t) e).0

-- ---- sorted dictionaries

abbrev test : Operation → Bool
test = dictionaries_rise key_before

mutual
  pub sorted_op : (o : Bool) (t : Operation) → IsWritable o t → every test t ≡ true
  sorted_op o (op h rs) w = λ i. (w.0.properties.sorted i && w.0.attributes.sorted i) && sorted_regions o rs w.1 i

  sorted_regions : (o : Bool) (rs : Regions) → AreWritableRegions o rs → regions_every test rs ≡ true
  sorted_regions o no_regions w = refl
  sorted_regions o (region g rs) w = λ i. sorted_region o g w.0 i && sorted_regions o rs w.1 i

  sorted_region : (o : Bool) (g : Region) → IsWritableRegion o g → region_every test g ≡ true
  sorted_region o empty w = refl
  sorted_region o (block args os) w = sorted_ops o os w.2

  sorted_ops : (o : Bool) (os : Ops) → AreWritableOps o os → ops_every test os ≡ true
  sorted_ops o no_ops w = refl
  sorted_ops o (next t ts) w = λ i. sorted_op o t w.0 i && sorted_ops o ts w.1 i
