-- Properties that a tree with other ids shares with the original tree.
use Rattle.std.proofs.Common.{◌≡◌, refl, ap, sym, ◌∙◌, subst, ℕ, ◌+◌, max, eqb, Bool, ◌&&◌, List, ◌∷◌, ◌++◌, length, map}
use Rattle.std.specs.Prelude.{nat_le}
use Rattle.std.specs.List.{IsDistinct, list_all, range_with_len}
use Rattle.std.proofs.lemmas.List.{length-map, map-append}
use Rattle.ir_tree.specs.Tree.{OpOf, op, RegionsOf, no_regions, region, RegionOf, empty, block, OpsOf, no_ops, next, head, region_count}
use Rattle.ir_tree.specs.Ids.{ids, regions_ids, region_ids, ops_ids, HasDistinctIds, IsNumberedFrom}
use Rattle.ir_tree.specs.Limits.{depth, regions_depth, region_depth, ops_depth, every, regions_every, region_every, ops_every, most_ops, most_items, most_regions, items_fit, arguments_pass, all_arguments_pass, op_fits, counts_fit}
use Rattle.ir_tree.specs.Meaning.{dictionaries_rise}
use Rattle.ir_tree.specs.Passing.{head_passes, op_passes, all_pass}
use Rattle.ir_tree_laws.specs.Renumbered.{value_with_id, head_with_ids, with_ids, regions_with_ids, region_with_ids, ops_with_ids, place_in, renumbered, MapsApart}
use Rattle.ir_tree_laws.proofs.RenumberedPlaces.{places, places_tell, distinct_with}

module _ {N T A : Type 0} (f : ℕ → ℕ) where
  -- ids
  mutual
    pub ids_with : (t : OpOf N T A) → ids (with_ids f t) ≡ map f (ids t)
    ids_with (op h rs) = ap (λ l. f h.id ∷ l) (regions_ids_with rs)

    pub regions_ids_with : (rs : RegionsOf N T A) → regions_ids (regions_with_ids f rs) ≡ map f (regions_ids rs)
    regions_ids_with no_regions = refl
    regions_ids_with (region r rs) = (λ i. region_ids_with r i ++ regions_ids_with rs i) ∙ sym (map-append f (region_ids r) (regions_ids rs))

    pub region_ids_with : (r : RegionOf N T A) → region_ids (region_with_ids f r) ≡ map f (region_ids r)
    region_ids_with empty = refl
    region_ids_with (block args os) = ops_ids_with os

    pub ops_ids_with : (os : OpsOf N T A) → ops_ids (ops_with_ids f os) ≡ map f (ops_ids os)
    ops_ids_with no_ops = refl
    ops_ids_with (next o os) = (λ i. ids_with o i ++ ops_ids_with os i) ∙ sym (map-append f (ids o) (ops_ids os))

  -- depth
  mutual
    pub depth_with : (t : OpOf N T A) → depth (with_ids f t) ≡ depth t
    depth_with (op h rs) = regions_depth_with rs

    pub regions_depth_with : (rs : RegionsOf N T A) → regions_depth (regions_with_ids f rs) ≡ regions_depth rs
    regions_depth_with no_regions = refl
    regions_depth_with (region r rs) = λ i. max (region_depth_with r i) (regions_depth_with rs i)

    pub region_depth_with : (r : RegionOf N T A) → region_depth (region_with_ids f r) ≡ region_depth r
    region_depth_with empty = refl
    region_depth_with (block args os) = ops_depth_with os

    pub ops_depth_with : (os : OpsOf N T A) → ops_depth (ops_with_ids f os) ≡ ops_depth os
    ops_depth_with no_ops = refl
    ops_depth_with (next o os) = λ i. max (depth_with o i + 1) (ops_depth_with os i)

  -- tests with the same answers
  module _ (p q : OpOf N T A → Bool) (same : (o : OpOf N T A) → q (with_ids f o) ≡ p o) where
    mutual
      pub every_with : (t : OpOf N T A) → every q (with_ids f t) ≡ every p t
      every_with (op h rs) = λ i. same (op h rs) i && regions_every_with rs i

      pub regions_every_with : (rs : RegionsOf N T A) → regions_every q (regions_with_ids f rs) ≡ regions_every p rs
      regions_every_with no_regions = refl
      regions_every_with (region r rs) = λ i. region_every_with r i && regions_every_with rs i

      pub region_every_with : (r : RegionOf N T A) → region_every q (region_with_ids f r) ≡ region_every p r
      region_every_with empty = refl
      region_every_with (block args os) = ops_every_with os

      pub ops_every_with : (os : OpsOf N T A) → ops_every q (ops_with_ids f os) ≡ ops_every p os
      ops_every_with no_ops = refl
      ops_every_with (next o os) = λ i. every_with o i && ops_every_with os i

  -- the head of an operation
  pub head_with : (t : OpOf N T A) → head (with_ids f t) ≡ head_with_ids f (head t)
  head_with (op h rs) = refl

  pub rise_with : (before : N → N → Bool) (t : OpOf N T A) → dictionaries_rise before (with_ids f t) ≡ dictionaries_rise before t
  rise_with before (op h rs) = refl

  -- counts
  pub region_count_with : (rs : RegionsOf N T A) → region_count (regions_with_ids f rs) ≡ region_count rs
  region_count_with no_regions = refl
  region_count_with (region r rs) = ap (λ n. n + 1) (region_count_with rs)

  arguments_with : (p : List T → Bool) (r : RegionOf N T A) → arguments_pass p (region_with_ids f r) ≡ arguments_pass p r
  arguments_with p empty = refl
  arguments_with p (block args os) = refl

  pub all_arguments_with : (p : List T → Bool) (rs : RegionsOf N T A) → all_arguments_pass p (regions_with_ids f rs) ≡ all_arguments_pass p rs
  all_arguments_with p no_regions = refl
  all_arguments_with p (region r rs) = λ i. arguments_with p r i && all_arguments_with p rs i

  fits_with : (t : OpOf N T A) → op_fits (with_ids f t) ≡ op_fits t
  fits_with (op h rs) = λ i.
      (nat_le (length-map h.operands (value_with_id f) i) most_items && (items_fit h.results && (items_fit h.properties && items_fit h.attributes)))
      && (nat_le (region_count_with rs i) most_regions && all_arguments_with items_fit rs i)

  pub op_count_with : (t : OpOf N T A) → length (ids (with_ids f t)) ≡ length (ids t)
  op_count_with t = ap length (ids_with t) ∙ length-map (ids t) f

  pub counts_with : (t : OpOf N T A) → counts_fit (with_ids f t) ≡ counts_fit t
  counts_with t = λ i. nat_le (op_count_with t i) most_ops && every_with op_fits op_fits fits_with t i

  -- tests of names, types and attributes
  passes_with : (n : N → Bool) (q : T → Bool) (a : A → Bool) (t : OpOf N T A) → op_passes n q a (with_ids f t) ≡ op_passes n q a t
  passes_with n q a (op h rs) = ap (λ b. head_passes n q a h && b) (all_arguments_with (list_all q) rs)

  pub all_pass_with : (n : N → Bool) (q : T → Bool) (a : A → Bool) (t : OpOf N T A) → all_pass n q a (with_ids f t) ≡ all_pass n q a t
  all_pass_with n q a t = every_with (op_passes n q a) (op_passes n q a) (passes_with n q a) t

-- the ids of a renumbered tree
pub numbered : {N T A : Type 0} (t : OpOf N T A) → HasDistinctIds t → IsNumberedFrom 0 (renumbered t)
numbered t d = ids_with (place_in (ids t)) t ∙ places (ids t) d ∙ ap (range_with_len 0) (sym (op_count_with (place_in (ids t)) t))

pub distinct : {N T A : Type 0} (f : ℕ → ℕ) (t : OpOf N T A) → MapsApart f (ids t) → HasDistinctIds t → HasDistinctIds (with_ids f t)
distinct f t k d = subst (IsDistinct eqb) (sym (ids_with f t)) (distinct_with f (ids t) k d)

pub distinct_renumbered : {N T A : Type 0} (t : OpOf N T A) → HasDistinctIds t → HasDistinctIds (renumbered t)
distinct_renumbered t d = distinct (place_in (ids t)) t (places_tell (ids t)) d
