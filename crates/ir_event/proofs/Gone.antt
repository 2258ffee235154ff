-- An operation that was taken out of a tree isn't found there.
use Rattle.std.proofs.Common.{◌≡◌, refl, ℕ, ◌+◌, false, eqb, ⊎_elim, None}
use Rattle.std.proofs.lemmas.Bool.{cases_Bool}
use Rattle.ir_store.specs.trees.Tree.{OpOf, op, RegionsOf, no_regions, region, RegionOf, empty, block, OpsOf, no_ops, next, head}
use Rattle.ir_store.specs.trees.Ids.{find, regions_find, region_find, ops_find}
use Rattle.ir_store.specs.trees.Places.{drop_op, each_list, regions_each_list, region_each_list, ops_each_list, without}

module _ {N T A : Type 0} (x : ℕ) where
  abbrev cut : ℕ → ℕ → OpsOf N T A → OpsOf N T A
  cut p r os = drop_op x os

  mutual
    cut_op : (t : OpOf N T A) → eqb (head t).id x ≡ false → find x (each_list cut t) ≡ None
    cut_op (op h rs) n = rw n (cut_regions h.id 0 rs)

    cut_regions : (p r : ℕ) (rs : RegionsOf N T A) → regions_find x (regions_each_list cut p r rs) ≡ None
    cut_regions p r no_regions = refl
    cut_regions p r (region g rs) = rw (cut_region p r g) (cut_regions p (r + 1) rs)

    cut_region : (p r : ℕ) (g : RegionOf N T A) → region_find x (region_each_list cut p r g) ≡ None
    cut_region p r empty = refl
    cut_region p r (block args os) = cut_ops os

    cut_ops : (os : OpsOf N T A) → ops_find x (drop_op x (ops_each_list cut os)) ≡ None
    cut_ops no_ops = refl
    cut_ops (next (op h rs) os) = ⊎_elim
        (λ e. rw e (cut_ops os))
        (λ n. rw n (rw (cut_op (op h rs) n) (cut_ops os)))
        (cases_Bool (eqb h.id x))

  pub not_there : (t : OpOf N T A) → eqb (head t).id x ≡ false → find x (without x t) ≡ None
  not_there t n = cut_op t n
