-- Edits of heads only, of lists only, and the empty edit.
use Rattle.std.proofs.Common.{◌≡◌, refl, ap, ℕ, ◌+◌}
use Rattle.ir_tree.specs.Tree.{HeadOf, OpOf, op, RegionsOf, no_regions, region, RegionOf, empty, block, OpsOf, no_ops, next}
use Rattle.ir_tree.specs.Edits.{each_head, regions_each_head, region_each_head, ops_each_head}
use Rattle.ir_tree.specs.Places.{each_list, regions_each_list, region_each_list, ops_each_list}
use Rattle.ir_tree.specs.Edited.{edited, regions_edited, region_edited, ops_edited}

module _ {N T A : Type 0} (f : HeadOf N T A → HeadOf N T A) where
  mutual
    pub heads_edited : (t : OpOf N T A) → edited f (λ p r os. os) t ≡ each_head f t
    heads_edited (op h rs) = ap (op (f h)) (regions_heads h.id 0 rs)

    regions_heads : (p r : ℕ) (rs : RegionsOf N T A) → regions_edited f (λ p r os. os) p r rs ≡ regions_each_head f rs
    regions_heads p r no_regions = refl
    regions_heads p r (region q rs) = λ i. region (region_heads p r q i) (regions_heads p (r + 1) rs i)

    region_heads : (p r : ℕ) (q : RegionOf N T A) → region_edited f (λ p r os. os) p r q ≡ region_each_head f q
    region_heads p r empty = refl
    region_heads p r (block args os) = ap (block args) (ops_heads os)

    ops_heads : (os : OpsOf N T A) → ops_edited f (λ p r os. os) os ≡ ops_each_head f os
    ops_heads no_ops = refl
    ops_heads (next o os) = λ i. next (heads_edited o i) (ops_heads os i)

module _ {N T A : Type 0} (g : ℕ → ℕ → OpsOf N T A → OpsOf N T A) where
  mutual
    pub lists_edited : (t : OpOf N T A) → edited (λ h. h) g t ≡ each_list g t
    lists_edited (op h rs) = ap (op h) (regions_lists h.id 0 rs)

    regions_lists : (p r : ℕ) (rs : RegionsOf N T A) → regions_edited (λ h. h) g p r rs ≡ regions_each_list g p r rs
    regions_lists p r no_regions = refl
    regions_lists p r (region q rs) = λ i. region (region_lists p r q i) (regions_lists p (r + 1) rs i)

    region_lists : (p r : ℕ) (q : RegionOf N T A) → region_edited (λ h. h) g p r q ≡ region_each_list g p r q
    region_lists p r empty = refl
    region_lists p r (block args os) = ap (λ l. block args (g p r l)) (ops_lists os)

    ops_lists : (os : OpsOf N T A) → ops_edited (λ h. h) g os ≡ ops_each_list g os
    ops_lists no_ops = refl
    ops_lists (next o os) = λ i. next (lists_edited o i) (ops_lists os i)

module _ {N T A : Type 0} where
  mutual
    pub nothing_edited : (t : OpOf N T A) → edited (λ h. h) (λ p r os. os) t ≡ t
    nothing_edited (op h rs) = ap (op h) (regions_nothing h.id 0 rs)

    regions_nothing : (p r : ℕ) (rs : RegionsOf N T A) → regions_edited (λ h. h) (λ p r os. os) p r rs ≡ rs
    regions_nothing p r no_regions = refl
    regions_nothing p r (region q rs) = λ i. region (region_nothing p r q i) (regions_nothing p (r + 1) rs i)

    region_nothing : (p r : ℕ) (q : RegionOf N T A) → region_edited (λ h. h) (λ p r os. os) p r q ≡ q
    region_nothing p r empty = refl
    region_nothing p r (block args os) = ap (block args) (ops_nothing os)

    ops_nothing : (os : OpsOf N T A) → ops_edited (λ h. h) (λ p r os. os) os ≡ os
    ops_nothing no_ops = refl
    ops_nothing (next o os) = λ i. next (nothing_edited o i) (ops_nothing os i)
