-- A property of each operation of a tree, after edits.
use Rattle.std.proofs.Common.{◌≡◌, ℕ, ◌+◌, ◌<◌, subst, Bool, true, false, eqb, Option, Some, None, List}
use Rattle.std.specs.Prelude.{if◌then◌else◌}
use Rattle.ir_types.specs.Terms.{TypeTerm, AttrTerm}
use Rattle.ir_tree.specs.declared.place.Place.{Place}
use Rattle.ir_tree.specs.Tree.{RegionsOf, RegionOf, OpsOf, op, no_regions, region, empty, block, no_ops, next, head}
use Rattle.ir_tree.specs.Edits.{each_head, regions_each_head, region_each_head, ops_each_head}
use Rattle.ir_tree.specs.Places.{drop_op, each_list, is_in_block, ops_each_list, put, put_before, put_here, put_in, put_last, region_each_list, regions_each_list, without}
use Rattle.ir_tree.specs.Meaning.{Operation}
use Rattle.user_patterns_data.specs.Matching.{Header}
use Rattle.patterns_refinement.specs.Meaning.{BlocksAmong, BlocksInRegion, BlocksInRegions, Each, EachAmong, EachBlock, EachInRegion, EachInRegions}

abbrev Regions : Type 0
Regions = RegionsOf (List ℕ) TypeTerm AttrTerm

abbrev Region : Type 0
Region = RegionOf (List ℕ) TypeTerm AttrTerm

abbrev Ops : Type 0
Ops = OpsOf (List ℕ) TypeTerm AttrTerm

-- ---- an edit of each list
module _ (P : Header → Type 0) where
  module _ (f : ℕ → ℕ → Ops → Ops) (keeps : (p r : ℕ) (os : Ops) → EachAmong P os → EachAmong P (f p r os)) where
    mutual
      each_listed : (t : Operation) → Each P t → Each P (each_list f t)
      each_listed (op h rs) s = (s.0, regions_listed h.id 0 rs s.1)

      regions_listed : (p r : ℕ) (rs : Regions) → EachInRegions P rs → EachInRegions P (regions_each_list f p r rs)
      regions_listed p r no_regions s = tt
      regions_listed p r (region g rs) s = (region_listed p r g s.0, regions_listed p (r + 1) rs s.1)

      region_listed : (p r : ℕ) (g : Region) → EachInRegion P g → EachInRegion P (region_each_list f p r g)
      region_listed p r empty s = tt
      region_listed p r (block args os) s = keeps p r (ops_each_list f os) (ops_listed os s)

      ops_listed : (os : Ops) → EachAmong P os → EachAmong P (ops_each_list f os)
      ops_listed no_ops s = tt
      ops_listed (next o os) s = (each_listed o s.0, ops_listed os s.1)

  -- an operation is inserted
  module _ (place : Place) (o : Operation) (its : Each P o) where
    in_last : (os : Ops) → EachAmong P os → EachAmong P (put_last o os)
    in_last no_ops s = (its, tt)
    in_last (next p os) s = (s.0, in_last os s.1)

    in_before : (b : ℕ) (os : Ops) → EachAmong P os → EachAmong P (put_before b o os)
    in_before b no_ops s = tt
    in_before b (next p os) s = go (eqb (head p).id b) (in_before b os s.1)
      where
        go : (c : Bool) → EachAmong P (put_before b o os) → EachAmong P (if c then next o (next p os) else next p (put_before b o os))
        go true ih = (its, s)
        go false ih = (s.0, ih)

    in_list : (b : Option ℕ) (os : Ops) → EachAmong P os → EachAmong P (put_in b o os)
    in_list None os s = in_last os s
    in_list (Some b) os s = in_before b os s

    in_here : (p r : ℕ) (os : Ops) → EachAmong P os → EachAmong P (put_here place o p r os)
    in_here p r os s = go (is_in_block place p r)
      where
        go : (c : Bool) → EachAmong P (if c then put_in place.before o os else os)
        go true = in_list place.before os s
        go false = s

    pub each_put : (t : Operation) → Each P t → Each P (put place o t)
    each_put t s = each_listed (put_here place o) in_here t s

  -- an operation is erased
  dropped : (x : ℕ) (os : Ops) → EachAmong P os → EachAmong P (drop_op x os)
  dropped x no_ops s = tt
  dropped x (next o os) s = go (eqb (head o).id x) (dropped x os s.1)
    where
      go : (c : Bool) → EachAmong P (drop_op x os) → EachAmong P (if c then drop_op x os else next o (drop_op x os))
      go true ih = ih
      go false ih = (s.0, ih)

  pub each_without : (x : ℕ) (t : Operation) → Each P t → Each P (without x t)
  each_without x t s = each_listed (λ p r os. drop_op x os) (λ p r os s. dropped x os s) t s

-- ---- a change of each head
module _ (P Q : Header → Type 0) (f : Header → Header) (change : (h : Header) → P h → Q (f h)) where
  mutual
    pub each_changed : (t : Operation) → Each P t → Each Q (each_head f t)
    each_changed (op h rs) s = (change h s.0, regions_changed rs s.1)

    regions_changed : (rs : Regions) → EachInRegions P rs → EachInRegions Q (regions_each_head f rs)
    regions_changed no_regions s = tt
    regions_changed (region g rs) s = (region_changed g s.0, regions_changed rs s.1)

    region_changed : (g : Region) → EachInRegion P g → EachInRegion Q (region_each_head f g)
    region_changed empty s = tt
    region_changed (block args os) s = ops_changed os s

    ops_changed : (os : Ops) → EachAmong P os → EachAmong Q (ops_each_head f os)
    ops_changed no_ops s = tt
    ops_changed (next o os) s = (each_changed o s.0, ops_changed os s.1)

-- ---- both
module _ (P Q R : Header → Type 0) (both : (h : Header) → P h → Q h → R h) where
  mutual
    pub each_both : (t : Operation) → Each P t → Each Q t → Each R t
    each_both (op h rs) s q = (both h s.0 q.0, regions_both rs s.1 q.1)

    regions_both : (rs : Regions) → EachInRegions P rs → EachInRegions Q rs → EachInRegions R rs
    regions_both no_regions s q = tt
    regions_both (region g rs) s q = (region_both g s.0 q.0, regions_both rs s.1 q.1)

    region_both : (g : Region) → EachInRegion P g → EachInRegion Q g → EachInRegion R g
    region_both empty s q = tt
    region_both (block args os) s q = ops_both os s q

    ops_both : (os : Ops) → EachAmong P os → EachAmong Q os → EachAmong R os
    ops_both no_ops s q = tt
    ops_both (next o os) s q = (each_both o s.0 q.0, ops_both os s.1 q.1)

-- ---- blocks after an edit of each list
module _ (Q : ℕ → ℕ → List TypeTerm → Type 0) where
  module _ (f : ℕ → ℕ → Ops → Ops) (keeps : (p r : ℕ) (os : Ops) → BlocksAmong Q os → BlocksAmong Q (f p r os)) where
    mutual
      blocks_listed : (t : Operation) → EachBlock Q t → EachBlock Q (each_list f t)
      blocks_listed (op h rs) s = regions_blocks h.id 0 rs s

      regions_blocks : (p r : ℕ) (rs : Regions) → BlocksInRegions Q p r rs → BlocksInRegions Q p r (regions_each_list f p r rs)
      regions_blocks p r no_regions s = tt
      regions_blocks p r (region g rs) s = (region_blocks p r g s.0, regions_blocks p (r + 1) rs s.1)

      region_blocks : (p r : ℕ) (g : Region) → BlocksInRegion Q p r g → BlocksInRegion Q p r (region_each_list f p r g)
      region_blocks p r empty s = tt
      region_blocks p r (block args os) s = (s.0, keeps p r (ops_each_list f os) (ops_blocks os s.1))

      ops_blocks : (os : Ops) → BlocksAmong Q os → BlocksAmong Q (ops_each_list f os)
      ops_blocks no_ops s = tt
      ops_blocks (next o os) s = (blocks_listed o s.0, ops_blocks os s.1)

  module _ (place : Place) (o : Operation) (its : EachBlock Q o) where
    blocks_last : (os : Ops) → BlocksAmong Q os → BlocksAmong Q (put_last o os)
    blocks_last no_ops s = (its, tt)
    blocks_last (next p os) s = (s.0, blocks_last os s.1)

    blocks_before : (b : ℕ) (os : Ops) → BlocksAmong Q os → BlocksAmong Q (put_before b o os)
    blocks_before b no_ops s = tt
    blocks_before b (next p os) s = go (eqb (head p).id b) (blocks_before b os s.1)
      where
        go : (c : Bool) → BlocksAmong Q (put_before b o os) → BlocksAmong Q (if c then next o (next p os) else next p (put_before b o os))
        go true ih = (its, s)
        go false ih = (s.0, ih)

    blocks_in : (b : Option ℕ) (os : Ops) → BlocksAmong Q os → BlocksAmong Q (put_in b o os)
    blocks_in None os s = blocks_last os s
    blocks_in (Some b) os s = blocks_before b os s

    blocks_here : (p r : ℕ) (os : Ops) → BlocksAmong Q os → BlocksAmong Q (put_here place o p r os)
    blocks_here p r os s = go (is_in_block place p r)
      where
        go : (c : Bool) → BlocksAmong Q (if c then put_in place.before o os else os)
        go true = blocks_in place.before os s
        go false = s

    pub blocks_put : (t : Operation) → EachBlock Q t → EachBlock Q (put place o t)
    blocks_put t s = blocks_listed (put_here place o) blocks_here t s

  blocks_dropped : (x : ℕ) (os : Ops) → BlocksAmong Q os → BlocksAmong Q (drop_op x os)
  blocks_dropped x no_ops s = tt
  blocks_dropped x (next o os) s = go (eqb (head o).id x) (blocks_dropped x os s.1)
    where
      go : (c : Bool) → BlocksAmong Q (drop_op x os) → BlocksAmong Q (if c then drop_op x os else next o (drop_op x os))
      go true ih = ih
      go false ih = (s.0, ih)

  pub blocks_without : (x : ℕ) (t : Operation) → EachBlock Q t → EachBlock Q (without x t)
  blocks_without x t s = blocks_listed (λ p r os. drop_op x os) (λ p r os s. blocks_dropped x os s) t s

  -- heads are changed, except for their ids
  module _ (f : Header → Header) (same : (h : Header) → h.id ≡ (f h).id) where
    mutual
      pub blocks_changed : (t : Operation) → EachBlock Q t → EachBlock Q (each_head f t)
      blocks_changed (op h rs) s = subst (λ y. BlocksInRegions Q y 0 (regions_each_head f rs)) (same h) (regions_block_changed h.id 0 rs s)

      regions_block_changed : (p r : ℕ) (rs : Regions) → BlocksInRegions Q p r rs → BlocksInRegions Q p r (regions_each_head f rs)
      regions_block_changed p r no_regions s = tt
      regions_block_changed p r (region g rs) s = (region_block_changed p r g s.0, regions_block_changed p (r + 1) rs s.1)

      region_block_changed : (p r : ℕ) (g : Region) → BlocksInRegion Q p r g → BlocksInRegion Q p r (region_each_head f g)
      region_block_changed p r empty s = tt
      region_block_changed p r (block args os) s = (s.0, ops_block_changed os s.1)

      ops_block_changed : (os : Ops) → BlocksAmong Q os → BlocksAmong Q (ops_each_head f os)
      ops_block_changed no_ops s = tt
      ops_block_changed (next o os) s = (blocks_changed o s.0, ops_block_changed os s.1)

  -- all ids are below n
  module _ (R : ℕ → ℕ → List TypeTerm → Type 0) (n : ℕ) (both : (y r : ℕ) (args : List TypeTerm) → y < n → Q y r args → R y r args) where
    mutual
      pub blocks_below : (t : Operation) → Each (λ h. h.id < n) t → EachBlock Q t → EachBlock R t
      blocks_below (op h rs) l s = regions_below h.id 0 rs l.0 l.1 s

      regions_below : (p r : ℕ) (rs : Regions) → p < n → EachInRegions (λ h. h.id < n) rs → BlocksInRegions Q p r rs → BlocksInRegions R p r rs
      regions_below p r no_regions m l s = tt
      regions_below p r (region g rs) m l s = (region_below p r g m l.0 s.0, regions_below p (r + 1) rs m l.1 s.1)

      region_below : (p r : ℕ) (g : Region) → p < n → EachInRegion (λ h. h.id < n) g → BlocksInRegion Q p r g → BlocksInRegion R p r g
      region_below p r empty m l s = tt
      region_below p r (block args os) m l s = (both p r args m s.0, ops_below os l s.1)

      ops_below : (os : Ops) → EachAmong (λ h. h.id < n) os → BlocksAmong Q os → BlocksAmong R os
      ops_below no_ops l s = tt
      ops_below (next o os) l s = (blocks_below o l.0 s.0, ops_below os l.1 s.1)
