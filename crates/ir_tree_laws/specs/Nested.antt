-- An operation appended to a block.
use Rattle.std.specs.Prelude.{ℕ, zero, suc}
use Rattle.ir_tree.specs.Tree.{OpOf, RegionsOf, no_regions, region, empty, block}
use Rattle.ir_tree.specs.Places.{put_last}

-- the regions of an operation, with c appended to the block of region r, if it has one
abbrev pub with_last : {N T A : Type 0} → ℕ → OpOf N T A → RegionsOf N T A → RegionsOf N T A
with_last r c no_regions = no_regions
with_last zero c (region empty rs) = region empty rs
with_last zero c (region (block args os) rs) = region (block args (put_last c os)) rs
with_last (suc r) c (region g rs) = region g (with_last r c rs)
