-- Counts and depth of a tree, by one walk that keeps a tally.
use Rattle.std.specs.Prelude.{ℕ, ◌+◌, ◌-◌, ◌^◌, min, nat_lt, nat_le, true, ◌&&◌}
use Rattle.ir_tree.specs.declared.tally.Tally.{Tally}
use Rattle.ir_tree.specs.Tree.{Op, op, Regions, no_regions, region, Region, empty, block, Ops, no_ops, next}
use Rattle.ir_tree.specs.Ids.{op_count}
use Rattle.ir_tree.specs.Limits.{depth, every, op_fits, most_around}

-- the tally before a walk
abbrev pub nothing_visited : Tally
nothing_visited = record { ops = 0; shallow = true; fits = true }

-- an operation is visited
abbrev pub with_op : Op → Tally → Tally
with_op o t = record { ops = min (t.ops + 1) (2 ^ 64 - 1); shallow = t.shallow; fits = t.fits && op_fits o }

-- the walk enters a nested operation, with this many levels left of the depth limit
abbrev pub inwards : ℕ → Tally → Tally
inwards spare t = record { ops = t.ops; shallow = t.shallow && nat_lt 0 spare; fits = t.fits }

-- the tally after an operation, inside which this many levels are left of the depth limit
abbrev mutual
  pub tallied : ℕ → Op → Tally → Tally
  tallied spare (op h rs) t = regions_tallied spare rs (with_op (op h rs) t)

  pub regions_tallied : ℕ → Regions → Tally → Tally
  regions_tallied spare no_regions t = t
  regions_tallied spare (region r rs) t = regions_tallied spare rs (region_tallied spare r t)

  pub region_tallied : ℕ → Region → Tally → Tally
  region_tallied spare empty t = t
  region_tallied spare (block args os) t = ops_tallied spare os t

  pub ops_tallied : ℕ → Ops → Tally → Tally
  ops_tallied spare no_ops t = t
  ops_tallied spare (next o os) t = ops_tallied spare os (tallied (spare - 1) o (inwards spare t))

-- the tally after a walk of the whole tree
abbrev pub tally_of : Op → Tally
tally_of t = record { ops = min (op_count t) (2 ^ 64 - 1); shallow = nat_le (depth t) most_around; fits = every op_fits t }
