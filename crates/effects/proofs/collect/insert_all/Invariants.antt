use Rattle.std.proofs.Common.{drop}
use Rattle.effects.specs.Points.{Rows}
use Rattle.effects.specs.Walks.{row_at}
use Rattle.effects.specs.Effects.{own_by}
use Rattle.effects.specs.Following.{PutAll}
use Rattle.effects.specs.Found.{head_at, parent_at, points_by}
use Rattle.effects.proofs.collect.insert_all.Given as goal

abbrev pub invariant-loop-op : goal.invariant-loop-op
invariant-loop-op l =
    (b : Rows) → PutAll (points_by (own_by l.world.ctx) (parent_at l.world.store) (head_at l.world.store) (drop l.op-index l.ops)) (row_at l.rows) b
    → PutAll (points_by (own_by l.world.ctx) (parent_at l.world.store) (head_at l.world.store) l.ops) (row_at l.initial.rows) b
