use Rattle.std.proofs.Common.{◌≡◌, ◌≤◌, max, drop}
use Rattle.ir_types.specs.Terms.{types_at, type_terms}
use Rattle.ir_types.specs.Depths.{types_depth}
use Rattle.ir_types.proofs.context.Context.types_depth.Given as goal
use Rattle.ir_types.specs.Limits.{most_depth}

abbrev pub invariant-loop-id : goal.invariant-loop-id
invariant-loop-id l = record {
  depth : max l.greatest (types_depth (types_at (type_terms l.self) (drop l.id-index l.ids))) ≡ types_depth (types_at (type_terms l.self) l.ids);
  shallow : l.greatest ≤ most_depth;
}
