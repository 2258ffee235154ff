use Rattle.std.proofs.Common.{◌≡◌, ◌≤◌, max, drop}
use Rattle.ir_types.specs.Terms.{attrs_at, attr_terms}
use Rattle.ir_types.specs.Depths.{attrs_depth}
use Rattle.ir_types.proofs.context.Context.attrs_depth.Given as goal
use Rattle.ir_types.specs.Limits.{most_depth}

abbrev pub invariant-loop-id : goal.invariant-loop-id
invariant-loop-id l = record {
  depth : max l.greatest (attrs_depth (attrs_at (attr_terms l.self) (drop l.id-index l.ids))) ≡ attrs_depth (attrs_at (attr_terms l.self) l.ids);
  shallow : l.greatest ≤ most_depth;
}
