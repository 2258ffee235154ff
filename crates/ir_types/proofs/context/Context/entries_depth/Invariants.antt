use Rattle.std.proofs.Common.{◌≡◌, ◌≤◌, max, drop}
use Rattle.ir_types.specs.Terms.{entries_at, attr_terms}
use Rattle.ir_types.specs.Depths.{entries_depth}
use Rattle.ir_types.proofs.context.Context.entries_depth.Given as goal
use Rattle.ir_types.specs.Limits.{most_depth}

abbrev pub invariant-loop-entry : goal.invariant-loop-entry
invariant-loop-entry l = record {
  depth : max l.greatest (entries_depth (entries_at l.self.names (attr_terms l.self) (drop l.entry-index l.entries))) ≡ entries_depth (entries_at l.self.names (attr_terms l.self) l.entries);
  shallow : l.greatest ≤ most_depth;
}
