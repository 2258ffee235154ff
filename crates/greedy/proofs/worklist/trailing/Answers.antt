use Rattle.std.proofs.Common.{rules}
use Rattle.std.proofs.lemmas.List.Sorted.{IsPartitionPoint-from_clause}
use Rattle.ir_event.specs.tree_laws.Reads.{precedes}
use Rattle.greedy.proofs.Works.{falls_parts, parted_at}
use Rattle.greedy.proofs.worklist.trailing.Goals as goal

pub returns-clause-parted : goal.returns-clause-parted
returns-clause-parted g c =
    let t = (g.R.GreedyRewriter.held c.args.bench.now).tree in
    let d = g.R.GreedyRewriter.distinct _ c.is_wellformed.ensures in
    parted_at t d c.args.op _ _ (IsPartitionPoint-from_clause (λ z. precedes c.args.op z t) _ _ c.partition_point.ensures.partitioned (falls_parts t d c.args.op _ c.requires) (λ a r f k. search rules))
