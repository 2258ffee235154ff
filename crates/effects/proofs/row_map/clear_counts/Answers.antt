use Rattle.std.proofs.Common.{subst, Some}
use Rattle.std.specs.Bool.{OnTrue}
use Rattle.listeners_support.specs.Map as idmap
use Rattle.effects.proofs.RowMaps.{counts_cleared}
use Rattle.effects.proofs.row_map.clear_counts.Goals as goal

pub returns : goal.returns
returns c y =
    counts_cleared c.args.sums.now c.write.new.self c.args.id c.write.result c.write.ensures.had
    (subst (λ k. OnTrue c.write.result (idmap.Updates c.args.sums.now c.write.new.self c.args.id (Some k))) c.zero.ensures c.write.ensures.updates)
    c.write.ensures.none y
