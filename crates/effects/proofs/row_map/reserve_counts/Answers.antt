use Rattle.std.proofs.Common.{◌≡◌, sym, ◌∙◌, subst, false, Some, rules}
use Rattle.listeners_support.specs.Map as idmap
use Rattle.effects.proofs.RowMaps.{counts_added, counts_same, none_of}
use Rattle.effects.proofs.row_map.reserve_counts.Goals as goal

pub returns-in-Ok : goal.returns-in-Ok
returns-in-Ok c y =
    let no : c.contains_key.result ≡ false = search rules in
    counts_added c.args.sums.now c.insert.new.self c.args.id (none_of _ (sym c.contains_key.ensures ∙ no))
    (subst (λ k. idmap.Updates c.args.sums.now c.insert.new.self c.args.id (Some k)) c.zero.ensures c.in-Ok.ensures.updates) y

pub returns-in-Err : goal.returns-in-Err
returns-in-Err c y = counts_same c.args.sums.now c.insert.new.self c.in-Err.ensures.err y
