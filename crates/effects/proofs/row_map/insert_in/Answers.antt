use Rattle.std.proofs.Common.{◌≡◌, refl, ap, sym, ◌∙◌, subst, cond, Some}
use Rattle.std.specs.BTreeMap.{is_at}
use Rattle.std.specs.Ordering.{nat_cmp}
use Rattle.listeners_support.specs.Map as idmap
use Rattle.effects.specs.RowMaps.{counts_at, zero_counts}
use Rattle.effects.proofs.RowMaps.{written, unchanged_by}
use Rattle.effects.proofs.row_map.insert_in.Goals as goal

pub returns-in-Ok-clause-updates : goal.returns-in-Ok-clause-updates
returns-in-Ok-clause-updates c =
    let heads = c.args.heads.now in
    let a = c.args.sums.now in
    let b = c.clear_counts.new.sums in
    let x = c.args.id in
    written a b heads c.insert.new.self x c.args.row.now
    (subst (λ h. idmap.Updates heads c.insert.new.self x (Some h)) (c.new.ensures ∙ c.head.ensures) c.in-Ok.ensures.updates)
    (λ y. c.clear_counts.ensures y ∙ (λ i. cond (is_at (nat_cmp x) y) (sym c.requires i) (c.reserve_counts.ensures y i)))

pub returns-then-not-reserve_counts-clause-err : goal.returns-then-not-reserve_counts-clause-err
returns-then-not-reserve_counts-clause-err c = unchanged_by c.args.sums.now c.reserve_counts.new.sums c.args.heads.now c.args.heads.now c.reserve_counts.ensures refl

pub returns-in-Err-clause-err : goal.returns-in-Err-clause-err
returns-in-Err-clause-err c = unchanged_by c.args.sums.now c.reserve_counts.new.sums c.args.heads.now c.insert.new.self c.reserve_counts.ensures c.in-Err.ensures.err
