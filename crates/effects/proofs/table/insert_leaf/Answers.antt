use Rattle.std.proofs.Common.{◌≡◌, true, rules}
use Rattle.effects.specs.Walks.{row_at}
use Rattle.effects.proofs.Changes.{put_more, on_true_more, on_true_is}
use Rattle.effects.proofs.table.insert_leaf.Goals as goal

pub returns : goal.returns
returns c =
    let yes : c.add.result ≡ true = search rules in
    on_true_more c.gain.result _ _
    (λ up. put_more (row_at c.args.rows.now) (row_at c.add.new.rows) (row_at c.gain.new.rows) c.args.op c.args.parent c.args.own.now c.leaf-row.result c.leaf-row.ensures (on_true_is c.add.result _ yes c.add.ensures) up)
    c.gain.ensures
