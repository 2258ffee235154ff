use Rattle.std.proofs.Common.{◌≡◌, slice_set, length, ap, ◌∙◌, true, arith}
use Rattle.std.specs.FinMap as finmap
use Rattle.std.proofs.lemmas.List.{set-set, length-set}
use Rattle.ir_store_reads.specs.Rows.{Row, row_at}
use Rattle.ir_store_reads.proofs.Items.{own_row}
use Rattle.ir_store.proofs.store.write_root.Goals as goal

pub set_live-requires : goal.set_live-requires
set_live-requires c = omega (arith, c.requires.inside, ap length c.in-Ok-write_op.ensures.ok, length-set c.args.slots.now c.args.root c.args.draft)

pub returns-clause-key : goal.returns-clause-key
returns-clause-key c = c.in-Ok.ensures.inserted ∙ ap (λ w. finmap.insert c.args.keys.now w c.args.root) c.number.ensures

pub returns-clause-row : goal.returns-clause-row
returns-clause-row c =
    let old = c.args.slots.now in
    let k = c.args.root in
    let put = c.in-Ok-write_op.ensures.ok in
    c.set_live.ensures
    ∙ (λ i. slice_set (put i) k (record (row_at (put i) k) { live = true }))
    ∙ set-set old k c.args.draft (record (row_at (slice_set old k c.args.draft) k) { live = true })
    ∙ ap {A = Row} (λ z. slice_set old k (record z { live = true })) (own_row old k c.args.draft c.requires.inside)
