use Rattle.std.proofs.Common.{◌≡◌, ◌-◌, suc, refl, subst, arith}
use Rattle.std.specs.FinMap as finmap
use Rattle.ir_store_slots.proofs.Descending.{Descends, descends_on}
use Rattle.ir_store_slots.proofs.release.release_ids.Goals as goal

pub ids-preserved : goal.ids-preserved
ids-preserved c =
    let next : c.ids.end ≡ suc (c.ids.end - 1) = omega (arith, c.ids-test.true) in
    descends_on c.args.from c.args.slots.now (finmap.get c.args.keys.now) c.requires.keyed (c.ids.end - 1) c.ids.slots c.ids.keys c.ids.marks.homes
    (subst (λ z. Descends c.args.from z c.args.slots.now c.ids.slots (finmap.get c.args.keys.now) (finmap.get c.ids.keys) c.ids.marks.homes) next c.ids.invariant)
    c.release_id.new.slots c.release_id.new.keys c.release_id.new.marks.homes c.release_id.ensures.marked (finmap.get c.ids.keys (c.ids.end - 1)) refl c.release_id.ensures.slot
