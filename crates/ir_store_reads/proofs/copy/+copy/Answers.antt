use Rattle.std.proofs.Common.{arith, ◌∙◌, sym, ap, subst, get_or}
use Rattle.std.proofs.lemmas.List.{get_or_default}
use Rattle.ir_store_slots.specs.Plans.{AllHeads}
use Rattle.ir_store_slots.specs.Right.{Live}
use Rattle.ir_store_reads.proofs.Copied.{copied_region, copied_op, heads_at}
use Rattle.ir_store_reads.proofs.copy.+copy.Goals as goal

pub copy_op-copy_regions-requires : goal.copy_op-copy_regions-requires
copy_op-copy_regions-requires t c =
    let live : Live c.args.slots.now c.args.key.now = record { live = sym c.is_live.ensures ∙ c.if-not-is_live.false } in
    (omega (arith, c.decreases, c.if-levels-eq0.false), (c.requires, subst (AllHeads c.args.sibs.now.homes) (sym c.areas.ensures) (c.requires c.args.key.now live)))

pub copy_region-loop-key-preserved : goal.copy_region-loop-key-preserved
copy_region-loop-key-preserved t c =
    copied_op c.args.slots.now c.args.sibs.now.lists c.deref-key-items.result.now c.loop-key.key-index (get_or c.deref-key-items.result.now c.loop-key.key-index 0) c.loop-key.ops.items c.push.new.self.items c.in_ok-op-in-Block.op c.loop-key-test.true (get_or_default c.deref-key-items.result.now c.loop-key.key-index 0 (get_or c.deref-key-items.result.now c.loop-key.key-index 0) c.loop-key-test.true) c.loop-key.invariant c.in_ok-op-in-Block.ensures c.in_ok-push-in-Block.ensures.items

pub copy_regions-copy_region-requires : goal.copy_regions-copy_region-requires
copy_regions-copy_region-requires t c =
    (omega (arith, c.decreases), (c.requires.slots, heads_at c.args.sibs.now.homes c.args.areas.now c.loop-area.area-index c.area-item.result c.loop-area-test.true c.area-item.is c.requires.heads))

pub copy_regions-loop-area-preserved : goal.copy_regions-loop-area-preserved
copy_regions-loop-area-preserved t c =
    copied_region c.args.slots.now c.args.sibs.now.lists c.args.areas.now c.loop-area.area-index c.area-item.result c.loop-area.regions.items c.push.new.self.items c.in_ok-region.region c.loop-area-test.true c.area-item.is c.loop-area.invariant c.in_ok-region.ensures c.in_ok-push.ensures.items
