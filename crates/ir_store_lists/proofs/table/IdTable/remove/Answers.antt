use Rattle.std.proofs.Common.{◌≤◌, ◌<◌, ap, ◌∙◌, set, None, length, arith}
use Rattle.std.specs.Ordering.{nat_cmp}
use Rattle.std.specs.BTreeMap as sorted
use Rattle.std.specs.FinMap as map
use Rattle.ir_store_lists.specs.Slots.{no_slot, slot_in, map_is}
use Rattle.ir_store_lists.proofs.Paged.{others_paged, lowered_ends}
use Rattle.ir_store_lists.proofs.Tables.{near_changed, far_changed, removed}
use Rattle.ir_store_lists.proofs.table.IdTable.remove.Goals as goal

pub invariant_of-self-inside : goal.invariant_of-self-inside
invariant_of-self-inside c =
    let near = c.self.inside.near.items in
    let far = sorted.get nat_cmp c.self.inside.far in
    let l : c.args.id < length near = omega (arith, c.if-place-len.true, c.len.ensures, c.self.inside.near.ok.0) in (
      (
        map.remove c.self.inside.known.0 c.args.id,
        removed (slot_in near far) (slot_in (set near c.args.id no_slot) far) c.args.id c.self.inside.known (near_changed near far c.args.id no_slot l),
      ),
      (others_paged c.self.inside.pages.items c.forget.new.pages.items (slot_in near far) (slot_in (set near c.args.id no_slot) far) c.args.id c.self.inside.paged c.forget.ensures None (near_changed near far c.args.id no_slot l), (lowered_ends c.self.inside.end c.lowered-self-inside.result (slot_in near far) (slot_in (set near c.args.id no_slot) far) c.args.id c.self.inside.ended c.lowered-self-inside.ensures.above (near_changed near far c.args.id no_slot l), (omega (arith, c.lowered-self-inside.ensures.few, c.self.inside.few), tt))),
    )

pub invariant_of-self-inside-else-place-len : goal.invariant_of-self-inside-else-place-len
invariant_of-self-inside-else-place-len c =
    let near = c.self.inside.near.items in
    let far = sorted.get nat_cmp c.self.inside.far in
    let far' = sorted.get nat_cmp c.drop_id.new.far in
    let l : length near ≤ c.args.id = omega (arith, c.if-place-len.false, c.len.ensures, c.self.inside.near.ok.0) in (
      (
        map.remove c.self.inside.known.0 c.args.id,
        removed (slot_in near far) (slot_in near far') c.args.id c.self.inside.known (far_changed near far far' c.args.id None l c.drop_id.ensures),
      ),
      (others_paged c.self.inside.pages.items c.forget.new.pages.items (slot_in near far) (slot_in near far') c.args.id c.self.inside.paged c.forget.ensures None (far_changed near far far' c.args.id None l c.drop_id.ensures), (lowered_ends c.self.inside.end c.lowered-self-inside.result (slot_in near far) (slot_in near far') c.args.id c.self.inside.ended c.lowered-self-inside.ensures.above (far_changed near far far' c.args.id None l c.drop_id.ensures), (omega (arith, c.lowered-self-inside.ensures.few, c.self.inside.few), tt))),
    )

pub returns-then-place-len : goal.returns-then-place-len
returns-then-place-len c =
    let near = c.self.inside.near.items in
    let far = sorted.get nat_cmp c.self.inside.far in
    let l : c.args.id < length near = omega (arith, c.if-place-len.true, c.len.ensures, c.self.inside.near.ok.0) in
    map_is (slot_in (set near c.args.id no_slot) far) c.self-then-place-len-1.given.0 (map.remove c.self.inside.known.0 c.args.id)
    (removed (slot_in near far) (slot_in (set near c.args.id no_slot) far) c.args.id c.self.inside.known (near_changed near far c.args.id no_slot l))
    ∙ ap (λ z. map.remove z c.args.id) c.self.view_is

pub returns-else-place-len : goal.returns-else-place-len
returns-else-place-len c =
    let near = c.self.inside.near.items in
    let far = sorted.get nat_cmp c.self.inside.far in
    let far' = sorted.get nat_cmp c.drop_id.new.far in
    let l : length near ≤ c.args.id = omega (arith, c.if-place-len.false, c.len.ensures, c.self.inside.near.ok.0) in
    map_is (slot_in near far') c.self-else-place-len-1.given.0 (map.remove c.self.inside.known.0 c.args.id)
    (removed (slot_in near far) (slot_in near far') c.args.id c.self.inside.known (far_changed near far far' c.args.id None l c.drop_id.ensures))
    ∙ ap (λ z. map.remove z c.args.id) c.self.view_is
