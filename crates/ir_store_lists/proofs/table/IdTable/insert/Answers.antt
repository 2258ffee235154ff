use Rattle.std.proofs.Common.{◌<◌, ap, Some, ◌∙◌, set, length, arith}
use Rattle.std.specs.Ordering.{nat_cmp}
use Rattle.std.specs.BTreeMap as sorted
use Rattle.std.specs.FinMap as map
use Rattle.ir_store_lists.specs.Slots.{slot_in, map_is}
use Rattle.ir_store_lists.proofs.Paged.{put_paged, add_paged, far_paged, raised_ends, add_ends, far_ends}
use Rattle.ir_store_lists.proofs.Tables.{add_known, add_inserted, add_refused, near_changed, some_slot, changed, inserted, put_known, put_inserted, put_refused}
use Rattle.ir_store_lists.proofs.table.IdTable.insert.Goals as goal

pub invariant_of-self-inside : goal.invariant_of-self-inside
invariant_of-self-inside c =
    let near = c.self.inside.near.items in
    let far = sorted.get nat_cmp c.self.inside.far in
    let l : c.args.id < length near = omega (arith, c.if-place-len.true, c.len.ensures, c.self.inside.near.ok.0) in (
      (
        map.insert c.self.inside.known.0 c.args.id c.args.slot,
        inserted (slot_in near far) (slot_in (set near c.args.id c.args.slot) far) c.args.id c.self.inside.known c.args.slot
            (λ x. near_changed near far c.args.id c.args.slot l x ∙ ap (λ o. changed c.args.id o (slot_in near far) x) (some_slot c.args.slot c.requires)),
      ),
      (
        put_paged c.self.inside.pages.items c.forget.new.pages.items (slot_in near far) (slot_in (set near c.args.id c.args.slot) far) c.args.id c.self.inside.paged c.forget.ensures c.learn.new.pages.items c.args.slot c.learn.ensures
            (λ x. near_changed near far c.args.id c.args.slot l x ∙ ap (λ o. changed c.args.id o (slot_in near far) x) (some_slot c.args.slot c.requires)),
        (
          raised_ends c.self.inside.end c.raised-self-inside.result (slot_in near far) (slot_in (set near c.args.id c.args.slot) far) c.args.id c.self.inside.ended c.raised-self-inside.ensures.above (Some c.args.slot)
              (λ x. near_changed near far c.args.id c.args.slot l x ∙ ap (λ o. changed c.args.id o (slot_in near far) x) (some_slot c.args.slot c.requires)),
          (c.raised-self-inside.ensures.few c.self.inside.few, tt),
        ),
      ),
    )

pub returns-then-place-len-clause-inserted : goal.returns-then-place-len-clause-inserted
returns-then-place-len-clause-inserted c =
    let near = c.self.inside.near.items in
    let far = sorted.get nat_cmp c.self.inside.far in
    let l : c.args.id < length near = omega (arith, c.if-place-len.true, c.len.ensures, c.self.inside.near.ok.0) in
    map_is (slot_in (set near c.args.id c.args.slot) far) c.self-then-place-len-1.given.0 (map.insert c.self.inside.known.0 c.args.id c.args.slot)
    (inserted (slot_in near far) (slot_in (set near c.args.id c.args.slot) far) c.args.id c.self.inside.known c.args.slot
    (λ x. near_changed near far c.args.id c.args.slot l x ∙ ap (λ o. changed c.args.id o (slot_in near far) x) (some_slot c.args.slot c.requires)))
    ∙ ap (λ z. map.insert z c.args.id c.args.slot) c.self.view_is

pub invariant_of-self-inside-then-place-len-2 : goal.invariant_of-self-inside-then-place-len-2
invariant_of-self-inside-then-place-len-2 c = (
  add_known c.self.inside.near.items c.add.new.near.items (sorted.get nat_cmp c.self.inside.far) c.args.id c.args.slot
      (omega (arith, c.if-place-len-2.true, c.len-2.ensures, c.self.inside.near.ok.0)) c.requires c.self.inside.known c.add.result c.add.ensures.near,
  (
    add_paged c.self.inside.near.items c.add.new.near.items (sorted.get nat_cmp c.self.inside.far) c.args.id c.args.slot
        (omega (arith, c.if-place-len-2.true, c.len-2.ensures, c.self.inside.near.ok.0)) c.requires c.self.inside.pages.items c.forget.new.pages.items c.add.new.pages.items c.self.inside.paged c.forget.ensures c.add.result c.add.ensures.near c.add.ensures.pages,
    (
      add_ends c.self.inside.near.items c.add.new.near.items (sorted.get nat_cmp c.self.inside.far) c.args.id c.args.slot
          (omega (arith, c.if-place-len-2.true, c.len-2.ensures, c.self.inside.near.ok.0)) c.requires c.self.inside.end c.raised-self-inside.result c.self.inside.ended c.raised-self-inside.ensures.above c.add.result c.add.ensures.near,
      (c.raised-self-inside.ensures.few c.self.inside.few, tt),
    ),
  ),
)

pub returns-then-place-len-2-clause-inserted : goal.returns-then-place-len-2-clause-inserted
returns-then-place-len-2-clause-inserted c =
    add_inserted c.self.inside.near.items c.add.new.near.items (sorted.get nat_cmp c.self.inside.far) c.args.id c.args.slot
    (omega (arith, c.if-place-len-2.true, c.len-2.ensures, c.self.inside.near.ok.0)) c.requires c.self.inside.known c.args.self.now c.self.view_is c.self-then-place-len-2-1.given.0 c.add.result c.add.ensures.near

pub returns-then-place-len-2-clause-refused : goal.returns-then-place-len-2-clause-refused
returns-then-place-len-2-clause-refused c =
    add_refused c.self.inside.near.items c.add.new.near.items (sorted.get nat_cmp c.self.inside.far) c.args.id c.args.slot
    (omega (arith, c.if-place-len-2.true, c.len-2.ensures, c.self.inside.near.ok.0)) c.requires c.self.inside.known c.args.self.now c.self.view_is c.self-then-place-len-2-1.given.0 c.add.result c.add.ensures.near

pub invariant_of-self-inside-2 : goal.invariant_of-self-inside-2
invariant_of-self-inside-2 c = (
  put_known c.self.inside.near.items (sorted.get nat_cmp c.self.inside.far) (sorted.get nat_cmp c.insert_far.new.far) c.args.id c.args.slot
      (omega (arith, c.if-place-len.false, c.len.ensures, c.self.inside.near.ok.0)) c.self.inside.known c.insert_far.result c.insert_far.ensures,
  (
    far_paged c.self.inside.near.items (sorted.get nat_cmp c.self.inside.far) (sorted.get nat_cmp c.insert_far.new.far) c.args.id c.args.slot
        (omega (arith, c.if-place-len.false, c.len.ensures, c.self.inside.near.ok.0)) c.self.inside.pages.items c.forget.new.pages.items c.self.inside.paged c.forget.ensures c.insert_far.result c.insert_far.ensures,
    (
      far_ends c.self.inside.near.items (sorted.get nat_cmp c.self.inside.far) (sorted.get nat_cmp c.insert_far.new.far) c.args.id c.args.slot
          (omega (arith, c.if-place-len.false, c.len.ensures, c.self.inside.near.ok.0)) c.self.inside.end c.raised-self-inside.result c.self.inside.ended c.raised-self-inside.ensures.above c.insert_far.result c.insert_far.ensures,
      (c.raised-self-inside.ensures.few c.self.inside.few, tt),
    ),
  ),
)

pub returns-clause-inserted : goal.returns-clause-inserted
returns-clause-inserted c =
    put_inserted c.self.inside.near.items (sorted.get nat_cmp c.self.inside.far) (sorted.get nat_cmp c.insert_far.new.far) c.args.id c.args.slot
    (omega (arith, c.if-place-len.false, c.len.ensures, c.self.inside.near.ok.0)) c.self.inside.known c.args.self.now c.self.view_is c.self-2-1.given.0 c.insert_far.result c.insert_far.ensures

pub returns-clause-refused : goal.returns-clause-refused
returns-clause-refused c =
    put_refused c.self.inside.near.items (sorted.get nat_cmp c.self.inside.far) (sorted.get nat_cmp c.insert_far.new.far) c.args.id c.args.slot
    (omega (arith, c.if-place-len.false, c.len.ensures, c.self.inside.near.ok.0)) c.self.inside.known c.args.self.now c.self.view_is c.self-2-1.given.0 c.insert_far.result c.insert_far.ensures
