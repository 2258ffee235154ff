use Rattle.std.proofs.Common.{refl, sym, ap, ◌∙◌, true, false}
use Rattle.ir_store_arena.specs.Contents.{with_operand, with_dictionary, without_gone, dictionary_in}
use Rattle.ir_store_arena.specs.Made.{made_contents}
use Rattle.ir_store_arena.specs.Registry.{contents_at, keyless_contents, vacated_held, respared, Swaps}
use Rattle.ir_store_arena.specs.Gone.{none_gone}
use Rattle.ir_store_arena.specs.Rows.{Row, row_at, row_with_operand, row_with_entry, vacated}
use Rattle.ir_store_arena.specs.Slots.{with_change}
use Rattle.ir_store_arena.specs.trees.Meaning.{key_before_in}
use Rattle.ir_store_arena.proofs.Keys.{swaps_none, add_take, give_swaps, give_reported, spare_swaps, row_inside, operand_inside, row_stands, old_row, entry_reported, written_sound, written_rows, in_both, where_ok, where_err, kept_rows, popped_sound, popped_is}
use Rattle.ir_store_arena.proofs.slots.Slots.write_op.Goals as goal

pub invariant_of-self-2 : goal.invariant_of-self-2
invariant_of-self-2 c =
    let n = c.index.result.now in
    let d = c.draft.inside in
    let s = c.self.inside.registry in
    let t = c.remove.new.self in
    let slots = c.self.inside.slots.items in
    let k = c.args.slot in
    let l = row_inside s slots c.args.self.now k c.self.view_is c.requires in
    let is = c.index.ensures in
    let made = made_contents d.made in
    let w = add_take s c.add.new.self t n.held c.in-Ok.held made (row_stands s slots c.self.invariant k n l is) c.in-Ok.ensures c.remove.ensures in
    written_sound s t slots c.self.invariant k n (record { used = true; live = false; id = d.id; name = d.name; uses = d.uses; values = d.values; held = c.in-Ok.held }) l is made w

pub returns-clause-ok : goal.returns-clause-ok
returns-clause-ok c =
    let n = c.index.result.now in
    let d = c.draft.inside in
    let s = c.self.inside.registry in
    let t = c.remove.new.self in
    let slots = c.self.inside.slots.items in
    let old = c.args.self.now in
    let k = c.args.slot in
    let l = row_inside s slots old k c.self.view_is c.requires in
    let is = c.index.ensures in
    let made = made_contents d.made in
    let w = add_take s c.add.new.self t n.held c.in-Ok.held made (row_stands s slots c.self.invariant k n l is) c.in-Ok.ensures c.remove.ensures in
    written_rows s t slots c.self.invariant k n (record { used = true; live = false; id = d.id; name = d.name; uses = d.uses; values = d.values; held = c.in-Ok.held }) l is made w old c.self.view_is c.args.draft c.draft.view_is
