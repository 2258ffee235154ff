use Rattle.std.proofs.Common.{refl, sym, ap, ◌∙◌, true, false}
use Rattle.ir_store_arena.specs.Contents.{with_operand, with_dictionary, without_gone, dictionary_in}
use Rattle.ir_store_arena.specs.Made.{made_contents}
use Rattle.ir_store_arena.specs.Registry.{contents_at, keyless_contents, vacated_held, respared, Swaps}
use Rattle.ir_store_arena.specs.Gone.{none_gone}
use Rattle.ir_store_arena.specs.Rows.{Row, row_at, row_with_operand, row_with_entry, vacated}
use Rattle.ir_store_arena.specs.Slots.{with_change}
use Rattle.ir_store_arena.specs.trees.Meaning.{key_before_in}
use Rattle.ir_store_arena.proofs.Keys.{swaps_none, add_take, give_swaps, give_reported, spare_swaps, row_inside, operand_inside, row_stands, old_row, entry_reported, written_sound, written_rows, in_both, where_ok, where_err, kept_rows, popped_sound, popped_is}
use Rattle.ir_store_arena.proofs.slots.Slots.free.Goals as goal

pub invariant_of-self : goal.invariant_of-self
invariant_of-self c =
    let n = c.index_mut-row.result.now in
    let s = c.self.inside.registry in
    let t = c.remove.new.self in
    let slots = c.self.inside.slots.items in
    let k = c.args.slot in
    let l = row_inside s slots c.args.self.now k c.self.view_is c.requires in
    let is = c.index_mut-row.ensures.value in
    rw c.vacated-row.ensures (written_sound s t slots c.self.invariant k n (record n { used = false; held = vacated_held c.args.before n.held }) l is (keyless_contents n.held) (give_swaps s t n.held c.args.before c.remove.ensures))

pub returns : goal.returns
returns c =
    let n = c.index_mut-row.result.now in
    let s = c.self.inside.registry in
    let t = c.remove.new.self in
    let slots = c.self.inside.slots.items in
    let old = c.args.self.now in
    let k = c.args.slot in
    let l = row_inside s slots old k c.self.view_is c.requires in
    let is = c.index_mut-row.ensures.value in
    rw c.vacated-row.ensures (written_rows s t slots c.self.invariant k n (record n { used = false; held = vacated_held c.args.before n.held }) l is (keyless_contents n.held) (give_swaps s t n.held c.args.before c.remove.ensures) old c.self.view_is
    (vacated (row_at old k)) (give_reported s n c.args.before ∙ ap vacated (sym (old_row s slots old k n c.self.view_is l is))))
