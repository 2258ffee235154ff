use Rattle.std.proofs.Common.{◌<◌, length, arith, slice_get, get_or}
use Rattle.std.proofs.lemmas.List.{set-get_or}
use Rattle.ir_store_arena.specs.Rows.{no_row}
use Rattle.std.proofs.Common.{refl, sym, ap, ◌∙◌, true, false}
use Rattle.ir_store_arena.specs.Contents.{with_operand, with_dictionary, without_gone, dictionary_in}
use Rattle.ir_store_arena.specs.Made.{made_contents}
use Rattle.ir_store_arena.specs.Registry.{contents_at, keyless_contents, vacated_held, respared, Swaps}
use Rattle.ir_store_arena.specs.Gone.{none_gone}
use Rattle.ir_store_arena.specs.Rows.{Row, row_at, row_with_operand, row_with_entry, vacated}
use Rattle.ir_store_arena.specs.Slots.{with_change}
use Rattle.ir_store_arena.specs.trees.Meaning.{key_before_in}
use Rattle.ir_store_arena.proofs.Keys.{swaps_none, add_take, give_swaps, give_reported, spare_swaps, row_inside, operand_inside, row_stands, old_row, entry_reported, written_sound, written_rows, in_both, where_ok, where_err, kept_rows, popped_sound, popped_is}
use Rattle.ir_store_arena.proofs.slots.Slots.set_spare.Goals as goal

pub invariant_of-self : goal.invariant_of-self
invariant_of-self c =
    let n = c.index_mut-row.result.now in
    let s = c.self.inside.registry in
    let slots = c.self.inside.slots.items in
    let k = c.args.slot in
    let l : k < length slots = omega (arith, c.if-slot-len.false, c.len.ensures) in
    let is = c.index_mut-row.ensures.value in
    rw c.spare_before-row.ensures (written_sound s s slots c.self.invariant k n (record n { held = respared c.args.before n.held }) l is (contents_at s n.held) (spare_swaps s n.held c.args.before (row_stands s slots c.self.invariant k n l is)))

pub returns : goal.returns
returns c =
    let n = c.index_mut-row.result.now in
    let s = c.self.inside.registry in
    let slots = c.self.inside.slots.items in
    let old = c.args.self.now in
    let k = c.args.slot in
    let l : k < length slots = omega (arith, c.if-slot-len.false, c.len.ensures) in
    let is = c.index_mut-row.ensures.value in
    rw c.spare_before-row.ensures (written_rows s s slots c.self.invariant k n (record n { held = respared c.args.before n.held }) l is (contents_at s n.held) (spare_swaps s n.held c.args.before (row_stands s slots c.self.invariant k n l is)) old c.self.view_is (row_at old k)
    (sym (old_row s slots old k n c.self.view_is l is)) ∙ set-get_or old k no_row)
