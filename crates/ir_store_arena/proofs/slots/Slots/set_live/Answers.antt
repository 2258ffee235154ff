use Rattle.std.proofs.Common.{refl, sym, ap, ◌∙◌, true, false}
use Rattle.ir_store_arena.specs.Contents.{with_operand, with_dictionary, without_gone, dictionary_in}
use Rattle.ir_store_arena.specs.Made.{made_contents}
use Rattle.ir_store_arena.specs.Registry.{contents_at, keyless_contents, vacated_held, respared, Swaps}
use Rattle.ir_store_arena.specs.Gone.{none_gone}
use Rattle.ir_store_arena.specs.Rows.{Row, row_at, row_with_operand, row_with_entry, vacated}
use Rattle.ir_store_arena.specs.Slots.{with_change}
use Rattle.ir_store_arena.specs.trees.Meaning.{key_before_in}
use Rattle.ir_store_arena.proofs.Keys.{swaps_none, add_take, give_swaps, give_reported, spare_swaps, row_inside, operand_inside, row_stands, old_row, entry_reported, written_sound, written_rows, in_both, where_ok, where_err, kept_rows, popped_sound, popped_is}
use Rattle.ir_store_arena.proofs.slots.Slots.set_live.Goals as goal

pub invariant_of-self : goal.invariant_of-self
invariant_of-self c =
    let n = c.index_mut-row.result.now in
    let s = c.self.inside.registry in
    let slots = c.self.inside.slots.items in
    let l = row_inside s slots c.args.self.now c.args.slot c.self.view_is c.requires in
    let is = c.index_mut-row.ensures.value in
    written_sound s s slots c.self.invariant c.args.slot n (record n { live = c.args.live }) l is (contents_at s n.held) (swaps_none s n.held (row_stands s slots c.self.invariant c.args.slot n l is))

pub returns : goal.returns
returns c =
    let n = c.index_mut-row.result.now in
    let s = c.self.inside.registry in
    let slots = c.self.inside.slots.items in
    let old = c.args.self.now in
    let k = c.args.slot in
    let l = row_inside s slots old k c.self.view_is c.requires in
    let is = c.index_mut-row.ensures.value in
    written_rows s s slots c.self.invariant k n (record n { live = c.args.live }) l is (contents_at s n.held) (swaps_none s n.held (row_stands s slots c.self.invariant k n l is)) old c.self.view_is
    (record (row_at old k) { live = c.args.live }) (ap {A = Row} {B = Row} (λ z. record z { live = c.args.live }) (sym (old_row s slots old k n c.self.view_is l is)))
