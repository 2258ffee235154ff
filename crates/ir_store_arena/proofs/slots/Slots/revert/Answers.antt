use Rattle.ir_store_arena.proofs.Keys.{kept_sound}
use Rattle.std.proofs.Common.{refl, sym, ap, ◌∙◌, true, false}
use Rattle.ir_store_arena.specs.Contents.{with_operand, with_dictionary, without_gone, dictionary_in}
use Rattle.ir_store_arena.specs.Made.{made_contents}
use Rattle.ir_store_arena.specs.Registry.{contents_at, keyless_contents, vacated_held, respared, Swaps}
use Rattle.ir_store_arena.specs.Gone.{none_gone}
use Rattle.ir_store_arena.specs.Rows.{Row, row_at, row_with_operand, row_with_entry, vacated}
use Rattle.ir_store_arena.specs.Slots.{with_change}
use Rattle.ir_store_arena.specs.trees.Meaning.{key_before_in}
use Rattle.ir_store_arena.proofs.Keys.{swaps_none, add_take, give_swaps, give_reported, spare_swaps, row_inside, operand_inside, row_stands, old_row, entry_reported, written_sound, written_rows, in_both, where_ok, where_err, kept_rows, popped_sound, popped_is}
use Rattle.ir_store_arena.proofs.slots.Slots.revert.Goals as goal

pub returns : goal.returns
returns c =
    let n = c.index.result.now in
    let s = c.self.inside.registry in
    let t = c.revert.new.self in
    let slots = c.self.inside.slots.items in
    let old = c.args.self.now in
    let k = c.args.slot in
    let before = key_before_in c.args.ctx.now in
    let l = row_inside s slots old k c.self.view_is c.requires.inside in
    let is = c.index.ensures in
    let was = contents_at s n.held in
    kept_rows s t slots c.self.invariant k n l is (with_dictionary c.args.part (with_change before c.args.key c.args.value (dictionary_in c.args.part was)) was) c.revert.ensures old c.self.view_is
    (row_with_entry before c.args.part c.args.key c.args.value (row_at old k))
    (entry_reported n before c.args.part c.args.key c.args.value was ∙ ap (row_with_entry before c.args.part c.args.key c.args.value) (sym (old_row s slots old k n c.self.view_is l is)))

pub invariant_of-self : goal.invariant_of-self
invariant_of-self c =
    let n = c.index.result.now in
    let s = c.self.inside.registry in
    let slots = c.self.inside.slots.items in
    let l = row_inside s slots c.args.self.now c.args.slot c.self.view_is c.requires.inside in
    kept_sound s c.revert.new.self slots c.self.invariant c.args.slot n l c.index.ensures (with_dictionary c.args.part (with_change (key_before_in c.args.ctx.now) c.args.key c.args.value (dictionary_in c.args.part (contents_at s n.held))) (contents_at s n.held)) c.revert.ensures
