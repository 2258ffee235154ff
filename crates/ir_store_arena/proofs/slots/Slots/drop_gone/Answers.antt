use Rattle.ir_store_arena.proofs.Keys.{kept_sound}
use Rattle.std.proofs.Common.{refl, sym, ap, ◌∙◌, true, false}
use Rattle.ir_store_arena.specs.Contents.{with_operand, with_dictionary, without_gone, dictionary_in}
use Rattle.ir_store_arena.specs.Made.{made_contents}
use Rattle.ir_store_arena.specs.Registry.{contents_at, keyless_contents, vacated_held, respared, Swaps}
use Rattle.ir_store_arena.specs.Gone.{none_gone}
use Rattle.ir_store_arena.specs.Rows.{Row, row_at, row_with_operand, row_with_entry, vacated}
use Rattle.ir_store_arena.specs.Slots.{with_change}
use Rattle.ir_store_arena.specs.trees.Meaning.{key_before_in}
use Rattle.ir_store_arena.proofs.Keys.{swaps_none, add_take, give_swaps, give_reported, spare_swaps, row_inside, operand_inside, row_stands, old_row, entry_reported, written_sound, written_rows, in_both, where_ok, where_err, kept_rows, popped_sound, popped_is}
use Rattle.ir_store_arena.proofs.slots.Slots.drop_gone.Goals as goal

pub drop_gone-requires : goal.drop_gone-requires
drop_gone-requires c =
    let s = c.self.inside.registry in
    let slots = c.self.inside.slots.items in
    let l = row_inside s slots c.args.self.now c.args.slot c.self.view_is c.requires in
    row_stands s slots c.self.invariant c.args.slot c.index.result.now l c.index.ensures

pub returns : goal.returns
returns c =
    let n = c.index.result.now in
    let s = c.self.inside.registry in
    let t = c.drop_gone.new.self in
    let slots = c.self.inside.slots.items in
    let old = c.args.self.now in
    let k = c.args.slot in
    let l = row_inside s slots old k c.self.view_is c.requires in
    let is = c.index.ensures in
    kept_rows s t slots c.self.invariant k n l is (without_gone (contents_at s n.held)) c.drop_gone.ensures old c.self.view_is
    (record (row_at old k) { gone = none_gone }) (ap {A = Row} {B = Row} (λ z. record z { gone = none_gone }) (sym (old_row s slots old k n c.self.view_is l is)))

pub invariant_of-self : goal.invariant_of-self
invariant_of-self c =
    let n = c.index.result.now in
    let s = c.self.inside.registry in
    let slots = c.self.inside.slots.items in
    let l = row_inside s slots c.args.self.now c.args.slot c.self.view_is c.requires in
    kept_sound s c.drop_gone.new.self slots c.self.invariant c.args.slot n l c.index.ensures (without_gone (contents_at s n.held)) c.drop_gone.ensures
