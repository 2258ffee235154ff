use Rattle.std.proofs.lemmas.List.{set-get_or}
use Rattle.ir_store_arena.specs.Rows.{no_row}
use Rattle.std.proofs.Common.{◌≡◌, refl, sym, subst, ap, ◌∙◌, true, false}
use Rattle.ir_store_arena.specs.Contents.{with_operand, with_dictionary, without_gone, dictionary_in}
use Rattle.ir_store_arena.specs.Made.{made_contents}
use Rattle.ir_store_arena.specs.Registry.{contents_at, keyless_contents, vacated_held, respared, Swaps}
use Rattle.ir_store_arena.specs.Gone.{none_gone}
use Rattle.ir_store_arena.specs.Rows.{Row, row_at, row_with_operand, row_with_entry, slots_in, vacated}
use Rattle.ir_store_arena.specs.Slots.{Slots, with_change, NeedsNoSlot}
use Rattle.ir_store_arena.specs.trees.Meaning.{key_before_in, rises}
use Rattle.ir_store_arena.proofs.Keys.{swaps_none, add_take, give_swaps, give_reported, spare_swaps, row_inside, operand_inside, row_stands, old_row, entry_reported, slots_reported, written_sound, written_rows, in_both, where_ok, where_err, kept_rows, popped_sound, popped_is}
use Rattle.ir_store_arena.proofs.slots.Slots.change.Goals as goal

pub change-requires-clause-there : goal.change-requires-clause-there
change-requires-clause-there c =
    let s = c.self.inside.registry in
    let slots = c.self.inside.slots.items in
    let l = row_inside s slots c.args.self.now c.args.slot c.self.view_is c.requires.inside in
    row_stands s slots c.self.invariant c.args.slot c.index_mut-row.result.now l c.index_mut-row.ensures.value

pub invariant_of-self : goal.invariant_of-self
invariant_of-self c =
    let n = c.index_mut-row.result.now in
    let m = record n { held = c.change.new.held } in
    let s = c.self.inside.registry in
    let t = c.change.new.self in
    let slots = c.self.inside.slots.items in
    let k = c.args.slot in
    let was = contents_at s n.held in
    let will = with_dictionary c.args.part (with_change (key_before_in c.args.ctx.now) c.args.key c.args.value (dictionary_in c.args.part was)) was in
    let l = row_inside s slots c.args.self.now k c.self.view_is c.requires.inside in
    let is = c.index_mut-row.ensures.value in
    in_both c.change.result (Swaps s t n.held m.held will) (Swaps s t n.held m.held was) _ c.change.ensures.swaps
    (λ w. written_sound s t slots c.self.invariant k n m l is will w)
    (λ w. written_sound s t slots c.self.invariant k n m l is was w)

pub returns-clause-ok : goal.returns-clause-ok
returns-clause-ok c =
    let n = c.index_mut-row.result.now in
    let m = record n { held = c.change.new.held } in
    let s = c.self.inside.registry in
    let t = c.change.new.self in
    let slots = c.self.inside.slots.items in
    let old = c.args.self.now in
    let k = c.args.slot in
    let before = key_before_in c.args.ctx.now in
    let was = contents_at s n.held in
    let will = with_dictionary c.args.part (with_change before c.args.key c.args.value (dictionary_in c.args.part was)) was in
    let l = row_inside s slots old k c.self.view_is c.requires.inside in
    let is = c.index_mut-row.ensures.value in
    where_ok c.change.result (Swaps s t n.held m.held will) (Swaps s t n.held m.held was) _ c.change.ensures.swaps
    (λ w. written_rows s t slots c.self.invariant k n m l is will w old c.self.view_is (row_with_entry before c.args.part c.args.key c.args.value (row_at old k))
    (entry_reported m before c.args.part c.args.key c.args.value was ∙ ap (row_with_entry before c.args.part c.args.key c.args.value) (sym (old_row s slots old k n c.self.view_is l is))))

pub returns-clause-err : goal.returns-clause-err
returns-clause-err c =
    let n = c.index_mut-row.result.now in
    let m = record n { held = c.change.new.held } in
    let s = c.self.inside.registry in
    let t = c.change.new.self in
    let slots = c.self.inside.slots.items in
    let old = c.args.self.now in
    let k = c.args.slot in
    let was = contents_at s n.held in
    let will = with_dictionary c.args.part (with_change (key_before_in c.args.ctx.now) c.args.key c.args.value (dictionary_in c.args.part was)) was in
    let l = row_inside s slots old k c.self.view_is c.requires.inside in
    let is = c.index_mut-row.ensures.value in
    where_err c.change.result (Swaps s t n.held m.held will) (Swaps s t n.held m.held was) _ c.change.ensures.swaps
    (λ w. written_rows s t slots c.self.invariant k n m l is was w old c.self.view_is (row_at old k) (sym (old_row s slots old k n c.self.view_is l is)) ∙ set-get_or old k no_row)

pub returns-clause-slot : goal.returns-clause-slot
returns-clause-slot c sorted wants =
    let n = c.index_mut-row.result.now in
    let s = c.self.inside.registry in
    let slots = c.self.inside.slots.items in
    let old = c.args.self.now in
    let k = c.args.slot in
    let part = c.args.part in
    let before = key_before_in c.args.ctx.now in
    let l = row_inside s slots old k c.self.view_is c.requires.inside in
    let e : slots_in part (row_at old k) ≡ dictionary_in part (contents_at s n.held) = ap (slots_in part) (old_row s slots old k n c.self.view_is l c.index_mut-row.ensures.value) ∙ slots_reported n part (contents_at s n.held) in
    c.change.ensures.slot
    (subst (λ z. rises before z.present ≡ true) e sorted)
    (subst (NeedsNoSlot c.args.key c.args.value) e wants)
