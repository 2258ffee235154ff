use Rattle.std.proofs.Common.{◌≡◌, ◌++◌, ◌∷◌, [], subst}
use Rattle.std.specs.Option.{option_to_list}
use Rattle.ir_store_arena.specs.Rows.{IsSound}
use Rattle.std.proofs.Common.{refl, sym, ap, ◌∙◌, true, false}
use Rattle.ir_store_arena.specs.Contents.{with_operand, with_dictionary, without_gone, dictionary_in}
use Rattle.ir_store_arena.specs.Made.{made_contents}
use Rattle.ir_store_arena.specs.Registry.{contents_at, keyless_contents, vacated_held, respared, Swaps}
use Rattle.ir_store_arena.specs.Gone.{none_gone}
use Rattle.ir_store_arena.specs.Rows.{Row, row_at, row_with_operand, row_with_entry, vacated}
use Rattle.ir_store_arena.specs.Slots.{with_change}
use Rattle.ir_store_arena.specs.trees.Meaning.{key_before_in}
use Rattle.ir_store_arena.proofs.Keys.{swaps_none, add_take, give_swaps, give_reported, spare_swaps, row_inside, operand_inside, row_stands, old_row, entry_reported, written_sound, written_rows, in_both, where_ok, where_err, kept_rows, popped_sound, popped_is}
use Rattle.ir_store_arena.proofs.slots.Slots.pop.Goals as goal

pub invariant_of-self : goal.invariant_of-self
invariant_of-self c =
    let s = c.self.inside.registry in
    let t = c.remove.new.self in
    let xs = c.pop.new.self.items in
    let e : c.self.inside.slots.items ≡ xs ++ c.in-Some.row ∷ [] = c.pop.ensures.items ∙ ap (λ o. xs ++ option_to_list o) c.in-Some.is in
    popped_sound s t xs c.in-Some.row (subst (IsSound s) e c.self.invariant) c.remove.ensures

pub returns-in-Some : goal.returns-in-Some
returns-in-Some c before last f =
    let s = c.self.inside.registry in
    let t = c.remove.new.self in
    let xs = c.pop.new.self.items in
    let e : c.self.inside.slots.items ≡ xs ++ c.in-Some.row ∷ [] = c.pop.ensures.items ∙ ap (λ o. xs ++ option_to_list o) c.in-Some.is in
    popped_is s t c.self.inside.slots.items xs c.in-Some.row c.args.self.now e c.self.invariant c.remove.ensures c.self.view_is before last f
