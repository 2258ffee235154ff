use Rattle.std.proofs.Common.{sym, subst}
use Rattle.ir_store_arena.specs.trees.Meaning.{key_before_in}
use Rattle.ir_store_arena.specs.declared.op_data.Entries.{Entries}
use Rattle.ir_store_arena.specs.Slots.{Slots, with_change}
use Rattle.ir_store_arena.specs.Contents.{with_dictionary, dictionary_in}
use Rattle.ir_store_arena.specs.Registry.{contents_at, Swaps}
use Rattle.ir_store_arena.specs.Lending.{enter_at}
use Rattle.ir_store_arena.proofs.Lending.{part_put}
use Rattle.ir_store_arena.proofs.op_arena.OpArena.revert.Goals as goal

pub returns : goal.returns
returns c =
    let s = c.args.self.now in
    let h = c.args.held.now in
    let part = c.args.part in
    let will : Slots → Slots = λ z. with_change (key_before_in c.args.ctx.now) c.args.key c.args.value z in
    subst (λ (w : Entries). Swaps s (enter_at s h w) h h (with_dictionary part (will (dictionary_in part (contents_at s h))) (contents_at s h))) (sym c.revert.ensures)
    (part_put s h c.in-Some.entries.now part will (sym c.in-Some.ensures.value))
