use Rattle.std.proofs.Common.{◌≡◌, ap, sym, subst, true}
use Rattle.ir_store_arena.specs.trees.Meaning.{key_before_in, rises}
use Rattle.ir_store_arena.specs.Slots.{with_change, NeedsNoSlot}
use Rattle.ir_store_arena.specs.Contents.{Contents, with_dictionary, dictionary_in}
use Rattle.ir_store_arena.specs.Registry.{or_none, contents_at, Swaps}
use Rattle.ir_store_arena.proofs.Keys.{in_each, swap_swap}
use Rattle.ir_store_arena.proofs.op_arena.OpArena.change.Goals as goal

pub returns-clause-swaps : goal.returns-clause-swaps
returns-clause-swaps c =
    let s = c.args.self.now in
    let t = c.widen.new.self in
    let u = c.change_entry.new.self in
    let g = c.args.held.now in
    let h = c.widen.new.held in
    let before = key_before_in c.args.ctx.now in
    let will : Contents → Contents = λ z. with_dictionary c.args.part (with_change before c.args.key c.args.value (dictionary_in c.args.part z)) z in
    let e : contents_at t h ≡ contents_at s g = ap or_none c.widen.ensures.same.own in
    in_each c.change_entry.result (Swaps t u h h (will (contents_at t h))) (Swaps t u h h (contents_at t h)) (Swaps s u g h (will (contents_at s g))) (Swaps s u g h (contents_at s g)) c.change_entry.ensures.swaps
    (λ v. swap_swap s t u g h (contents_at s g) (will (contents_at s g)) c.widen.ensures.same (subst (λ z. Swaps t u h h (will z)) e v))
    (λ v. swap_swap s t u g h (contents_at s g) (contents_at s g) c.widen.ensures.same (subst (Swaps t u h h) e v))

pub returns-clause-slot : goal.returns-clause-slot
returns-clause-slot c sorted wants =
    let part = c.args.part in
    let before = key_before_in c.args.ctx.now in
    let e : contents_at c.args.self.now c.args.held.now ≡ contents_at c.widen.new.self c.widen.new.held = sym (ap or_none c.widen.ensures.same.own) in
    c.change_entry.ensures.slot
    (subst (λ z. rises before (dictionary_in part z).present ≡ true) e sorted)
    (subst (λ z. NeedsNoSlot c.args.key c.args.value (dictionary_in part z)) e wants)
