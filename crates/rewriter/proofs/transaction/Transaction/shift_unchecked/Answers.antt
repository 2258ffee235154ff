use Rattle.std.proofs.Common.{◌≡◌, ◌≢◌, [], rules}
use Rattle.ir_event.specs.types.declared.refusal.Refusal.TheVariants.{Memory}
use Rattle.ir_event.specs.store.Calls.{after_shift}
use Rattle.rewriter_machine.specs.Journals.{IsStoreOf}
use Rattle.rewriter.specs.Held.{TransactionModel}
use Rattle.rewriter.specs.Moves.{noted_as}
use Rattle.rewriter.proofs.Made.{Made, never_refused, shift_made, made_edited, made_good, tidy_if}
use Rattle.rewriter.proofs.transaction.Transaction.shift_unchecked.Goals as goal

pub invariant_of-self-2 : goal.invariant_of-self-2
invariant_of-self-2 c =
    let w = c.self.inside.world in
    let h : TransactionModel = record { ctx = w.ctx; store = w.store; journal = c.self.inside.journal.items; marks = c.self.inside.marks.items } in
    let is : IsStoreOf w.ctx w.store = record { context = c.sound.ensures; sound = w.sound; wellformed = w.wellformed; held = w.held } in
    let kept : c.note.new.journal.items ≡ noted_as h.marks h.journal c.shift_unchecked-made.result = search rules in
    let made : Made h (after_shift c.args.op c.args.place w.store) c.shift_unchecked-made.new.world.store c.shift_unchecked-made.result = shift_made h c.self.invariant is c.shift_unchecked-made.new.world.ctx c.shift_unchecked-made.ensures.ctx c.shift_unchecked-made.new.world.store c.args.op c.args.place c.shift_unchecked-made.result c.shift_unchecked-made.ensures.step c.shift_unchecked-made.ensures.store c.shift_unchecked-made.ensures.err in
    made_good h c.self.invariant (after_shift c.args.op c.args.place w.store) c.shift_unchecked-made.new.world.store c.shift_unchecked-made.result made c.shift_unchecked-made.new.world.ctx c.note.new.journal.items c.shift_unchecked-made.ensures.ctx kept

pub returns-clause-ok : goal.returns-clause-ok
returns-clause-ok c =
    let w = c.self.inside.world in
    let h : TransactionModel = record { ctx = w.ctx; store = w.store; journal = c.self.inside.journal.items; marks = c.self.inside.marks.items } in
    let is : IsStoreOf w.ctx w.store = record { context = c.sound.ensures; sound = w.sound; wellformed = w.wellformed; held = w.held } in
    let kept : c.note.new.journal.items ≡ noted_as h.marks h.journal c.shift_unchecked-made.result = search rules in
    let made : Made h (after_shift c.args.op c.args.place w.store) c.shift_unchecked-made.new.world.store c.shift_unchecked-made.result = shift_made h c.self.invariant is c.shift_unchecked-made.new.world.ctx c.shift_unchecked-made.ensures.ctx c.shift_unchecked-made.new.world.store c.args.op c.args.place c.shift_unchecked-made.result c.shift_unchecked-made.ensures.step c.shift_unchecked-made.ensures.store c.shift_unchecked-made.ensures.err in
    rw (← c.self.view_is) (made_edited h c.self.invariant (after_shift c.args.op c.args.place w.store) c.shift_unchecked-made.new.world.store c.shift_unchecked-made.result made c.shift_unchecked-made.new.world.ctx c.note.new.journal.items c.shift_unchecked-made.ensures.ctx kept)

pub returns-clause-refused : goal.returns-clause-refused
returns-clause-refused c = never_refused (λ e. (e ≡ Memory) × (c.args.self.now.marks ≢ [])) c.shift_unchecked-made.result c.shift_unchecked-made.ensures.done

pub returns-clause-tidy : goal.returns-clause-tidy
returns-clause-tidy c =
    let w = c.self.inside.world in
    rw (← c.self.view_is) (λ t. tidy_if w.store c.shift_unchecked-made.new.world.store (after_shift c.args.op c.args.place w.store) c.shift_unchecked-made.result c.shift_unchecked-made.ensures.store c.shift_unchecked-made.ensures.err t (λ t. t))

pub shift_unchecked-made-requires : goal.shift_unchecked-made-requires
shift_unchecked-made-requires c = rw (← c.self.view_is) at c.requires
