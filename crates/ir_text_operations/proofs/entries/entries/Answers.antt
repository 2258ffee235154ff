use Rattle.std.proofs.Common.{◌≡◌, ◌∷◌, [], ◌+◌, length, refl, arith}
use Rattle.std.proofs.lemmas.List.{length-append}
use Rattle.ir_text_tokens.specs.declared.token.Mark.TheVariants.{CloseCurly, Comma}
use Rattle.ir_text_types.specs.Marks.{after}
use Rattle.ir_text_types.specs.Outcomes.{of_option}
use Rattle.ir_types.proofs.Growth.{grows_trans}
use Rattle.ir_text_types.proofs.ListSteps.{goes_on, closes, no_item, no_comma, is_full, fails_option}
use Rattle.ir_text_types.specs.Typed.{after_typed}
use Rattle.ir_text_operations.specs.EntryReading.{entry_at}
use Rattle.ir_text_operations.proofs.entries.entries.Goals as goal

pub returns-in-Err-clause-reads : goal.returns-in-Err-clause-reads
returns-in-Err-clause-reads c =
    no_item after_typed CloseCurly (entry_at c.args.op.now c.args.properties.now) c.items.items.items 513 c.items.counter (c.items.rest.now, c.items.ctx) _ c.items.invariant.reads c.items-test.true c.in-Err.e (rw c.deref.ensures.value at c.in-Err.ensures.reads)

pub returns-in-Ok-End-clause-reads : goal.returns-in-Ok-End-clause-reads
returns-in-Ok-End-clause-reads c =
    let ends = rw c.in-Ok-End.field-0-is at c.in-Ok-End.ensures in
    rw c.in_ok-push.ensures.items (closes after_typed CloseCurly (entry_at c.args.op.now c.args.properties.now) c.items.items.items 513 c.items.counter (c.items.rest.now, c.items.ctx) _ c.items.invariant.reads c.items-test.true c.in-Ok.found.0 (c.in-Ok.found.1.now, c.entry.new.ctx) (c.in-Ok-End.end.now, c.entry.new.ctx) (rw c.deref.ensures.value at c.in-Ok.ensures.reads) (rw ends refl))

pub returns-in-Err-after_item-clause-reads : goal.returns-in-Err-after_item-clause-reads
returns-in-Err-after_item-clause-reads c =
    let going = c.in-Err-after_item.ensures.0 in
    no_comma after_typed CloseCurly (entry_at c.args.op.now c.args.properties.now) c.items.items.items 513 c.items.counter (c.items.rest.now, c.items.ctx) _ c.items.invariant.reads c.items-test.true c.in-Err-after_item.e c.in-Ok.found.0 (c.in-Ok.found.1.now, c.entry.new.ctx) (rw c.deref.ensures.value at c.in-Ok.ensures.reads) (rw going refl) (fails_option c.in-Err-after_item.e (after Comma c.in-Ok.found.1.now) (of_option (after_typed Comma (c.in-Ok.found.1.now, c.entry.new.ctx))) (λ none. rw none refl) c.in-Err-after_item.ensures.1)

pub items-preserved : goal.items-preserved
items-preserved c =
    let more = rw c.in-Ok-More.field-0-is at c.in-Ok-More.ensures in
    let going = more.0 in
    let comma = more.1 in
    let n : length c.push.new.self.items ≡ c.items.counter + 1 = rw c.in_ok-push.ensures.items (omega (arith, c.items.invariant.count, length-append c.items.items.items (c.in-Ok.found.0 ∷ []))) in
    record { reads = rw c.in_ok-push.ensures.items (goes_on after_typed CloseCurly (entry_at c.args.op.now c.args.properties.now) c.items.items.items 513 c.items.counter (c.items.rest.now, c.items.ctx) _ c.items.invariant.reads c.items-test.true c.in-Ok.found.0 (c.in-Ok.found.1.now, c.entry.new.ctx) (c.in-Ok-More.more.now, c.entry.new.ctx) (rw c.deref.ensures.value at c.in-Ok.ensures.reads) (rw going refl) (rw comma refl)); grows = grows_trans c.args.ctx.now c.items.ctx c.entry.new.ctx c.items.invariant.grows c.in-Ok.ensures.grows; count = n }

pub returns-clause-reads : goal.returns-clause-reads
returns-clause-reads c =
    is_full after_typed CloseCurly (entry_at c.args.op.now c.args.properties.now) c.items.items.items 513 c.items.counter (c.items.rest.now, c.items.ctx) _ c.items.invariant.reads (omega (arith, c.items-test.false))

pub returns-in-Err-clause-grows : goal.returns-in-Err-clause-grows
returns-in-Err-clause-grows c = grows_trans c.args.ctx.now c.items.ctx c.entry.new.ctx c.items.invariant.grows c.in-Err.ensures.grows

pub returns-in_err-push-clause-grows : goal.returns-in_err-push-clause-grows
returns-in_err-push-clause-grows c = grows_trans c.args.ctx.now c.items.ctx c.entry.new.ctx c.items.invariant.grows c.in-Ok.ensures.grows

pub returns-in-Ok-End-clause-grows : goal.returns-in-Ok-End-clause-grows
returns-in-Ok-End-clause-grows c = grows_trans c.args.ctx.now c.items.ctx c.entry.new.ctx c.items.invariant.grows c.in-Ok.ensures.grows

pub returns-in-Err-after_item-clause-grows : goal.returns-in-Err-after_item-clause-grows
returns-in-Err-after_item-clause-grows c = grows_trans c.args.ctx.now c.items.ctx c.entry.new.ctx c.items.invariant.grows c.in-Ok.ensures.grows
