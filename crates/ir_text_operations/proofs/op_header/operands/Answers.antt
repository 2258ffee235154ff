use Rattle.std.proofs.Common.{◌≡◌, ◌∷◌, [], ◌+◌, length, arith}
use Rattle.std.proofs.lemmas.List.{length-append}
use Rattle.ir_text_tokens.specs.declared.token.Mark.TheVariants.{CloseRound}
use Rattle.ir_text_types.specs.Marks.{after}
use Rattle.ir_text_types.proofs.ListSteps.{goes_on, closes, no_item, no_comma, is_full}
use Rattle.ir_text_operations.specs.Free.{free_bound}
use Rattle.ir_text_operations.specs.PrecedingReading.{use_at}
use Rattle.ir_text_operations.proofs.op_header.operands.Goals as goal

pub returns-in-Err : goal.returns-in-Err
returns-in-Err g c =
    no_item after CloseRound (λ before. use_at (free_bound (g.O.Outer.types c.args.outer.now)) c.args.names.now.here) c.items.items.items 256 c.items.counter c.items.rest.now _ c.items.invariant.reads c.items-test.true c.in-Err.e c.in-Err.ensures

pub returns-in-Ok-End : goal.returns-in-Ok-End
returns-in-Ok-End g c =
    let ends = rw c.in-Ok-End.field-0-is at c.in-Ok-End.ensures in
    rw c.in_ok-push.ensures.items (closes after CloseRound (λ before. use_at (free_bound (g.O.Outer.types c.args.outer.now)) c.args.names.now.here) c.items.items.items 256 c.items.counter c.items.rest.now _ c.items.invariant.reads c.items-test.true c.in-Ok.found.0 c.in-Ok.found.1.now c.in-Ok-End.end.now c.in-Ok.ensures ends)

pub returns-in-Err-after_item : goal.returns-in-Err-after_item
returns-in-Err-after_item g c =
    no_comma after CloseRound (λ before. use_at (free_bound (g.O.Outer.types c.args.outer.now)) c.args.names.now.here) c.items.items.items 256 c.items.counter c.items.rest.now _ c.items.invariant.reads c.items-test.true c.in-Err-after_item.e c.in-Ok.found.0 c.in-Ok.found.1.now c.in-Ok.ensures c.in-Err-after_item.ensures.0 c.in-Err-after_item.ensures.1

pub items-preserved : goal.items-preserved
items-preserved g c =
    let more = rw c.in-Ok-More.field-0-is at c.in-Ok-More.ensures in
    let n : length c.push.new.self.items ≡ c.items.counter + 1 = rw c.in_ok-push.ensures.items (omega (arith, c.items.invariant.count, length-append c.items.items.items (c.in-Ok.found.0 ∷ []))) in
    record { reads = rw c.in_ok-push.ensures.items (goes_on after CloseRound (λ before. use_at (free_bound (g.O.Outer.types c.args.outer.now)) c.args.names.now.here) c.items.items.items 256 c.items.counter c.items.rest.now _ c.items.invariant.reads c.items-test.true c.in-Ok.found.0 c.in-Ok.found.1.now c.in-Ok-More.more.now c.in-Ok.ensures more.0 more.1); count = n }

pub returns : goal.returns
returns g c =
    is_full after CloseRound (λ before. use_at (free_bound (g.O.Outer.types c.args.outer.now)) c.args.names.now.here) c.items.items.items 256 c.items.counter c.items.rest.now _ c.items.invariant.reads (omega (arith, c.items-test.false))
