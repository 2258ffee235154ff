use Rattle.std.proofs.Common.{sym, arith}
use Rattle.ir_text_tokens.specs.declared.token.Mark.TheVariants.{CloseRound}
use Rattle.user_patterns_text.specs.Grammar.{most}
use Rattle.user_patterns_text.specs.Parts.{views}
use Rattle.user_patterns_text.specs.Reading.{type_at}
use Rattle.user_patterns_text.proofs.ListSteps.{goes_on, closes, no_item, no_comma, too_many, last_fails}
use Rattle.user_patterns_text.proofs.conditions.types.Goals as goal

pub returns-in-Err : goal.returns-in-Err
returns-in-Err c =
    no_item CloseRound type_at most c.items.counter (views c.items.parts.items, c.items.rest.now) _ c.items.invariant c.items-test.true c.in-Err.e c.in-Err.ensures

pub returns-in-Some : goal.returns-in-Some
returns-in-Some c =
    closes CloseRound type_at most c.items.counter (views c.items.parts.items, c.items.rest.now) _ c.items.invariant c.items-test.true (views c.type_name.new.parts.items, c.in-Ok.tail.now) c.in-Some.end.now c.in-Ok.ensures (sym c.in-Some.ensures)

pub returns-in-Err-expect : goal.returns-in-Err-expect
returns-in-Err-expect c =
    no_comma CloseRound type_at most c.items.counter (views c.items.parts.items, c.items.rest.now) _ c.items.invariant c.items-test.true c.in-Err-expect.e (views c.type_name.new.parts.items, c.in-Ok.tail.now) c.in-Ok.ensures (sym c.in_default.ensures) c.in-Err-expect.ensures

pub items-preserved : goal.items-preserved
items-preserved c =
    goes_on CloseRound type_at most c.items.counter (views c.items.parts.items, c.items.rest.now) _ c.items.invariant c.items-test.true (views c.type_name.new.parts.items, c.in-Ok.tail.now) c.in-Ok-expect.more.now c.in-Ok.ensures (sym c.in_default.ensures) c.in-Ok-expect.ensures

pub returns-in-Ok-type_name : goal.returns-in-Ok-type_name
returns-in-Ok-type_name c =
    rw (c.refused.ensures, c.begins.ensures) (too_many CloseRound type_at most c.items.counter (views c.items.parts.items, c.items.rest.now) _ c.items.invariant (omega (arith, c.items-test.false)) (views c.type_name-2.new.parts.items, c.in-Ok-type_name.field-0.now) c.in-Ok-type_name.ensures)

pub returns-in-Err-type_name : goal.returns-in-Err-type_name
returns-in-Err-type_name c =
    last_fails CloseRound type_at most c.items.counter (views c.items.parts.items, c.items.rest.now) _ c.items.invariant (omega (arith, c.items-test.false)) c.in-Err-type_name.e c.in-Err-type_name.ensures
