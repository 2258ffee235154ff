use Rattle.std.proofs.Common.{sym, arith}
use Rattle.ir_text_tokens.specs.declared.token.Mark.TheVariants.{CloseRound}
use Rattle.user_patterns_text.specs.Grammar.{most}
use Rattle.user_patterns_text.specs.Parts.{views}
use Rattle.user_patterns_text.specs.Reading.{number_at}
use Rattle.user_patterns_text.proofs.ListSteps.{goes_on, closes, no_item, no_comma, too_many, last_fails}
use Rattle.user_patterns_text.proofs.numbers.+number.Goals as goal

pub numbers-returns-in-Err : goal.numbers-returns-in-Err
numbers-returns-in-Err t c =
    no_item CloseRound (number_at c.args.depth) most c.items.counter (views c.items.parts.items, c.items.rest.now) _ c.items.invariant c.items-test.true c.in-Err.e c.in-Err.ensures

pub numbers-returns-in-Some : goal.numbers-returns-in-Some
numbers-returns-in-Some t c =
    closes CloseRound (number_at c.args.depth) most c.items.counter (views c.items.parts.items, c.items.rest.now) _ c.items.invariant c.items-test.true (views c.parse_number.new.parts.items, c.in-Ok.tail.now) c.in-Some.end.now c.in-Ok.ensures (sym c.in-Some.ensures)

pub numbers-returns-in-Err-expect : goal.numbers-returns-in-Err-expect
numbers-returns-in-Err-expect t c =
    no_comma CloseRound (number_at c.args.depth) most c.items.counter (views c.items.parts.items, c.items.rest.now) _ c.items.invariant c.items-test.true c.in-Err-expect.e (views c.parse_number.new.parts.items, c.in-Ok.tail.now) c.in-Ok.ensures (sym c.in_default.ensures) c.in-Err-expect.ensures

pub numbers-items-preserved : goal.numbers-items-preserved
numbers-items-preserved t c =
    goes_on CloseRound (number_at c.args.depth) most c.items.counter (views c.items.parts.items, c.items.rest.now) _ c.items.invariant c.items-test.true (views c.parse_number.new.parts.items, c.in-Ok.tail.now) c.in-Ok-expect.more.now c.in-Ok.ensures (sym c.in_default.ensures) c.in-Ok-expect.ensures

pub numbers-returns-in-Ok-parse_number : goal.numbers-returns-in-Ok-parse_number
numbers-returns-in-Ok-parse_number t c =
    rw (c.refused.ensures, c.begins.ensures) (too_many CloseRound (number_at c.args.depth) most c.items.counter (views c.items.parts.items, c.items.rest.now) _ c.items.invariant (omega (arith, c.items-test.false)) (views c.parse_number-2.new.parts.items, c.in-Ok-parse_number.field-0.now) c.in-Ok-parse_number.ensures)

pub numbers-returns-in-Err-parse_number : goal.numbers-returns-in-Err-parse_number
numbers-returns-in-Err-parse_number t c =
    last_fails CloseRound (number_at c.args.depth) most c.items.counter (views c.items.parts.items, c.items.rest.now) _ c.items.invariant (omega (arith, c.items-test.false)) c.in-Err-parse_number.e c.in-Err-parse_number.ensures
