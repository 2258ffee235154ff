use Rattle.std.proofs.Common.{sym, arith}
use Rattle.ir_text_tokens.specs.declared.token.Mark.TheVariants.{End}
use Rattle.user_patterns_text.specs.Grammar.{most}
use Rattle.user_patterns_text.specs.Parts.{views}
use Rattle.user_patterns_text.specs.Reading.{condition_at}
use Rattle.user_patterns_text.proofs.ListSteps.{goes_on, closes, no_item, no_comma, too_many, last_fails}
use Rattle.user_patterns_text.proofs.conditions.all.Goals as goal

pub returns-in-Err : goal.returns-in-Err
returns-in-Err c =
    no_item End condition_at most c.items.counter (views c.items.parts.items, c.items.rest.now) _ c.items.invariant c.items-test.true c.in-Err.e c.in-Err.ensures

pub returns-in-Some : goal.returns-in-Some
returns-in-Some c =
    closes End condition_at most c.items.counter (views c.items.parts.items, c.items.rest.now) _ c.items.invariant c.items-test.true (views c.condition.new.parts.items, c.in-Ok.tail.now) c.in-Some.end.now c.in-Ok.ensures (sym c.in-Some.ensures)

pub returns-in-Err-expect : goal.returns-in-Err-expect
returns-in-Err-expect c =
    no_comma End condition_at most c.items.counter (views c.items.parts.items, c.items.rest.now) _ c.items.invariant c.items-test.true c.in-Err-expect.e (views c.condition.new.parts.items, c.in-Ok.tail.now) c.in-Ok.ensures (sym c.in_default.ensures) c.in-Err-expect.ensures

pub items-preserved : goal.items-preserved
items-preserved c =
    goes_on End condition_at most c.items.counter (views c.items.parts.items, c.items.rest.now) _ c.items.invariant c.items-test.true (views c.condition.new.parts.items, c.in-Ok.tail.now) c.in-Ok-expect.more.now c.in-Ok.ensures (sym c.in_default.ensures) c.in-Ok-expect.ensures

pub returns-in-Ok-condition : goal.returns-in-Ok-condition
returns-in-Ok-condition c =
    rw (c.refused.ensures, c.begins.ensures) (too_many End condition_at most c.items.counter (views c.items.parts.items, c.items.rest.now) _ c.items.invariant (omega (arith, c.items-test.false)) (views c.condition-2.new.parts.items, c.in-Ok-condition.field-0.now) c.in-Ok-condition.ensures)

pub returns-in-Err-condition : goal.returns-in-Err-condition
returns-in-Err-condition c =
    last_fails End condition_at most c.items.counter (views c.items.parts.items, c.items.rest.now) _ c.items.invariant (omega (arith, c.items-test.false)) c.in-Err-condition.e c.in-Err-condition.ensures
