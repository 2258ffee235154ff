use Rattle.std.proofs.Common.{sym, arith}
use Rattle.ir_text_tokens.specs.declared.token.Mark.TheVariants.{CloseRound}
use Rattle.user_patterns_text.specs.Grammar.{most}
use Rattle.user_patterns_text.specs.Parts.{views}
use Rattle.user_patterns_text.specs.Reading.{term_at}
use Rattle.user_patterns_text.proofs.ListSteps.{goes_on, closes, no_item, no_comma, too_many, last_fails}
use Rattle.user_patterns_text.proofs.terms.+term.Goals as goal

pub terms-returns-in-Err : goal.terms-returns-in-Err
terms-returns-in-Err t c =
    no_item CloseRound (term_at c.args.left c.args.depth) most c.items.counter (views c.items.parts.items, c.items.rest.now) _ c.items.invariant c.items-test.true c.in-Err.e c.in-Err.ensures

pub terms-returns-in-Some-after : goal.terms-returns-in-Some-after
terms-returns-in-Some-after t c =
    closes CloseRound (term_at c.args.left c.args.depth) most c.items.counter (views c.items.parts.items, c.items.rest.now) _ c.items.invariant c.items-test.true (views c.term.new.parts.items, c.in-Ok.tail.now) c.in-Some-after.end.now c.in-Ok.ensures (sym c.in-Some-after.ensures)

pub terms-returns-in-Err-expect : goal.terms-returns-in-Err-expect
terms-returns-in-Err-expect t c =
    no_comma CloseRound (term_at c.args.left c.args.depth) most c.items.counter (views c.items.parts.items, c.items.rest.now) _ c.items.invariant c.items-test.true c.in-Err-expect.e (views c.term.new.parts.items, c.in-Ok.tail.now) c.in-Ok.ensures (sym c.in_default-after.ensures) c.in-Err-expect.ensures

pub terms-items-preserved : goal.terms-items-preserved
terms-items-preserved t c =
    goes_on CloseRound (term_at c.args.left c.args.depth) most c.items.counter (views c.items.parts.items, c.items.rest.now) _ c.items.invariant c.items-test.true (views c.term.new.parts.items, c.in-Ok.tail.now) c.in-Ok-expect.more.now c.in-Ok.ensures (sym c.in_default-after.ensures) c.in-Ok-expect.ensures

pub terms-returns-in-Ok-term : goal.terms-returns-in-Ok-term
terms-returns-in-Ok-term t c =
    rw (c.refused.ensures, c.begins.ensures) (too_many CloseRound (term_at c.args.left c.args.depth) most c.items.counter (views c.items.parts.items, c.items.rest.now) _ c.items.invariant (omega (arith, c.items-test.false)) (views c.term-2.new.parts.items, c.in-Ok-term.field-0.now) c.in-Ok-term.ensures)

pub terms-returns-in-Err-term : goal.terms-returns-in-Err-term
terms-returns-in-Err-term t c =
    last_fails CloseRound (term_at c.args.left c.args.depth) most c.items.counter (views c.items.parts.items, c.items.rest.now) _ c.items.invariant (omega (arith, c.items-test.false)) c.in-Err-term.e c.in-Err-term.ensures
