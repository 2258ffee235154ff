use Rattle.user_patterns_claims.specs.Code.{state}
use Rattle.user_patterns_claims.proofs.Chaining.{given_reached}
use Rattle.user_patterns_claims.proofs.goal.all_given.Goals as goal

pub returns : goal.returns
returns c =
    given_reached c.args.pattern.now.value_types.items _ c.args.narrower.now c.args.pattern.now.extra.items _ c.args.pattern.now.given.items _ (state c.args.exprs.now.items c.args.operands.now.items c.args.conditions.now.items) _ _ _ _ _ _ _ _
    c.as_slice-value_types.ensures.value c.as_slice-extra.ensures.value c.as_slice-numbers.ensures.value c.if-not-done.false c.in_ok-done.ensures c.all_numbers.ensures
