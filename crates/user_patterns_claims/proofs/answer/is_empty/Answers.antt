use Rattle.user_patterns_data.specs.Shapes.{pattern_model}
use Rattle.user_patterns_claims.proofs.answer.is_empty.Goals as goal

pub returns-then-branch : goal.returns-then-branch
returns-then-branch c = c.witnesses_witness.ensures (pattern_model c.args.pattern.now) c.in-Fails.set _ (c.in_ok-is_witness-in-Fails.ensures c.if-branch.true)
