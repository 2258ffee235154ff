use Rattle.std.proofs.Common.{◌∙◌}
use Rattle.std.specs.Prelude.{codes}
use Rattle.ir_event.specs.types.Terms.{name_term}
use Rattle.patterns_matchers.proofs.predicates.is_key.Goals as goal
use Rattle.ir_event.proofs.of_types.Truths.{turned}

pub returns : goal.returns
returns c = c.is_word.ensures ∙ turned (name_term c.args.ctx.now c.args.name) (codes "predicate")
