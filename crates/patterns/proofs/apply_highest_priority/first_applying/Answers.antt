use Rattle.std.proofs.Common.{◌∙◌, ap}
use Rattle.ir_event.specs.Modules.{module_in}
use Rattle.patterns.specs.FirstMatching.{first_matching_rule}
use Rattle.patterns.specs.HighestPriority.{greedy}
use Rattle.patterns.proofs.Firsts.{none_first}
use Rattle.patterns.proofs.apply_highest_priority.first_applying.Goals as goal
use Rattle.ir_event.proofs.of_types.Truths.{none_left}

pub returns : goal.returns
returns c = c.rules.invariant ∙ ap (λ z. first_matching_rule (greedy z) (module_in c.args.world.now) c.args.op) (none_left c.rules.rest.now c.in_default.len_below) ∙ none_first (module_in c.args.world.now) c.args.op
