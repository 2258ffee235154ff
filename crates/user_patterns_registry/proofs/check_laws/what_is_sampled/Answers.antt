use Rattle.user_patterns_widths.proofs.Ranges.{sampled_values}
use Rattle.user_patterns_registry.proofs.Refuting.{refutes_truly}
use Rattle.user_patterns_registry.proofs.check_laws.what_is_sampled.Goals as goal

pub returns-clause-pattern_set : goal.returns-clause-pattern_set
returns-clause-pattern_set c = sampled_values

pub returns-clause-refutes : goal.returns-clause-refutes
returns-clause-refutes c = refutes_truly
