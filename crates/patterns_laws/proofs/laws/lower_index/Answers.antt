use Rattle.patterns_laws.proofs.Lowered.{all_lowered_two, comparison_lowered, choice_lowered, constant_lowered}
use Rattle.patterns_laws.proofs.laws.lower_index.Goals as goal

pub returns-clause-two : goal.returns-clause-two
returns-clause-two c = all_lowered_two

pub returns-clause-comparison : goal.returns-clause-comparison
returns-clause-comparison c = comparison_lowered

pub returns-clause-choice : goal.returns-clause-choice
returns-clause-choice c = choice_lowered

pub returns-clause-constant : goal.returns-clause-constant
returns-clause-constant c = constant_lowered
