use Rattle.patterns_refinement.proofs.ChoiceSampled.{choice_is_refined}
use Rattle.patterns_refinement.proofs.RefiningSampled.{sample_is_refined, samples_arent_refined}
use Rattle.patterns_refinement.proofs.refined.a_sample_is_refined.Goals as goal

pub returns-clause-refined : goal.returns-clause-refined
returns-clause-refined c = sample_is_refined

pub returns-clause-refused : goal.returns-clause-refused
returns-clause-refused c = samples_arent_refined

pub returns-clause-choice : goal.returns-clause-choice
returns-clause-choice c = choice_is_refined
