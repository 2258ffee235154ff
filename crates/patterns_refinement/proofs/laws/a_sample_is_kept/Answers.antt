use Rattle.patterns_refinement.proofs.Sampled.{sample_is_kept}
use Rattle.patterns_refinement.proofs.UnitedSampled.{sample_is_checked}
use Rattle.patterns_refinement.proofs.laws.a_sample_is_kept.Goals as goal

pub returns-clause-kept : goal.returns-clause-kept
returns-clause-kept c = sample_is_kept

pub returns-clause-checked : goal.returns-clause-checked
returns-clause-checked c = sample_is_checked
