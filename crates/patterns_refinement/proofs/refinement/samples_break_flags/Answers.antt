use Rattle.patterns_refinement.proofs.FlagsSampled.{samples_break}
use Rattle.patterns_refinement.proofs.refinement.samples_break_flags.Goals as goal

pub returns : goal.returns
returns c = samples_break
