use Rattle.patterns_laws.proofs.Chosen.{comparison_mirrored}
use Rattle.patterns_laws.proofs.laws.mirror_comparison.Goals as goal

pub returns : goal.returns
returns c = comparison_mirrored
