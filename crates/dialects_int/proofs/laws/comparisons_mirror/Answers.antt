use Rattle.dialects_int.proofs.CastLaws.{mirror}
use Rattle.dialects_int.proofs.laws.comparisons_mirror.Goals as goal

pub returns : goal.returns
returns c p w a b = mirror p w a b
