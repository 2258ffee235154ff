use Rattle.dialects_int.proofs.CastLaws.{complement_twice}
use Rattle.dialects_int.proofs.laws.complement_twice.Goals as goal

pub returns : goal.returns
returns c w b hb = complement_twice w b hb
