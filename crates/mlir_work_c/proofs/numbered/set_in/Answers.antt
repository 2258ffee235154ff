use Rattle.std.proofs.Common.{refl}
use Rattle.mlir_work_c.proofs.numbered.set_in.Goals as goal

pub returns-clause-sets : goal.returns-clause-sets
returns-clause-sets c = (_, c.set_attribute.ensures.sets, c.edited.ensures, record { registry = refl; limit = refl; counted = refl; shows = refl; mode = c.set_attribute.ensures.mode })
