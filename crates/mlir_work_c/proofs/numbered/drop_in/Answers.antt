use Rattle.std.proofs.Common.{refl}
use Rattle.mlir_work_c.proofs.numbered.drop_in.Goals as goal

pub returns-clause-drops : goal.returns-clause-drops
returns-clause-drops c = (_, c.drop_attribute.ensures.drops, c.edited.ensures, record { registry = refl; limit = refl; counted = refl; shows = refl; mode = c.drop_attribute.ensures.mode })
