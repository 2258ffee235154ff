use Rattle.op_registry.specs.Properties.{property_kinds}
use Rattle.op_registry.proofs.property.kind_at.Goals as goal

pub returns : goal.returns
unfolding property_kinds
returns c = c.entry.ensures
