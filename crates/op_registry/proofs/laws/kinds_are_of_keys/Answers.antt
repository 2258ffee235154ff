use Rattle.std.proofs.Common.{refl}
use Rattle.ir_types.specs.Words.{keys}
use Rattle.op_registry.specs.Properties.{property_kinds}
use Rattle.op_registry.proofs.laws.kinds_are_of_keys.Goals as goal

pub returns : goal.returns
unfolding property_kinds keys
returns c = refl
