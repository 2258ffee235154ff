use Rattle.indexmap.specs.IndexMap.{keys}
use Rattle.ir_types.proofs.Apart.{apart_by}
use Rattle.ir_types.proofs.SameNodes.{same_type_is, same_type_refl, derived_type}
use Rattle.ir_types.proofs.places.types_apart.Goals as goal

pub returns : goal.returns
returns c = apart_by derived_type same_type_is same_type_refl (keys c.args.types.now) c.len-count.ensures.unique
