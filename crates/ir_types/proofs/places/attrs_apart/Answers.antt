use Rattle.indexmap.specs.IndexMap.{keys}
use Rattle.ir_types.proofs.Apart.{apart_by}
use Rattle.ir_types.proofs.SameNodes.{same_attr_is, same_attr_refl, derived_attr}
use Rattle.ir_types.proofs.places.attrs_apart.Goals as goal

pub returns : goal.returns
returns c = apart_by derived_attr same_attr_is same_attr_refl (keys c.args.attrs.now) c.len-count.ensures.unique
