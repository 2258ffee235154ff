use Rattle.ir_types.proofs.Growth.{grows_refl, grows_trans}
use Rattle.ir_types.proofs.laws.growth_is_an_order.Goals as goal

pub returns-clause-reflexive : goal.returns-clause-reflexive
returns-clause-reflexive _ = grows_refl

pub returns-clause-transitive : goal.returns-clause-transitive
returns-clause-transitive _ = grows_trans
