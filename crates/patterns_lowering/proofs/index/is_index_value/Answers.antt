use Rattle.patterns_lowering.proofs.Reached.{no_index, index_at, typed_at}
use Rattle.patterns_lowering.proofs.index.is_index_value.Goals as goal

pub returns-in_default : goal.returns-in_default
returns-in_default c = no_index c.args.world.now c.args.value.now c.value_type.result c.value_type.ensures c.in_default.is

pub is_index-requires : goal.is_index-requires
is_index-requires c = typed_at c.args.world.now c.args.value.now c.value_type.result c.in-Some.ty c.value_type.ensures c.in-Some.is

pub returns : goal.returns
returns c = index_at c.args.world.now c.args.value.now c.value_type.result c.in-Some.ty c.is_index.result c.value_type.ensures c.in-Some.is c.is_index.ensures
