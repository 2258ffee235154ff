use Rattle.std.proofs.Common.{ap, ◌∙◌, length, arith}
use Rattle.mlir_work_c_read.specs.Operations.{tree_in}
use Rattle.mlir_work_c_read.proofs.Joining.{from_length, rest_length}
use Rattle.mlir_work_c_read.proofs.Using.{uses_end, uses_on}
use Rattle.mlir_work_c_read.proofs.bulk.write_value_uses.Goals as goal

pub write_uses_of-at-requires : goal.write_uses_of-at-requires
write_uses_of-at-requires c = c.values.invariant.1

pub values-preserved : goal.values-preserved
values-preserved c =
    let left = rest_length c.values.rest.now c.in-len1-up.len_at_least in
    let sum = c.values.invariant.0 in
    let count = c.write_uses_of-at.ensures.count in
    let long = ap length c.write_uses_of-at.ensures.written ∙ from_length c.values.at _ c.values.into c.values.invariant.1 in (
      omega (arith, left, sum),
      omega (arith, count, long),
      uses_on (tree_in c.args.world.now) c.args.values.now c.values.index c.values.rest.now _ c.value_of.result c.uses.result c.values.at c.write_uses_of-at.result c.values.into c.write_uses_of-at.new.into c.args.into.now
          c.in-len1-up.len_at_least c.value_of.ensures c.uses.ensures c.write_uses_of-at.ensures.written c.write_uses_of-at.ensures.count c.values.invariant.2,
    )

pub returns : goal.returns
returns c =
    uses_end (tree_in c.args.world.now) c.args.values.now c.values.index c.values.rest.now c.values.at c.values.into c.args.into.now c.in_default.len_below c.values.invariant.2
