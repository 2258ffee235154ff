use Rattle.std.proofs.Common.{◌∷◌, [], ◌-◌, length, map, take, drop, subst, arith}
use Rattle.mlir_work_c_read.specs.Filled.{WritesFrom}
use Rattle.mlir_work_c_read.specs.Records.{operand_item}
use Rattle.mlir_work_c_read.proofs.Joining.{ContinuesFrom, begins_from, continues_from, ends_from}
use Rattle.mlir_work_c_read.proofs.Recording.{operands_none, operands_step}
use Rattle.mlir_work_c_read.proofs.records.write_operands.Goals as goal

pub operands-init : goal.operands-init
operands-init c = begins_from (map operand_item c.args.operands.now) c.args.at c.args.into.now c.requires

pub write_item-place-requires : goal.write_item-place-requires
write_item-place-requires c =
    let size = c.operands.invariant.size in
    let inside = c.operands.invariant.inside in
    omega (arith, size, inside)

pub operands-preserved : goal.operands-preserved
operands-preserved c =
    let xs = c.operands.rest.now in
    continues_from (operand_item c.operand-item.result ∷ []) (map operand_item (take (length xs - 1) (drop 1 xs))) (map operand_item xs) _ c.args.at c.operands.place c.write_item-place.result c.operands.into c.write_item-place.new.into c.args.into.now
    (operands_step xs c.operand-item.result _ c.in-len1-up.len_at_least c.operand-item.is)
    (subst (λ i. WritesFrom (i ∷ []) c.operands.place c.operands.into c.write_item-place.new.into c.write_item-place.result) c.operand_item.ensures c.write_item-place.ensures) c.operands.invariant

pub returns : goal.returns
returns c =
    ends_from (map operand_item c.args.operands.now) c.args.at c.operands.place c.operands.into c.args.into.now
    (subst (λ l. ContinuesFrom l (map operand_item c.args.operands.now) c.args.at c.operands.place c.operands.into c.args.into.now) (operands_none c.operands.rest.now c.in_default.len_below) c.operands.invariant)
