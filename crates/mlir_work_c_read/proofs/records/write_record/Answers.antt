use Rattle.std.proofs.Common.{sym, subst, ◌≤◌, [], ◌∷◌, ◌++◌, length, map, arith}
use Rattle.mlir_work_c_read.specs.Operations.{tree_in}
use Rattle.mlir_work_c_read.specs.Records.{IsRecord, no_operation, operand_item, result_items}
use Rattle.mlir_work_c_read.proofs.Joining.{size_from}
use Rattle.mlir_work_c_read.proofs.Recording.{few_items, record_is, record_none, results_are, three_parts}
use Rattle.mlir_work_c_read.proofs.records.write_record.Goals as goal

pub returns-in_default : goal.returns-in_default
returns-in_default c =
    let x = c.args.op in
    let t = tree_in c.args.world.now in (
      no_operation ∷ [],
      record_none x t c.in_default.ensures.lists,
      c.write_item.ensures,
    )

pub item_of-head-requires : goal.item_of-head-requires
item_of-head-requires c =
    let few = few_items _ c.args.op (tree_in c.args.world.now) c.args.world.now.wellformed.wellformed _ c.in-Some.ensures.lists in
    record { operands = few.0; results = few.1 }

pub write_operands-after_operands-requires : goal.write_operands-after_operands-requires
write_operands-after_operands-requires c =
    let a = c.write_item-after_head.ensures in
    let size = size_from _ _ _ _ _ c.requires a in
    let end = a.end_is in
    omega (arith, size, end)

pub write_results-requires : goal.write_results-requires
write_results-requires c =
    let few = few_items _ c.args.op (tree_in c.args.world.now) c.args.world.now.wellformed.wellformed _ c.in-Some.ensures.lists in
    let a = c.write_item-after_head.ensures in
    let size = size_from _ _ _ _ _ c.requires a in
    let end = a.end_is in
    let within : c.write_item-after_head.result ≤ length c.write_item-after_head.new.into = omega (arith, size, end) in
    let b = c.write_operands-after_operands.ensures in
    let size_b = size_from _ _ _ _ _ within b in
    let end_b = b.end_is in
    record { at = omega (arith, size_b, end_b); few = few.1; uses = c.in-Some.ensures.count }

pub returns : goal.returns
returns c =
    let x = c.args.op in
    let t = tree_in c.args.world.now in
    let found = c.in-Some.found in
    let results = result_items found.uses 0 found.results.now in
    let head = c.item_of-head.ensures in
    let same = c.in-Some.ensures.count in
    let items = (c.item_of-head.result ∷ []) ++ (map operand_item found.operands.now ++ results) in (
      items,
      subst (λ i. IsRecord x t ((i ∷ []) ++ (map operand_item found.operands.now ++ results))) (sym head)
          (record_is x t found.name found.operands.now found.results.now results c.in-Some.ensures.lists (results_are x t found.uses 0 found.results.now (omega (arith, same)) c.in-Some.ensures.uses)),
      three_parts (c.item_of-head.result ∷ []) (map operand_item found.operands.now) results _ _ _ _ _ _ _ _ c.requires c.write_item-after_head.ensures c.write_operands-after_operands.ensures c.write_results.ensures,
    )
