use Rattle.op_registry.specs.Registry.{region_row}
use Rattle.ir_verify_base.specs.Numbers.{node_in}
use Rattle.ir_verify_base.proofs.Regions.{counted_more, left_more}
use Rattle.ir_verify.specs.BlockRules.{is_without}
use Rattle.ir_verify.proofs.block_rules.any_without.Goals as goal

pub regions-preserved : goal.regions-preserved
regions-preserved c = record {
  counted = counted_more c.regions.rest.now c.regions.number _ c.in-len1-up.len_at_least c.regions.invariant.counted;
  left = left_more region_row (is_without (node_in c.args.ctx.now c.args.node.now)) c.regions.rest.now _ c.regions.number _
      c.is_without.result c.in-len1-up.len_at_least c.regions.invariant.left c.is_without.ensures c.if-is_without.false;
}
