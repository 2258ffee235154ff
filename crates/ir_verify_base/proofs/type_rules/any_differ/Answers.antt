use Rattle.op_registry.specs.Registry.{region_row}
use Rattle.ir_verify_base.specs.Numbers.{known_in, node_in}
use Rattle.ir_verify_base.specs.Fits.{block_at}
use Rattle.ir_verify_base.specs.TypeRules.{arguments_differ}
use Rattle.ir_verify_base.proofs.Regions.{counted_more, left_more}
use Rattle.ir_verify_base.proofs.type_rules.any_differ.Goals as goal

pub regions-preserved : goal.regions-preserved
regions-preserved c = record {
  counted = counted_more c.regions.rest.now c.regions.number _ c.in-len1-up.len_at_least c.regions.invariant.counted;
  left = left_more region_row (λ k region. arguments_differ (known_in c.args.ctx.now c.args.known.now) region (block_at k (node_in c.args.ctx.now c.args.node.now))) c.regions.rest.now _ c.regions.number _
      c.arguments_differ.result c.in-len1-up.len_at_least c.regions.invariant.left c.arguments_differ.ensures c.if-arguments_differ.false;
}
