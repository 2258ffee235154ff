use Rattle.std.proofs.Common.{◌≡◌, ◌+◌, length, map}
use Rattle.op_registry.specs.Registry.{region_row}
use Rattle.ir_verify_base.specs.Numbers.{known_in, node_in}
use Rattle.ir_verify_base.specs.Fits.{any_from, block_at}
use Rattle.ir_verify_base.specs.TypeRules.{arguments_differ, any_differ}
use Rattle.ir_verify_base.proofs.type_rules.any_differ.Given as goal

abbrev pub invariant-regions : goal.invariant-regions
invariant-regions l = record {
  counted : l.number + length l.rest ≡ length l.fn.regions;
  left : any_from (λ k region. arguments_differ (known_in l.ctx l.known) region (block_at k (node_in l.ctx l.node))) l.number (map region_row l.rest)
      ≡ any_differ (known_in l.ctx l.known) (map region_row l.fn.regions) (node_in l.ctx l.node);
}

abbrev pub decreases-regions : goal.decreases-regions
decreases-regions l = length l.rest
