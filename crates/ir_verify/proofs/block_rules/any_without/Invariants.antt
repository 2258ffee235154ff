use Rattle.std.proofs.Common.{◌≡◌, ◌+◌, length, map}
use Rattle.op_registry.specs.Registry.{region_row}
use Rattle.ir_verify_base.specs.Numbers.{node_in}
use Rattle.ir_verify_base.specs.Fits.{any_from, any_region}
use Rattle.ir_verify.specs.BlockRules.{is_without}
use Rattle.ir_verify.proofs.block_rules.any_without.Given as goal

abbrev pub invariant-regions : goal.invariant-regions
invariant-regions l = record {
  counted : l.number + length l.rest ≡ length l.fn.regions;
  left : any_from (is_without (node_in l.ctx l.node)) l.number (map region_row l.rest) ≡ any_region (is_without (node_in l.ctx l.node)) (map region_row l.fn.regions);
}

abbrev pub decreases-regions : goal.decreases-regions
decreases-regions l = length l.rest
