use Rattle.std.proofs.Common.{◌≡◌, ◌-◌, drop}
use Rattle.std.specs.List.{list_any}
use Rattle.ir_event.specs.Modules.{node_meaning}
use Rattle.conversion_base.specs.Targets.{index_argument}
use Rattle.conversion_base.proofs.legal.any_index_argument.Given as goal

abbrev pub invariant-regions : goal.invariant-regions
invariant-regions l = list_any index_argument (drop l.region (node_meaning l.ctx l.node).arguments) ≡ list_any index_argument (node_meaning l.ctx l.node).arguments

abbrev pub decreases-regions : goal.decreases-regions
decreases-regions l = l.count - l.region
