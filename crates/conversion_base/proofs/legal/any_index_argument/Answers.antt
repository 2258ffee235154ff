use Rattle.std.proofs.Common.{map}
use Rattle.std.specs.Prelude.{option_map}
use Rattle.ir_event.specs.types.Terms.{type_term}
use Rattle.conversion_base.specs.Targets.{index_argument}
use Rattle.conversion_base.proofs.Readings.{any_here, any_next}
use Rattle.conversion_base.proofs.legal.any_index_argument.Goals as goal

pub returns-then-has_index_argument : goal.returns-then-has_index_argument
returns-then-has_index_argument c =
    any_here index_argument (option_map (map (type_term c.args.ctx.now))) c.args.node.now.arguments c.regions.region c.region_count-count.result c.regions-test.true c.region_count-count.ensures c.regions.invariant
    c.has_index_argument.result c.has_index_argument.ensures c.if-has_index_argument.true

pub regions-preserved : goal.regions-preserved
regions-preserved c =
    any_next index_argument (option_map (map (type_term c.args.ctx.now))) c.args.node.now.arguments c.regions.region c.region_count-count.result c.regions-test.true c.region_count-count.ensures c.regions.invariant
    c.has_index_argument.result c.has_index_argument.ensures c.if-has_index_argument.false
