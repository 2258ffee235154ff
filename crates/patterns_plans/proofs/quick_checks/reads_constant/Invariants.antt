use Rattle.std.proofs.Common.{◌≡◌, length}
use Rattle.std.specs.List.{list_any}
use Rattle.ir_event.specs.Modules.{module_in}
use Rattle.patterns_matchers.specs.Looks.{is_constant}
use Rattle.patterns_plans.proofs.quick_checks.reads_constant.Given as goal

abbrev pub invariant-operands : goal.invariant-operands
invariant-operands l = list_any (is_constant (module_in l.world).tree) l.rest ≡ list_any (is_constant (module_in l.world).tree) l.node.head.operands

abbrev pub decreases-operands : goal.decreases-operands
decreases-operands l = length l.rest
