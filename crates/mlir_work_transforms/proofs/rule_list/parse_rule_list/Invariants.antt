use Rattle.std.proofs.Common.{◌≡◌, List, length}
use Rattle.mlir_work_registry.specs.Registry.{registry_model}
use Rattle.mlir_work_registry.specs.RuleLists.{names_left, names_of}
use Rattle.mlir_work_transforms.specs.RuleLists.{Listed, all_listed, each_listed}
use Rattle.mlir_work_transforms.specs.Views.{IsRuleListOf}
use Rattle.mlir_work_transforms.proofs.Joined.{joined}
use Rattle.mlir_work_transforms.proofs.rule_list.parse_rule_list.Given as goal

-- the names resolved so far, followed by the remaining ones, are those of the whole list
abbrev pub invariant-names : goal.invariant-names
invariant-names l = record {
  done : List Listed;
  listed : IsRuleListOf l.rule_list done;
  whole : joined (registry_model l.fn.registry) done (each_listed (registry_model l.fn.registry) (names_left l.names)) ≡ all_listed (registry_model l.fn.registry) (names_of l.fn.list);
}

abbrev pub decreases-names : goal.decreases-names
decreases-names l = length (names_left l.names)
