use Rattle.std.proofs.Common.{◌≡◌, map, option_map, ◌++◌}
use Rattle.std.specs.Option.{option_copied}
use Rattle.mlir_work_script_base.specs.Items.{items_after}
use Rattle.mlir_work_script_base.proofs.Listed.{left_of}
use Rattle.conversion.specs.Converting.{rules_of}
use Rattle.mlir_work_transforms.proofs.Listed.{number_at}
use Rattle.mlir_work_transforms.proofs.rules.rules_in.Given as goal

-- the rules found so far, followed by those of the remaining items, are those of all items
abbrev pub invariant-items : goal.invariant-items
invariant-items l = option_map (λ rs. l.rules.items ++ rs) (rules_of (map number_at (items_after (option_copied l.rest)))) ≡ rules_of (map number_at (items_after (option_copied l.fn.list)))

abbrev pub decreases-items : goal.decreases-items
decreases-items l = left_of (option_copied l.rest)
