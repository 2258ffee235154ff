use Rattle.std.proofs.Common.{◌≡◌, ◌++◌}
use Rattle.std.specs.Prelude.{map}
use Rattle.mlir_work_cli.specs.ListedKinds.{items_of, items_up_to}
use Rattle.mlir_work_cli.proofs.listed_kinds.items_of.Given as goal

-- the items so far, followed by those of the rest, are all items
abbrev pub invariant-items : goal.invariant-items
invariant-items l = map (λ s. s.now) l.items.items ++ items_up_to l.most l.rest ≡ items_of l.list

abbrev pub decreases-items : goal.decreases-items
decreases-items l = l.most
