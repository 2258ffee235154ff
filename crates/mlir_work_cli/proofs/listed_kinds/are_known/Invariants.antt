use Rattle.std.proofs.Common.{◌≡◌, length, map}
use Rattle.std.specs.List.{list_all}
use Rattle.mlir_work_cli.specs.ListedKinds.{is_known}
use Rattle.mlir_work_cli.proofs.listed_kinds.are_known.Given as goal

-- the remaining items decide
abbrev pub invariant-items : goal.invariant-items
invariant-items l = list_all is_known (map (λ s. s.now) l.rest) ≡ list_all is_known (map (λ s. s.now) l.items)

abbrev pub decreases-items : goal.decreases-items
decreases-items l = length l.rest
