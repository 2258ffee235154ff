use Rattle.std.proofs.Common.{◌≡◌, ◌++◌, length, map}
use Rattle.mlir_work_cli.specs.ListedKinds.{listed_kinds}
use Rattle.mlir_work_cli.proofs.listed_kinds.kinds_of.Given as goal

-- the kinds so far, followed by those of the remaining items, are those of all items
abbrev pub invariant-items : goal.invariant-items
invariant-items l = l.named.items ++ listed_kinds (map (λ s. s.now) l.rest) ≡ listed_kinds (map (λ s. s.now) l.items)

abbrev pub decreases-items : goal.decreases-items
decreases-items l = length l.rest
