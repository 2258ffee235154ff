use Rattle.std.proofs.Common.{◌≡◌, ◌++◌}
use Rattle.std.specs.Prelude.{replicate}
use Rattle.user_patterns_registry.proofs.widths.alike.Given as goal

abbrev pub invariant-types : goal.invariant-types
invariant-types l = l.widths.items ++ replicate l.left l.fn.width ≡ replicate l.fn.types l.fn.width

abbrev pub decreases-types : goal.decreases-types
decreases-types l = l.left
