use Rattle.std.proofs.Common.{◌*◌, ◌+◌}
use Rattle.user_patterns_sema.proofs.terms.+term.Given as goal

abbrev pub decreases-term : goal.decreases-term
decreases-term l = 100 * l.depth

abbrev pub decreases-operands : goal.decreases-operands
decreases-operands l = 100 * l.depth + l.headroom + 1

abbrev pub decreases-operation : goal.decreases-operation
decreases-operation l = 100 * l.depth + 30

abbrev pub decreases-typed_operation : goal.decreases-typed_operation
decreases-typed_operation l = 100 * l.depth + 31
