use Rattle.std.proofs.Common.{◌*◌, ◌+◌}
use Rattle.user_patterns_sema.proofs.numbers.+number.Given as goal

abbrev pub decreases-analyze_number : goal.decreases-analyze_number
decreases-analyze_number l = 100 * l.depth

abbrev pub decreases-arguments : goal.decreases-arguments
decreases-arguments l = 100 * l.depth + l.headroom + 1

abbrev pub decreases-function : goal.decreases-function
decreases-function l = 100 * l.depth + 30
