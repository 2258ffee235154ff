use Rattle.std.proofs.Common.{◌≡◌, length}
use Rattle.std.specs.List.{list_any}
use Rattle.effects.specs.Dead.{is_result_of}
use Rattle.greedy.proofs.users.has_result.Given as goal

abbrev pub invariant-values : goal.invariant-values
invariant-values l = list_any (is_result_of l.fn.op) l.rest ≡ list_any (is_result_of l.fn.op) l.fn.values

abbrev pub decreases-values : goal.decreases-values
decreases-values l = length l.rest
