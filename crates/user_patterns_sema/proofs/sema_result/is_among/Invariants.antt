use Rattle.std.proofs.Common.{◌≡◌, eqb, length}
use Rattle.std.specs.List.{list_any}
use Rattle.user_patterns_sema.proofs.sema_result.is_among.Given as goal

abbrev pub invariant-numbers : goal.invariant-numbers
invariant-numbers l = list_any (eqb l.fn.number) l.rest ≡ list_any (eqb l.fn.number) l.fn.numbers

abbrev pub decreases-numbers : goal.decreases-numbers
decreases-numbers l = length l.rest
