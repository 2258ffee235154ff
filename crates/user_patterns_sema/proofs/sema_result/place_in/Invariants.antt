use Rattle.std.proofs.Common.{◌≡◌, ◌+◌, length}
use Rattle.user_patterns_sema.specs.Sema.{place_in}
use Rattle.user_patterns_sema.proofs.sema_result.place_in.Given as goal

abbrev pub invariant-numbers : goal.invariant-numbers
invariant-numbers l = record {
  place : place_in l.place l.fn.number l.rest ≡ place_in 0 l.fn.number l.fn.numbers;
  within : l.place + length l.rest ≡ length l.fn.numbers;
}

abbrev pub decreases-numbers : goal.decreases-numbers
decreases-numbers l = length l.rest
