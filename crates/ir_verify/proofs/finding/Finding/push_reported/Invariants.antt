use Rattle.std.proofs.Common.{◌≡◌, ◌++◌, drop}
use Rattle.std.specs.List.{filter}
use Rattle.ir_verify.specs.Sets.{is_reported}
use Rattle.ir_verify.proofs.finding.Finding.push_reported.Given as goal

abbrev pub invariant-loop-rule : goal.invariant-loop-rule
invariant-loop-rule l = l.numbers.items ++ filter (is_reported l.self) (drop l.rule-index l.broken) ≡ l.initial.numbers.items ++ filter (is_reported l.self) l.broken
