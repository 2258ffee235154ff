use Rattle.std.proofs.Common.{◌≡◌, ◌-◌, ◌++◌}
use Rattle.ir_verify.specs.Breaks.{numbers_from}
use Rattle.ir_verify.specs.Sets.{bits_of, rules_in}
use Rattle.ir_verify.proofs.rules.RuleSet.numbers.Given as goal

abbrev pub invariant-loop-number : goal.invariant-loop-number
invariant-loop-number l = l.numbers.items ++ numbers_from l.number (bits_of (25 - l.number) l.rest) ≡ rules_in l.fn.self
