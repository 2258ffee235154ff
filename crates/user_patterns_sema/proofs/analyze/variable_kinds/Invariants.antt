use Rattle.std.proofs.Common.{◌≡◌, ◌++◌, length, map}
use Rattle.user_patterns_data.specs.declared.pattern.PatternType.TheVariants as ty
use Rattle.user_patterns_sema.proofs.analyze.variable_kinds.Given as goal

abbrev pub invariant-places : goal.invariant-places
invariant-places l = l.found.items ++ map ty.Variable l.rest ≡ map ty.Variable l.fn.places

abbrev pub decreases-places : goal.decreases-places
decreases-places l = length l.rest
