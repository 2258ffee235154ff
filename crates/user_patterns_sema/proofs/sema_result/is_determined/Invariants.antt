use Rattle.std.proofs.Common.{◌≡◌, length}
use Rattle.std.specs.List.{list_any}
use Rattle.user_patterns_sema_base.specs.Types.{kind_of, same_kind}
use Rattle.user_patterns_data.specs.declared.pattern.PatternType.TheVariants as ty
use Rattle.user_patterns_sema.proofs.sema_result.is_determined.Given as goal

abbrev pub invariant-types : goal.invariant-types
invariant-types l = list_any (λ i. same_kind (kind_of i l.fn.value_types) (ty.Variable l.variable)) l.rest ≡ list_any (λ i. same_kind (kind_of i l.fn.value_types) (ty.Variable l.variable)) l.fn.olds

abbrev pub decreases-types : goal.decreases-types
decreases-types l = length l.rest
