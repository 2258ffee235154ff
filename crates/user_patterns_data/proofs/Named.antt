-- The operations of a pattern fold as its steps compute.
use Rattle.std.proofs.Common.{◌≡◌, Some, refl}
use Rattle.dialects_int.specs.declared.operations.Arithmetic.{Arithmetic}
use Rattle.dialects_int.specs.declared.operations.Arithmetic.TheVariants as op
use Rattle.dialects_int.specs.declared.operations.Cast.{Cast}
use Rattle.dialects_int.specs.declared.operations.Cast.TheVariants as cast
use Rattle.dialects_int.specs.declared.operations.Rule.TheVariants as rule
use Rattle.dialects_int.specs.Folds.{rule_of, rules}
use Rattle.user_patterns_data.specs.Names.{NamesFold, cast_name, pair_name}

pairs_fold : (o : Arithmetic) → rule_of (pair_name o) ≡ Some (rule.Binary o)
unfolding rule_of rules
pairs_fold op.Add = refl
pairs_fold op.Subtract = refl
pairs_fold op.Multiply = refl
pairs_fold op.ShiftLeft = refl
pairs_fold op.DivideSigned = refl
pairs_fold op.DivideUnsigned = refl
pairs_fold op.RemainderSigned = refl
pairs_fold op.RemainderUnsigned = refl
pairs_fold op.And = refl
pairs_fold op.Or = refl
pairs_fold op.ExclusiveOr = refl
pairs_fold op.ShiftRightSigned = refl
pairs_fold op.ShiftRightUnsigned = refl
pairs_fold op.MaximumSigned = refl
pairs_fold op.MaximumUnsigned = refl
pairs_fold op.MinimumSigned = refl
pairs_fold op.MinimumUnsigned = refl

casts_fold : (c : Cast) → rule_of (cast_name c) ≡ Some (rule.IntegerCast c)
unfolding rule_of rules
casts_fold cast.ExtendSigned = refl
casts_fold cast.ExtendUnsigned = refl
casts_fold cast.Truncate = refl

pub names_fold : NamesFold
unfolding rule_of rules
names_fold = (pairs_fold, casts_fold, refl, refl, refl, refl)
