-- The types that a pattern uses, by their numbers.
use Rattle.std.specs.Prelude.{ℕ, Bool, true, ◌&&◌}
use Rattle.std.specs.List.{list_all}
use Rattle.user_patterns_data.specs.declared.pattern.TypeConstraint.{TypeConstraint}
use Rattle.user_patterns_data.specs.declared.pattern.TypeConstraint.TheVariants as requested
use Rattle.user_patterns_data.specs.declared.pattern.ExtraConstant.{ExtraConstant}
use Rattle.user_patterns_data.specs.declared.pattern.ExtraConstant.TheVariants as extra
use Rattle.user_patterns_data.specs.declared.pattern.ConstantExpression.{ConstantExpression}
use Rattle.user_patterns_data.specs.declared.pattern.ConstantExpression.TheVariants as number
use Rattle.user_patterns_data.specs.declared.pattern.NewValue.{NewValue}
use Rattle.user_patterns_data.specs.declared.pattern.PatternOp.{PatternOp}
use Rattle.user_patterns_data.specs.Shapes.{PatternModel}
use Rattle.user_patterns_build.specs.CanBuild.{new_type}

module _ (ok : ℕ → Bool) where
  -- the types that a part uses pass a test
  abbrev pub extra_uses : ExtraConstant → Bool
  extra_uses (extra.Literal l) = ok l.ty
  extra_uses (extra.SameAs i) = true

  abbrev pub number_uses : ConstantExpression → Bool
  number_uses (number.Literal l) = ok l.ty
  number_uses (number.Width t) = ok t
  number_uses (number.Binary o i j) = true
  number_uses (number.Compare q i j) = true
  number_uses (number.Log2 i) = true
  number_uses (number.Require i) = true

  abbrev pub requested_uses : TypeConstraint → Bool
  requested_uses (requested.Narrower s t) = ok s && ok t
  requested_uses (requested.Integer t) = ok t

  abbrev pub pattern_op_uses : PatternOp → Bool
  pattern_op_uses o = ok o.ty

  abbrev pub new_uses : NewValue → Bool
  new_uses w = ok (new_type w)

  -- all types that a pattern uses pass the test
  abbrev pub uses_only : PatternModel → Bool
  uses_only p =
      list_all ok p.values && (list_all extra_uses p.extra && (list_all requested_uses p.type_constraints
      && (list_all number_uses p.given && (list_all pattern_op_uses p.old && list_all new_uses p.new))))
