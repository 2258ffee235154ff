-- A pattern as a record of lists.
use Rattle.std.specs.Prelude.{ℕ, List}
use Rattle.user_patterns_data.specs.declared.pattern.PatternType.{PatternType}
use Rattle.user_patterns_data.specs.declared.pattern.PatternOp.{PatternOp}
use Rattle.user_patterns_data.specs.declared.pattern.ExtraConstant.{ExtraConstant}
use Rattle.user_patterns_data.specs.declared.pattern.ConstantExpression.{ConstantExpression}
use Rattle.user_patterns_data.specs.declared.pattern.NewValue.{NewValue}
use Rattle.user_patterns_data.specs.declared.pattern.TypeConstraint.{TypeConstraint}
use Rattle.user_patterns_data.specs.declared.pattern.Pattern.{Pattern}

pub record PatternModel : Type 0 where
  pub types : ℕ
  pub value_types : List PatternType
  pub values : List ℕ
  pub constants : List ℕ
  pub extra : List ExtraConstant
  pub type_constraints : List TypeConstraint
  pub given : List ConstantExpression
  pub old : List PatternOp
  pub root : ℕ
  pub new : List NewValue
  pub result : ℕ

abbrev pub pattern_model : Pattern → PatternModel
pattern_model p =
    record {
      types = p.types;
      value_types = p.value_types.items;
      values = p.values.items;
      constants = p.constants.items;
      extra = p.extra.items;
      type_constraints = p.type_constraints.items;
      given = p.given.items;
      old = p.old.items;
      root = p.root;
      new = p.new.items;
      result = p.result;
    }
