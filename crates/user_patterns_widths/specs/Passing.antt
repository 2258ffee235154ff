-- Patterns that match no `select` and create no division or remainder. A check tests values without poison. In such a
-- pattern a poison operand makes the root poison, and the new values are defined for poison operands too. So a check
-- without poison covers poison too.
use Rattle.std.specs.Prelude.{Bool, true, false, ◌&&◌, not}
use Rattle.std.specs.List.{list_all}
use Rattle.user_patterns_check.specs.Outcomes.{divides}
use Rattle.user_patterns_data.specs.declared.pattern.Expression.{Expression}
use Rattle.user_patterns_data.specs.declared.pattern.Expression.TheVariants as form
use Rattle.user_patterns_data.specs.declared.pattern.NewValue.{NewValue}
use Rattle.user_patterns_data.specs.declared.pattern.NewValue.TheVariants as new
use Rattle.user_patterns_data.specs.declared.pattern.PatternOp.{PatternOp}
use Rattle.user_patterns_data.specs.Shapes.{PatternModel}

-- the operation's result is poison if an operand is; this is false for `select`, whose unselected operand may be
-- poison
abbrev pub passes_poison : Expression → Bool
passes_poison (form.Binary o i j) = true
passes_poison (form.Compare q i j) = true
passes_poison (form.Select c i j) = false
passes_poison (form.IntegerCast c i) = true
passes_poison (form.IndexCast c i) = true

abbrev pub pattern_op_passes : PatternOp → Bool
pattern_op_passes o = passes_poison o.form

-- the operation is defined for all operands; this is false for a division or a remainder
abbrev pub is_always_defined : Expression → Bool
is_always_defined (form.Binary o i j) = not (divides o)
is_always_defined (form.Compare q i j) = true
is_always_defined (form.Select c i j) = true
is_always_defined (form.IntegerCast c i) = true
is_always_defined (form.IndexCast c i) = true

abbrev pub new_is_defined : NewValue → Bool
new_is_defined (new.Operation o) = is_always_defined o.form
new_is_defined (new.Constant i t) = true

-- matched operations propagate poison, and new values are always defined
abbrev pub is_passing : PatternModel → Bool
is_passing p = list_all pattern_op_passes p.old && list_all new_is_defined p.new
