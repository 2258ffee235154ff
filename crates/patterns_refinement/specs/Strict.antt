-- Patterns whose operations are all binary arithmetic on one type. In a match of such a pattern, a poison value makes
-- the root poison, and the new operations are defined for poison operands. So if it refines for all values at all
-- types, it refines what a module computes, without a premise on the matched values.
use Rattle.std.specs.Prelude.{◌≡◌, ◌≤◌, ℕ, ◌==◌, map, Bool, true, false, ◌&&◌, Option, Some, None}
use Rattle.std.specs.List.{list_all}
use Rattle.ir_types.specs.declared.bits.BitsKind.TheVariants as kind
use Rattle.ir_event.specs.Modules.{Module}
use Rattle.dialects_int.specs.declared.operations.Arithmetic.{Arithmetic}
use Rattle.dialects_int.specs.declared.operations.Arithmetic.TheVariants as op
use Rattle.patterns_base.specs.Rewrites.{becomes}
use Rattle.user_patterns_check.specs.declared.verdict.Verdict.TheVariants as verdict
use Rattle.user_patterns_check.specs.Families.{IsVerdict}
use Rattle.user_patterns_data.specs.declared.pattern.TypeConstraint.{TypeConstraint}
use Rattle.user_patterns_data.specs.declared.pattern.TypeConstraint.TheVariants as requested
use Rattle.user_patterns_data.specs.declared.pattern.Expression.{Expression}
use Rattle.user_patterns_data.specs.declared.pattern.Expression.TheVariants as form
use Rattle.user_patterns_data.specs.declared.pattern.NewValue.{NewValue}
use Rattle.user_patterns_data.specs.declared.pattern.NewValue.TheVariants as new
use Rattle.user_patterns_data.specs.declared.pattern.PatternOp.{PatternOp}
use Rattle.user_patterns_data.specs.Fitting.{content_at}
use Rattle.user_patterns_data.specs.Shapes.{PatternModel}
use Rattle.user_patterns_data.specs.WellFormed.{is_well_formed}
use Rattle.user_patterns_widths.specs.AllWidths.{first_type, holds_at_all_widths, is_variable_type}
use Rattle.user_patterns_widths.specs.Lasting.{RefinesAtAllWidths}
use Rattle.user_patterns_build.specs.CanBuild.{can_build}
use Rattle.user_patterns_apply.specs.Own.{user_pattern_rewrite}
use Rattle.patterns_refinement.specs.Meaning.{Assignment}
use Rattle.patterns_refinement.specs.Applied.{IsProper, is_typed}
use Rattle.patterns_refinement.specs.Keeping.{Computing, Improves, IsReady, done_after}

-- ---- claims

-- pattern p rewrites a ready module to a ready module
abbrev pub KeepsReadyUserPattern : PatternModel → Type 0
KeepsReadyUserPattern p = (m n : Module) (x : ℕ) → IsReady m → user_pattern_rewrite p m x ≡ becomes n → IsReady n

-- for all outcomes with which the module computes, the rewritten module computes a refinement, whether the operation
-- at which the pattern is applied is executed or not
abbrev pub KeepsComputingUserPattern : PatternModel → Type 0
KeepsComputingUserPattern p =
    (m n : Module) (x : ℕ) (a : Assignment) (done : ℕ → Bool) → IsReady m → Computing a done m.tree
    → user_pattern_rewrite p m x ≡ becomes n → Improves a done m (done_after m.next x done) n.tree

-- ---- strict patterns

-- binary arithmetic, whose result is known only if both operands are
abbrev pub is_strict_form : Expression → Bool
is_strict_form (form.Binary o i j) = true
is_strict_form _ = false

abbrev pub pattern_op_is_strict : PatternOp → Bool
pattern_op_is_strict o = is_strict_form o.form

-- arithmetic that has a value for all operands: no division and no shift
abbrev pub is_total : Arithmetic → Bool
is_total op.Add = true
is_total op.Subtract = true
is_total op.Multiply = true
is_total op.ShiftLeft = false
is_total op.DivideSigned = false
is_total op.DivideUnsigned = false
is_total op.RemainderSigned = false
is_total op.RemainderUnsigned = false
is_total op.And = true
is_total op.Or = true
is_total op.ExclusiveOr = true
is_total op.ShiftRightSigned = false
is_total op.ShiftRightUnsigned = false
is_total op.MaximumSigned = true
is_total op.MaximumUnsigned = true
is_total op.MinimumSigned = true
is_total op.MinimumUnsigned = true

abbrev pub is_total_form : Expression → Bool
is_total_form (form.Binary o i j) = is_total o
is_total_form _ = false

abbrev pub new_is_total : NewValue → Bool
new_is_total (new.Operation o) = is_total_form o.form
new_is_total (new.Constant i t) = true

-- the only width constraint is on the type with this number
abbrev pub is_requested_of : ℕ → TypeConstraint → Bool
is_requested_of t (requested.Narrower s u) = (s == t) && (u == t)
is_requested_of t (requested.Integer u) = u == t

-- the matched operations are strict and the new ones total; everything has one type, and so have the numbers of new
-- constants (a truth value would be of that type only at width 1)
abbrev pub is_strict_at : PatternModel → Option ℕ → Bool
is_strict_at p None = false
is_strict_at p (Some t) =
    is_variable_type p t && (list_all (is_requested_of t) p.type_constraints
    && (list_all pattern_op_is_strict p.old && (list_all new_is_total p.new && is_typed (map (λ k. kind.Index) p.value_types) p)))

abbrev pub is_strict : PatternModel → Bool
is_strict p = is_strict_at p (first_type p.old)

-- ---- the laws

-- such a pattern that refines at all types refines what modules compute
abbrev pub StrictKeep : Type 0
StrictKeep = (p : PatternModel) → is_strict p ≡ true → IsProper p → RefinesAtAllWidths p → KeepsReadyUserPattern p × KeepsComputingUserPattern p

-- the same for a pattern that a check found to hold up to some width, and whose sides are one polynomial or are
-- computed bit by bit: at all widths, and for `index`
abbrev pub HoldingKeep : Type 0
HoldingKeep =
    (p : PatternModel) → holds_at_all_widths p ≡ true → IsProper p
    → (most : ℕ) → 1 ≤ most → IsVerdict (content_at p) p.types most verdict.Holds
    → KeepsReadyUserPattern p × KeepsComputingUserPattern p

-- the same for a pattern of a registry that `check` called `holds` without a width; a registry ensures the other
-- premises, that the pattern is well-formed and can be built
abbrev pub RegisteredKeep : Type 0
RegisteredKeep =
    (p : PatternModel) → is_well_formed p ≡ true → can_build p ≡ true → holds_at_all_widths p ≡ true
    → (most : ℕ) → 1 ≤ most → IsVerdict (content_at p) p.types most verdict.Holds
    → KeepsReadyUserPattern p × KeepsComputingUserPattern p
