use Rattle.std.proofs.Common.{◌≡◌, ◌-◌, ◌∙◌, sym, ap, arith, List, ℕ, map, slice_get}
use Rattle.dialects_int.specs.declared.operations.Rule.{Rule}
use Rattle.dialects_int.specs.Folds.{rules}
use Rattle.dialects_int.proofs.RuleTable.{rule_is, rule_before}
use Rattle.dialects_int.proofs.operations.rule_of.Goals as goal

pub returns-then-number-lt-FIRST : goal.returns-then-number-lt-FIRST
returns-then-number-lt-FIRST c things sound = sym (rule_before things c.args.name sound (omega arith))

pub returns : goal.returns
returns c things sound =
    let e : c.number-number.result - 5 ≡ c.args.name - 5 = omega arith in
    c.rule_at.ensures
    ∙ ap (slice_get (map (λ (row : List ℕ × Rule). row.1) rules)) e
    ∙ sym (rule_is things c.args.name sound (omega arith))
