use Rattle.std.proofs.Common.{arith, ◌≡◌, ◌∙◌, ◌+◌, ap, sym, subst, List, ℕ}
use Rattle.std.specs.Prelude.{Vec}
use Rattle.std.specs.declared.alloc.Global.{Global}
use Rattle.ir_event.specs.types.Terms.{name_term}
use Rattle.patterns_soundness.specs.base.Rules.{rules_for}
use Rattle.patterns_soundness.specs.base.declared.rule.Rule.{Rule}
use Rattle.patterns.proofs.ByNumber.{AreUpTo, all_rows, one_more}
use Rattle.patterns.proofs.rules_by_name.by_name.Goals as goal

pub numbers-preserved : goal.numbers-preserved
numbers-preserved c =
    let rs = c.args.rules.now in (
      omega (arith, c.numbers-test.true),
      subst (λ (rows : List (Vec Rule Global)). AreUpTo rs (c.numbers.number + 1) rows) (sym c.in_ok-push.ensures.items)
          (one_more rs c.numbers.number c.numbers.rows.items c.in_ok-row.row c.rules_of-listed.result.now c.numbers.invariant.1 c.in_ok-row.ensures (λ k s. c.rules_of-listed.ensures k s ∙ ap (λ (n : ℕ). rules_for (name_term k n)) c.new.ensures)),
    )

pub returns : goal.returns
returns c =
    let rs = c.args.rules.now in
    let e : c.numbers.number ≡ 39 = omega (arith, c.numbers.invariant.0, c.numbers-test.false) in
    all_rows rs c.numbers.rows.items (subst (λ (n : ℕ). AreUpTo rs n c.numbers.rows.items) e c.numbers.invariant.1)
