use Rattle.std.proofs.Common.{arith, ◌∙◌, ◌<◌, ℕ, subst, sym}
use Rattle.ir_types.specs.Bits.{width_of}
use Rattle.user_patterns_check.proofs.Found.{none_yet}
use Rattle.user_patterns_check.proofs.Logs.{logs_more, logs_found, lt_power}
use Rattle.user_patterns_check.proofs.evaluation.log.Goals as goal

pub powers-init : goal.powers-init
powers-init c = (omega arith, none_yet _)

pub powers-preserved : goal.powers-preserved
powers-preserved c = (omega (arith, c.powers-test.true), logs_more _ c.powers.k c.powers.invariant.1 (λ e. c.if-bits-power.false (e ∙ sym c.power.ensures)))

pub returns-then-bits-power-clause-value : goal.returns-then-bits-power-clause-value
returns-then-bits-power-clause-value c =
    sym (logs_found c.args.bits.now.value (width_of c.args.bits.now.kind) c.powers.k (subst (λ (w : ℕ). c.powers.k < w) c.width-width.ensures c.powers-test.true) c.powers.invariant.1 (c.if-bits-power.true ∙ c.power.ensures))

pub returns-then-bits-power-clause-below : goal.returns-then-bits-power-clause-below
returns-then-bits-power-clause-below c = lt_power c.powers.k (width_of c.args.bits.now.kind) (subst (λ (w : ℕ). c.powers.k < w) c.width-width.ensures c.powers-test.true)
