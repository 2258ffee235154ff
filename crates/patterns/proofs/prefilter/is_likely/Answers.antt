use Rattle.std.proofs.Common.{◌≡◌, ◌∙◌, ap, sym, refl, subst, Bool, true, false, true≢false, None}
use Rattle.ir_event.specs.Modules.{module_in}
use Rattle.patterns_soundness.specs.base.RuleNames.{is_canonical}
use Rattle.patterns_soundness.specs.base.declared.rule.Rule.{Rule}
use Rattle.patterns_soundness.specs.base.declared.rule.Rule.TheVariants.{EraseDead, OpenBranch, OpenLoop, StopLoop}
use Rattle.patterns_plans.specs.Planned.{IsPlanAt}
use Rattle.patterns_plans.specs.reads.Reads.{header_of_node}
use Rattle.patterns.proofs.Lowering.{never, untried}
use Rattle.patterns.proofs.Regions.{head_is, never_open_branch, never_open_loop, when_stop_loop}
use Rattle.patterns.proofs.prefilter.is_likely.Goals as goal

-- a rule that doesn't erase
abbrev erases : Rule → Bool
erases EraseDead = true
erases _ = false

other : {X : Type 0} (r : Rule) → erases r ≡ false → r ≡ EraseDead → X
other r n e = absurd (true≢false (sym (ap erases e) ∙ n))

pub returns-in-EraseDead : goal.returns-in-EraseDead
returns-in-EraseDead c =
    let pattern_set = ap is_canonical c.in-EraseDead.is in
    record {
      likely = λ e. record { attempted = pattern_set; dead = λ f. c.is_dead.ensures.dead e };
      left_out = λ e. never c.args.world.now c.args.op c.args.rule pattern_set (subst (λ r. IsPlanAt r c.args.world.now c.args.op None) (sym c.in-EraseDead.is) (c.is_dead.ensures.left_out e));
    }

pub returns-in-OpenBranch-clause-likely : goal.returns-in-OpenBranch-clause-likely
returns-in-OpenBranch-clause-likely c e = record { attempted = ap is_canonical c.in-OpenBranch.is; dead = λ f. other c.args.rule (ap erases c.in-OpenBranch.is) f }

pub returns-in-OpenLoop-clause-likely : goal.returns-in-OpenLoop-clause-likely
returns-in-OpenLoop-clause-likely c e = record { attempted = ap is_canonical c.in-OpenLoop.is; dead = λ f. other c.args.rule (ap erases c.in-OpenLoop.is) f }

pub returns-in-StopLoop-clause-likely : goal.returns-in-StopLoop-clause-likely
returns-in-StopLoop-clause-likely c e = record { attempted = ap is_canonical c.in-StopLoop.is; dead = λ f. other c.args.rule (ap erases c.in-StopLoop.is) f }

pub returns-in-OpenBranch-clause-left_out : goal.returns-in-OpenBranch-clause-left_out
returns-in-OpenBranch-clause-left_out c e =
    let t = (module_in c.args.world.now).tree in
    never c.args.world.now c.args.op c.args.rule (ap is_canonical c.in-OpenBranch.is)
    (λ o f n insertion. never_open_branch t n insertion o c.args.rule c.in-OpenBranch.is (c.may_choose.ensures insertion o (head_is c.args.op t (header_of_node c.args.world.now.ctx c.args.node.now) o c.requires f) e))

pub returns-in-OpenLoop-clause-left_out : goal.returns-in-OpenLoop-clause-left_out
returns-in-OpenLoop-clause-left_out c e =
    let t = (module_in c.args.world.now).tree in
    never c.args.world.now c.args.op c.args.rule (ap is_canonical c.in-OpenLoop.is)
    (λ o f n insertion. never_open_loop t n insertion o c.args.rule c.in-OpenLoop.is (c.may_go_once.ensures insertion o (head_is c.args.op t (header_of_node c.args.world.now.ctx c.args.node.now) o c.requires f) e))

pub returns-in-StopLoop-clause-left_out : goal.returns-in-StopLoop-clause-left_out
returns-in-StopLoop-clause-left_out c e =
    never c.args.world.now c.args.op c.args.rule (ap is_canonical c.in-StopLoop.is)
    (λ o f n insertion. when_stop_loop (module_in c.args.world.now).tree n insertion c.args.op o f None c.args.rule c.in-StopLoop.is (sym (c.may_stop.ensures insertion e)))

pub returns-then-is_canonical : goal.returns-then-is_canonical
returns-then-is_canonical c =
    let pattern_set = sym c.is_canonical.ensures ∙ c.if-is_canonical.true in
    record {
      likely = λ e. record { attempted = pattern_set; dead = λ f. absurd (c.in_default.not-EraseDead f) };
      left_out = λ e. never c.args.world.now c.args.op c.args.rule pattern_set (c.may_match.ensures e);
    }
