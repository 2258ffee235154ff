use Rattle.std.proofs.Common.{List, ℕ, arith, sym, subst}
use Rattle.width_claims.specs.declared.walk.Branch.{Branch}
use Rattle.width_claims.specs.BitSerial.{AreBits}
use Rattle.width_claims.specs.Transitions.{IsSmall}
use Rattle.width_claims.proofs.Small.{bits_more}
use Rattle.width_claims.proofs.Branching.{digit_below, guess_less, guess_small, radix_small, step_small, tail_small}
use Rattle.width_claims.proofs.walk.+steps.Goals as goal

pub walk_step-digit-kept-requires : goal.walk_step-digit-kept-requires
walk_step-digit-kept-requires t c = radix_small c.args.step.now c.args.tail.now c.args.branch.now c.requires.small

pub walk_step-push_transition-requires : goal.walk_step-push_transition-requires
walk_step-push_transition-requires t c = guess_small c.args.step.now c.args.tail.now c.args.branch.now c.args.guess c.requires.small c.requires.guess

pub walk_step-branch_after-after-requires : goal.walk_step-branch_after-after-requires
walk_step-branch_after-after-requires t c =
    step_small c.args.step.now c.args.tail.now c.args.branch.now c.args.guess c.next-next.result c.requires.small c.requires.guess
    (digit_below c.args.step.now c.args.branch.now.state c.digit-kept.result c.args.guess c.next-next.result c.args.bits.now.items _ c.requires.bits (guess_less c.args.step.now c.args.guess c.requires.guess) c.digit-kept.ensures c.next-next.ensures c.as_slice.ensures.value)

pub walk_step-walk-requires : goal.walk_step-walk-requires
walk_step-walk-requires t c = (
  omega (arith, c.decreases),
  (
    subst (λ (bs : List ℕ). AreBits bs) (sym c.in_ok-push_bit.ensures) (bits_more c.args.step.now c.digit-kept.result c.args.guess c.args.bits.now.items c.requires.bits (guess_less c.args.step.now c.args.guess c.requires.guess)),
    subst (λ (b : Branch). IsSmall c.args.tail.now b) (sym c.branch_after-after.ensures)
        (tail_small c.args.step.now c.args.tail.now c.args.branch.now c.args.guess c.next-next.result c.requires.small c.requires.guess
        (digit_below c.args.step.now c.args.branch.now.state c.digit-kept.result c.args.guess c.next-next.result c.args.bits.now.items _ c.requires.bits (guess_less c.args.step.now c.args.guess c.requires.guess) c.digit-kept.ensures c.next-next.ensures c.as_slice.ensures.value)),
  ),
)
