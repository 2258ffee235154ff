use Rattle.std.proofs.Common.{◌≡◌, length}
use Rattle.std.specs.List.{All}
use Rattle.ir_types.specs.Things.{ContextModel, IsType}
use Rattle.ir_verify_base.specs.Numbers.{typed}
use Rattle.ir_verify_base.specs.Fits.{first_called}
use Rattle.ir_verify_base.proofs.type_rules.first_called.Given as goal

abbrev pub invariant-loop-named : goal.invariant-loop-named
invariant-loop-named l = record {
  left : (c : ContextModel) → first_called l.wanted l.named (typed c l.rest) ≡ first_called l.wanted l.fn.rules (typed c l.fn.types);
  known : (c : ContextModel) → All (λ t. IsType c t) l.fn.types → All (λ t. IsType c t) l.rest;
}

abbrev pub decreases-loop-named : goal.decreases-loop-named
decreases-loop-named l = length l.named
