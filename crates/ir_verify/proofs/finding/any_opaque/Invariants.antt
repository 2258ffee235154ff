use Rattle.std.proofs.Common.{◌≡◌, length}
use Rattle.std.specs.List.{All}
use Rattle.ir_types.specs.Things.{IsType}
use Rattle.ir_verify_base.specs.Numbers.{typed}
use Rattle.ir_verify.specs.Beyond as beyond
use Rattle.ir_verify.proofs.finding.any_opaque.Given as goal

abbrev pub invariant-loop-named : goal.invariant-loop-named
invariant-loop-named l = record {
  known : All (λ t. IsType l.ctx t) l.rest;
  rest : beyond.any_opaque l.computes l.named (typed l.ctx l.rest) ≡ beyond.any_opaque l.computes l.rules (typed l.ctx l.types);
}

abbrev pub decreases-loop-named : goal.decreases-loop-named
decreases-loop-named l = length l.named
