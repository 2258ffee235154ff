use Rattle.std.proofs.Common.{◌≡◌, length}
use Rattle.std.specs.List.{All}
use Rattle.ir_types.specs.Things.{IsType}
use Rattle.ir_verify_base.specs.Numbers.{typed, known_in}
use Rattle.ir_verify_base.specs.Fits.{first_fit}
use Rattle.ir_verify_base.proofs.fits.types_fit.Given as goal

abbrev pub invariant-loop-rules : goal.invariant-loop-rules
invariant-loop-rules l = record {
  numbers : All (λ t. IsType l.ctx t) l.rest;
  left : first_fit (known_in l.ctx l.known) l.rules l.row.more (typed l.ctx l.rest) ≡ first_fit (known_in l.ctx l.known) l.row.first.now l.row.more (typed l.ctx l.fn.types);
}

abbrev pub decreases-loop-rules : goal.decreases-loop-rules
decreases-loop-rules l = length l.rules
