use Rattle.std.proofs.Common.{◌≡◌, length}
use Rattle.std.specs.List.{All, list_all}
use Rattle.ir_types.specs.Things.{IsType}
use Rattle.ir_verify_base.specs.Numbers.{typed, known_in}
use Rattle.ir_verify_base.specs.Fits.{fits}
use Rattle.ir_verify_base.proofs.fits.all_fit.Given as goal

abbrev pub invariant-loop-rest : goal.invariant-loop-rest
invariant-loop-rest l = record {
  numbers : All (λ t. IsType l.ctx t) l.rest;
  left : list_all (fits (known_in l.ctx l.known) l.rule) (typed l.ctx l.rest) ≡ list_all (fits (known_in l.ctx l.known) l.rule) (typed l.ctx l.fn.types);
}

abbrev pub decreases-loop-rest : goal.decreases-loop-rest
decreases-loop-rest l = length l.rest
