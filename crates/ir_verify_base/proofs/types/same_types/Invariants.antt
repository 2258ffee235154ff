use Rattle.std.proofs.Common.{◌≡◌, length}
use Rattle.std.specs.List.{All}
use Rattle.ir_types.specs.Things.{IsType}
use Rattle.ir_verify_base.specs.Numbers.{typed}
use Rattle.ir_verify_base.specs.Types.{same_types}
use Rattle.ir_verify_base.proofs.types.same_types.Given as goal

abbrev pub invariant-loop-left : goal.invariant-loop-left
invariant-loop-left l = record {
  ones : All (λ t. IsType l.ctx t) l.left;
  others : All (λ t. IsType l.ctx t) l.right;
  left : same_types (typed l.ctx l.left) (typed l.ctx l.right) ≡ same_types (typed l.ctx l.fn.ones) (typed l.ctx l.fn.others);
}

abbrev pub decreases-loop-left : goal.decreases-loop-left
decreases-loop-left l = length l.left
