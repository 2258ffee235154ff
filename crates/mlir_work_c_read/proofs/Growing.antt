-- A rewriter whose context grows.
use Rattle.std.proofs.Common.{◌≡◌}
use Rattle.ir_event.specs.Listener.{Listener}
use Rattle.rewriter_machine.specs.Panels.{all_shown}
use Rattle.rewriter.specs.Moves.{Grown as TransactionGrown}
use Rattle.rewriter.specs.RewriterCalls.{Benched}
use Rattle.mlir_work_c_read.specs.Interned.{Grown}

pub grown_so : {B : Type 0} (meaning : B → Listener) (a b : Benched B) → TransactionGrown a.transaction b.transaction → b.listeners ≡ a.listeners → Grown meaning a b
grown_so meaning a b grown same = record {
  grows = grown.grows;
  same = λ i. record { held = grown.same i; marks = grown.marked i; panel = all_shown meaning (same i) };
}
