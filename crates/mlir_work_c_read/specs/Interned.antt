-- A rewriter whose context may grow.
use Rattle.std.specs.Prelude.{◌≡◌}
use Rattle.ir_event.specs.types.Things.{IsExtendedBy}
use Rattle.ir_event.specs.Listener.{Listener}
use Rattle.rewriter.specs.RewriterCalls.{Benched, state_of}

-- no number of the context changes its meaning, and the module, the marks and the analyses are unchanged
pub record Grown {B : Type 0} (meaning : B → Listener) (old new : Benched B) : Type 0 where
  pub grows : IsExtendedBy old.transaction.ctx new.transaction.ctx
  pub same : state_of meaning new ≡ state_of meaning old
