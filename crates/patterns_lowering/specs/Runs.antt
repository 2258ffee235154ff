-- What stays while edits are made one after another.
use Rattle.std.specs.Prelude.{◌≡◌, List}
use Rattle.ir_event.specs.declared.event.Event.{Event}
use Rattle.ir_event.specs.Listener.{Listener}
use Rattle.rewriter.specs.RewriterCalls.{Benched, Led}
use Rattle.rewriter.specs.Held.{TransactionModel, open_marks}
use Rattle.rewriter.specs.Moves.{Recorded}

-- the context and the open marks with their modules stay; the listeners were notified of the events between the two
-- modules
pub record Along {B : Type 0} (meaning : B → Listener) (old new : Benched B) : Type 0 where
  pub ctx : new.transaction.ctx ≡ old.transaction.ctx
  pub opens : open_marks new.transaction ≡ open_marks old.transaction
  pub led : Led meaning old new

-- some events were recorded if a mark is open, and the marks stay
abbrev pub Noted : TransactionModel → TransactionModel → Type 0
Noted old new = (es : List Event) × Recorded es old new
