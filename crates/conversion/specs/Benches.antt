-- The state of a rewriter, for conversions.
use Rattle.std.specs.Prelude.{[], ◌++◌}
use Rattle.ir_event.specs.types.Sound.{Holds}
use Rattle.ir_event.specs.Listener.{Listener}
use Rattle.patterns.proofs.Notified.{notified_stays, notified_through}
use Rattle.patterns.specs.RewriterCalls.{Benched, Led}
use Rattle.patterns.specs.Held.{TransactionModel, module_held, open_marks}
use Rattle.conversion.specs.States.{State}

-- its context, the module with terms, and the open marks
abbrev pub seen : {B : Type 0} → Benched B → State
seen b = record { things = b.transaction.ctx; held = module_held b.transaction; marks = open_marks b.transaction }

-- everything but its listeners
abbrev pub transaction_of : {B : Type 0} → Benched B → TransactionModel
transaction_of b = b.transaction

-- if the old context is sound, so is the new one, and the listeners were notified of exactly the events between the
-- two modules
module _ {B : Type 0} (meaning : B → Listener) where
  abbrev pub LedOn : Benched B → Benched B → Type 0
  LedOn a b = Holds a.transaction.ctx → Holds b.transaction.ctx × Led meaning a b

  pub led_none : (a : Benched B) → LedOn a a
  led_none a holds = (holds, ([], notified_stays meaning a))

  pub led_more : (a b c : Benched B) → LedOn a b → LedOn b c → LedOn a c
  led_more a b c h k holds =
      let one = h holds in
      let two = k one.0 in
      (two.0, (one.1.0 ++ two.1.0, notified_through meaning one.1.0 two.1.0 a b c one.0 one.1.1 two.1.1))
