-- The events that listeners were notified of, from one state of a rewriter to the same state, and over two calls.
-- Definitions use this file, so it doesn't import any crate that re-exports lemmas.
use Rattle.std.proofs.Common.{refl, List, [], ◌++◌}
use Rattle.ir_event.specs.types.Sound.{Holds}
use Rattle.ir_types.proofs.Terms.{name_stays, attr_stays}
use Rattle.ir_types.proofs.Growth.{grows_refl, grows_trans}
use Rattle.ir_event.specs.declared.event.Event.{Event}
use Rattle.ir_event.specs.Listener.{Listener}
use Rattle.ir_event.proofs.Follows.{all_none, all_more}
use Rattle.ir_event.proofs.Extra.{steps_extra, steps_on}
use Rattle.patterns_lowering.specs.rewriter.RewriterCalls.{Benched, Notified}
use Rattle.patterns_lowering.specs.rewriter.Held.{module_held}

module _ {B : Type 0} (meaning : B → Listener) where
  -- no events from a state to itself
  pub notified_stays : (b : Benched B) → Notified meaning [] b b
  notified_stays b = record { grows = grows_refl b.transaction.ctx; steps = refl; reported = all_none meaning b.transaction.ctx (module_held b.transaction) b.listeners }

  -- over two calls
  pub notified_through : (es fs : List Event) (a b c : Benched B) → Holds b.transaction.ctx → Notified meaning es a b → Notified meaning fs b c → Notified meaning (es ++ fs) a c
  notified_through es fs a b c holds h k =
      record {
        grows = grows_trans a.transaction.ctx b.transaction.ctx c.transaction.ctx h.grows k.grows;
        steps = steps_on c.transaction.ctx es fs (module_held a.transaction) (module_held b.transaction) (module_held c.transaction) (steps_extra b.transaction.ctx c.transaction.ctx k.grows (λ n is. name_stays b.transaction.ctx c.transaction.ctx n k.grows is) (λ x is. attr_stays b.transaction.ctx c.transaction.ctx x holds k.grows is) es (module_held a.transaction) (module_held b.transaction) h.steps) k.steps;
        reported = all_more meaning es fs a.transaction.ctx b.transaction.ctx c.transaction.ctx (module_held a.transaction) (module_held b.transaction) (module_held c.transaction) a.listeners b.listeners c.listeners h.reported k.reported;
      }
