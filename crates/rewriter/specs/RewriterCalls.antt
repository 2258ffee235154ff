-- The state of a rewriter, and the effects of its calls.
use Rattle.std.specs.Prelude.{ℕ, List, [], ◌∷◌, drop, Result, Ok, Err, MatchResult}
use Rattle.ir_event.specs.types.declared.refusal.Refusal.{Refusal}
use Rattle.ir_event.specs.types.Things.{IsExtendedBy}
use Rattle.ir_event.specs.store.Stored.{Stored}
use Rattle.ir_event.specs.declared.event.Event.{Event}
use Rattle.ir_event.specs.Listener.{Listener}
use Rattle.ir_event.specs.Panels.{AllFollowed, AllKept}
use Rattle.ir_event.specs.Step.{Steps}
use Rattle.rewriter.specs.Machine.{State, Call, Reply, Done, DoneAs, Refused, Nothing, Goes}
use Rattle.rewriter.specs.Panels.{all_shown}
use Rattle.rewriter.specs.Journals.{inverses}
use Rattle.rewriter.specs.Held.{TransactionModel, module_held, open_marks}
use Rattle.rewriter.specs.Marked.{IsNewest}
use Rattle.rewriter.specs.Moves.{Edited, Recorded}
use Rattle.rewriter.specs.Rolling.{Settled}

-- a rewriter, with listeners of the type `B`
pub record Benched (B : Type 0) : Type 0 where
  -- everything but its listeners
  pub transaction : TransactionModel
  -- the attached listeners, in order
  pub listeners : List B

-- the reply to a call
abbrev pub reply_of : {A : Type 0} → Result A Refusal → Reply
reply_of (Ok a) = Done
reply_of (Err refusal) = Refused refusal

-- the reply to a call that inserts an operation
abbrev pub id_reply_of : Result ℕ Refusal → Reply
id_reply_of (Ok x) = DoneAs x
id_reply_of (Err refusal) = Refused refusal

-- the reply to `attach`, which returns a refused listener
abbrev pub attach_reply_of : {A B : Type 0} → Result A (Refusal × B) → Reply
attach_reply_of (Ok u) = Done
attach_reply_of (Err e) = Refused e.0

-- `meaning` gives the meaning of each listener
module _ {B : Type 0} (meaning : B → Listener) where
  -- the rewriter as a state of the machine
  abbrev pub state_of : Benched B → State
  state_of b = record { held = module_held b.transaction; marks = open_marks b.transaction; panel = all_shown meaning b.listeners }

  -- each attached listener agrees with the current module, or is stale
  abbrev pub AgreesOrStale : Benched B → Type 0
  AgreesOrStale b = AllKept meaning b.transaction.ctx (module_held b.transaction) b.listeners

  -- these events lead, step by step, from one module to the other; the context is equal or extended; each listener was
  -- notified of these events and no others; no listener was added, removed or moved
  pub record Notified (es : List Event) (old new : Benched B) : Type 0 where
    pub grows : IsExtendedBy old.transaction.ctx new.transaction.ctx
    pub steps : Steps new.transaction.ctx es (module_held old.transaction) (module_held new.transaction)
    pub reported : AllFollowed meaning es old.transaction.ctx (module_held old.transaction) new.transaction.ctx
        (module_held new.transaction) old.listeners new.listeners

  -- the listeners were notified of exactly the events that lead from one module to the other
  abbrev pub Led : Benched B → Benched B → Type 0
  Led old new = (es : List Event) × Notified es old new

  -- the listeners were notified of exactly the events that lead from one module to the other, and if a mark is open
  -- these events are the end of the journal
  abbrev pub Journaled : Benched B → Benched B → Type 0
  Journaled old new = (es : List Event) × Notified es old new × Recorded es old.transaction new.transaction

  -- the journal after an atomic call: with its events, or unchanged
  abbrev pub JournalAfter : {A : Type 0} → Result A Refusal → Benched B → Benched B → Type 0
  JournalAfter result old new = MatchResult result (λ _. Journaled old new) (λ _. Recorded [] old.transaction new.transaction)

  -- one event made the edit, the listeners were notified of it, and the edit left this store; if no mark is open,
  -- everything but the module was released
  pub record Made (s : Stored) (old new : Benched B) : Type 0 where
    pub event : Event
    pub left : TransactionModel
    pub edited : Edited event s old.transaction left
    pub settled : Settled left new.transaction
    pub notified : Notified (event ∷ []) old new

  -- the listeners were notified of exactly the inverses of the events since the newest mark, newest first
  abbrev pub NotifiedBack : Benched B → Benched B → Type 0
  NotifiedBack old new = (mark : ℕ) × IsNewest mark old.transaction × Notified (inverses (drop mark old.transaction.journal)) old new

  -- a call does what the machine does
  abbrev pub Does : Call → Reply → Benched B → Benched B → Type 0
  Does call reply old new = Goes (state_of old) call reply Nothing (state_of new)
