-- Edits of a transaction, and undone events.
use Rattle.std.specs.Prelude.{◌≡◌, ◌≢◌, ◌≤◌, ℕ, List, [], ◌∷◌, ◌++◌, length, Option, Some, None, ◌⊎◌, Result, Ok, Err}
use Rattle.std.specs.Prelude.{MatchResult}
use Rattle.std.specs.FinMap as map
use Rattle.ir_event.specs.types.declared.refusal.Refusal.{Refusal}
use Rattle.ir_event.specs.types.declared.refusal.Refusal.TheVariants.{Memory}
use Rattle.ir_event.specs.types.Things.{IsExtendedBy}
use Rattle.ir_event.specs.store.Calls.{Loaded, Releases}
use Rattle.ir_event.specs.store.Stored.{Stored}
use Rattle.ir_event.specs.declared.event.Event.{Event}
use Rattle.ir_event.specs.Listener.{ShowsTaken}
use Rattle.ir_event.specs.Step.{Step, inverse_of}
use Rattle.ir_event.specs.Undoing.{undone}
use Rattle.rewriter_machine.specs.Journals.{HasNoStaleIds}
use Rattle.rewriter.specs.declared.mark.JournalMark.{JournalMark}
use Rattle.rewriter.specs.Held.{TransactionModel, module_at, module_held, open_marks, shown_of}

-- a call without a reason for a refusal is accepted; otherwise it is refused for its reason; a call that needs memory
-- may also be refused because memory ran out
abbrev pub IsAnswered : {A : Type 0} → Type 0 → Option Refusal → Result A Refusal → Type 0
IsAnswered takes reason result =
    MatchResult result (λ _. reason ≡ None) (λ e. (reason ≡ Some e) ⊎ ((e ≡ Memory) × takes))

-- the journal after an event: the event is recorded only if a mark is open
abbrev pub noted : List JournalMark → List Event → Event → List Event
noted [] es e = es
noted (k ∷ ks) es e = es ++ e ∷ []

-- the events, followed by the event of an edit if it was made
abbrev pub written : List Event → Result Event Refusal → List Event
written es (Ok e) = es ++ e ∷ []
written es (Err r) = es

-- the journal after an edit that was made, or refused
abbrev pub noted_as : List JournalMark → List Event → Result Event Refusal → List Event
noted_as [] es made = es
noted_as (k ∷ ks) es made = written es made

-- the journal after some events
abbrev pub all_noted : List JournalMark → List Event → List Event → List Event
all_noted [] js es = js
all_noted (k ∷ ks) js es = js ++ es

-- these events were recorded if a mark is open; the marks and the modules before the older events are unchanged
pub record Recorded (es : List Event) (old new : TransactionModel) : Type 0 where
  pub marks : new.marks ≡ old.marks
  pub journal : new.journal ≡ all_noted old.marks old.journal es
  pub trailing : old.marks ≢ [] → (k : ℕ) → k ≤ length old.journal → module_at k new ≡ module_at k old

-- an edit was made by this event and left this store: a step; the modules of the marks and before the older events are
-- unchanged
pub record Edited (e : Event) (s : Stored) (old new : TransactionModel) : Type 0 where
  pub held : new ≡ record { ctx = old.ctx; store = s; journal = noted old.marks old.journal e; marks = old.marks }
  pub step : Step old.ctx e (module_held old) (module_held new)
  pub shown : ShowsTaken e (module_held old) (shown_of new)
  pub marked : open_marks new ≡ open_marks old
  pub trailing : old.marks ≢ [] → (k : ℕ) → k ≤ length old.journal → module_at k new ≡ module_at k old

-- the newest event of the journal was undone by this event: a step back; the modules of the marks and before the older
-- events are unchanged
pub record Undone (e : Event) (old new : TransactionModel) : Type 0 where
  pub last : Event
  pub is : e ≡ inverse_of last
  pub journal : old.journal ≡ new.journal ++ last ∷ []
  pub held : new ≡ record {
    ctx = old.ctx;
    store = undone old.ctx last old.store;
    journal = new.journal;
    marks = old.marks;
  }
  pub step : Step old.ctx e (module_held old) (module_held new)
  pub shown : ShowsTaken e (module_held old) (shown_of new)
  pub marked : open_marks new ≡ open_marks old
  pub trailing : (k : ℕ) → k ≤ length new.journal → module_at k new ≡ module_at k old

-- the held operations with ids from one on were released
pub record Tidied (from : ℕ) (old new : TransactionModel) : Type 0 where
  pub released : Releases from old.store new.store
  pub held : new ≡ record { ctx = old.ctx; store = new.store; journal = old.journal; marks = old.marks }
  pub tidy : HasNoStaleIds new.store
  pub marked : open_marks new ≡ open_marks old
  pub trailing : (k : ℕ) → module_at k new ≡ module_at k old

-- the context grew, and nothing else changed
pub record Grown (old new : TransactionModel) : Type 0 where
  pub grows : IsExtendedBy old.ctx new.ctx
  pub held : new ≡ record { ctx = new.ctx; store = old.store; journal = old.journal; marks = old.marks }
  pub same : module_held new ≡ module_held old
  pub marked : open_marks new ≡ open_marks old
  pub trailing : (k : ℕ) → module_at k new ≡ module_at k old

-- nothing is held of the module
abbrev pub HoldsNone : Stored → Type 0
HoldsNone s = (x : ℕ) → map.get s.held x ≡ None

-- nothing is held, as in a newly loaded store: no operation that was taken out, and no removed key
abbrev pub HoldsModuleAlone : Stored → Type 0
HoldsModuleAlone s = Loaded s.module_of.tree s.module_of.next s
