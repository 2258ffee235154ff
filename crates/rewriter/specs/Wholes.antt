-- Edits of several events: invariants between the events, and the end of the mark under which they are made.
use Rattle.std.specs.Prelude.{◌≡◌, ◌≢◌, List, [], ◌∷◌, Bool, if◌then◌else◌, Result, Ok, Err}
use Rattle.ir_event.specs.types.declared.refusal.Refusal.{Refusal}
use Rattle.ir_event.specs.types.declared.refusal.Refusal.TheVariants.{Memory}
use Rattle.ir_event.specs.Listener.{Listener}
use Rattle.rewriter.specs.Machine.{OpenMark}
use Rattle.rewriter.specs.Held.{TransactionModel, module_held, open_marks}
use Rattle.rewriter.specs.RewriterCalls.{Benched, Journaled}
use Rattle.rewriter.specs.Rolling.{Dropped}

-- the call succeeded, or it was refused because memory ran out and a mark is open
abbrev pub IsDoneOrNoted : {A : Type 0} → TransactionModel → Result A Refusal → Type 0
IsDoneOrNoted h (Ok a) = Unit {0}
IsDoneOrNoted h (Err e) = (e ≡ Memory) × (h.marks ≢ [])

-- the newest open mark was closed, and the module was kept or the module of the mark restored
pub record IsFinished (stays : Bool) (old new : TransactionModel) : Type 0 where
  pub ctx : new.ctx ≡ old.ctx
  pub held : (k : OpenMark) (ks : List OpenMark) → open_marks old ≡ k ∷ ks
      → module_held new ≡ (if stays then module_held old else k.marked)
  pub marks : (k : OpenMark) (ks : List OpenMark) → open_marks old ≡ k ∷ ks → open_marks new ≡ ks
  pub dropped : old.marks ≢ [] → Dropped stays old new

-- the context, the marks and their modules are unchanged; the listeners, with this meaning, were notified of the
-- events, and the journal has them
pub record Onward {B : Type 0} (meaning : B → Listener) (old new : Benched B) : Type 0 where
  pub ctx : new.transaction.ctx ≡ old.transaction.ctx
  pub marks : new.transaction.marks ≡ old.transaction.marks
  pub opens : open_marks new.transaction ≡ open_marks old.transaction
  pub noted : Journaled meaning old new
