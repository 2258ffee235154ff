-- The state of a transaction after marks are closed and events are undone, and the release that follows.
use Rattle.std.specs.Prelude.{◌≡◌, ◌≢◌, ◌≤◌, ℕ, [], length, take, drop, Bool, if◌then◌else◌}
use Rattle.ir_event.specs.store.Calls.{Releases}
use Rattle.rewriter.specs.Journals.{HasNoStaleIds, before}
use Rattle.rewriter.specs.Held.{TransactionModel, module_at, module_held, open_marks}
use Rattle.rewriter.specs.Marked.{IsNewest, kept}
use Rattle.rewriter.specs.Moves.{HoldsModuleAlone, HoldsNone}

-- the events from one index on were undone: the module before them is current again, and the marks are unchanged
pub record UndoneTo (mark : ℕ) (old new : TransactionModel) : Type 0 where
  pub ctx : new.ctx ≡ old.ctx
  pub journal : new.journal ≡ take mark old.journal
  pub marks : new.marks ≡ old.marks
  pub module_of : module_held new ≡ before old.ctx (drop mark old.journal) old.store
  pub opens : open_marks new ≡ open_marks old
  pub trailing : (k : ℕ) → k ≤ mark → module_at k new ≡ module_at k old

-- everything held under ids that aren't given out yet was released, and everything held if no mark is open; the rest is
-- unchanged
pub record GivenUp (old new : TransactionModel) : Type 0 where
  pub ctx : new.ctx ≡ old.ctx
  pub journal : new.journal ≡ old.journal
  pub marks : new.marks ≡ old.marks
  pub module_of : new.store.module_of ≡ old.store.module_of
  pub opens : open_marks new ≡ open_marks old
  pub tidy : HasNoStaleIds new.store
  pub none : new.marks ≡ [] → HoldsNone new.store
  pub alone : new.marks ≡ [] → HoldsModuleAlone new.store
  pub trailing : (k : ℕ) → module_at k new ≡ module_at k old

-- if no mark is open, everything held was released, with the removed keys; otherwise nothing changed
pub record Settled (old new : TransactionModel) : Type 0 where
  pub ctx : new.ctx ≡ old.ctx
  pub journal : new.journal ≡ old.journal
  pub marks : new.marks ≡ old.marks
  pub module_of : new.store.module_of ≡ old.store.module_of
  pub opens : open_marks new ≡ open_marks old
  pub trailing : (k : ℕ) → module_at k new ≡ module_at k old
  pub tidy : HasNoStaleIds old.store → HasNoStaleIds new.store
  pub marked : old.marks ≢ [] → new ≡ old
  pub unmarked : old.marks ≡ [] → Releases 0 old.store new.store
  pub alone : new.marks ≡ [] → HoldsModuleAlone new.store

-- invariant of the transaction of every rewriter: nothing is held under an id that isn't given out yet, and if no mark
-- is open, nothing is held
pub record IsSettled (h : TransactionModel) : Type 0 where
  pub tidy : HasNoStaleIds h.store
  pub alone : h.marks ≡ [] → HoldsModuleAlone h.store

-- the newest mark was closed, and the events since it were kept or undone; if another mark is open, the remaining
-- events stay in the journal, with the modules before them
pub record Dropped (stays : Bool) (old new : TransactionModel) : Type 0 where
  pub newest : ℕ
  pub mark : IsNewest newest old
  pub marks : new.marks ≡ mark.rest
  pub journal : new.journal ≡ kept new.marks (if stays then old.journal else take newest old.journal)
  pub trailing : new.marks ≢ [] → (k : ℕ) → k ≤ length new.journal → module_at k new ≡ module_at k old
