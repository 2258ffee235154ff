-- The journal after one call and another, and under a mark.
use Rattle.std.proofs.Common.{◌≡◌, ◌≢◌, refl, [], ◌++◌, true, false, Result, Ok, Err}
use Rattle.ir_event.specs.types.declared.refusal.Refusal.{Refusal}
use Rattle.ir_event.specs.Listener.{Listener}
use Rattle.patterns.specs.rewriter.RewriterCalls.{Benched, JournalAfter}
use Rattle.patterns.specs.rewriter.Held.{TransactionModel}
use Rattle.patterns.specs.rewriter.Moves.{Recorded}
use Rattle.patterns.specs.rewriter.Rolling.{Dropped}
use Rattle.patterns.proofs.of_rewriter.Noted.{recorded_left, recorded_more, recorded_none, recorded_undone, recorded_whole}
use Rattle.patterns.proofs.of_rewriter.Together.{marked_on}
use Rattle.patterns.specs.runs.Runs.{Noted}
use Rattle.greedy.specs.Noting.{marked}

pub noted_none : (h : TransactionModel) → Noted h h
noted_none h = ([], recorded_none h)

pub noted_more : (a b c : TransactionModel) → Noted a b → Noted b c → Noted a c
noted_more a b c h k = (h.0 ++ k.0, recorded_more h.0 k.0 a b c h.1.marks h.1 k.1)

-- a call that succeeds or changes nothing
pub noted_kept : {A B : Type 0} (meaning : B → Listener) (r : Result A Refusal) (a b : Benched B) → JournalAfter meaning r a b → Noted a.transaction b.transaction
noted_kept meaning (Ok u) a b k = (k.0, k.2)
noted_kept meaning (Err e) a b k = ([], k)

-- nothing was recorded
pub left_none : (h : TransactionModel) → Recorded [] h h
left_none h = recorded_none h

pub left_same : (a b : TransactionModel) → b ≡ a → Recorded [] a b
left_same a b same = recorded_left a b same

pub noted_left : (a b c : TransactionModel) → Noted a b → Recorded [] b c → Noted a c
noted_left a b c h k = noted_more a b c h ([], k)

-- under a mark that is closed
module _ (a b c d : TransactionModel) (none : a.marks ≡ [] → a.journal ≡ []) (begun : b ≡ marked a) (h : Noted b c) where
  pub noted_whole : (c.marks ≢ [] → Dropped true c d) → Noted a d
  noted_whole dropped = (h.0, recorded_whole true a b c d begun h.1.marks h.0 h.1 (dropped (marked_on a b c begun h.1.marks)) none refl)

  pub noted_back : (c.marks ≢ [] → Dropped false c d) → Recorded [] a d
  noted_back dropped = recorded_undone false a b c d begun h.1.marks h.0 h.1 (dropped (marked_on a b c begun h.1.marks)) none refl
