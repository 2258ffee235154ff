-- The journal after one call and another, and under a mark.
use Rattle.std.proofs.Common.{◌≡◌, ◌≢◌, refl, subst, [], ◌++◌, ℕ, Bool, true, false, Result, Ok, Err}
use Rattle.std.specs.Prelude.{MatchResult, OnErr, is_ok}
use Rattle.ir_event.specs.types.declared.refusal.Refusal.{Refusal}
use Rattle.ir_event.specs.Listener.{Listener}
use Rattle.patterns.specs.rewriter.RewriterCalls.{Benched, JournalAfter}
use Rattle.patterns.specs.rewriter.Held.{TransactionModel}
use Rattle.patterns.specs.rewriter.Moves.{Recorded}
use Rattle.patterns.specs.rewriter.Rolling.{Dropped}
use Rattle.patterns.proofs.of_rewriter.Noted.{recorded_left, recorded_more, recorded_none, recorded_undone, recorded_whole}
use Rattle.patterns.proofs.of_rewriter.Together.{marked_on}
use Rattle.patterns.specs.runs.Runs.{Noted}
use Rattle.conversion.specs.declared.fault.Fault.{Fault}
use Rattle.conversion.specs.States.{marked_transaction}

pub noted_none : (h : TransactionModel) → Noted h h
noted_none h = ([], recorded_none h)

pub noted_more : (a b c : TransactionModel) → Noted a b → Noted b c → Noted a c
noted_more a b c h k = (h.0 ++ k.0, recorded_more h.0 k.0 a b c h.1.marks h.1 k.1)

-- a call that succeeds or changes nothing
pub noted_kept : {A B : Type 0} (meaning : B → Listener) (r : Result A Refusal) (a b : Benched B) → JournalAfter meaning r a b → Noted a.transaction b.transaction
noted_kept meaning (Ok u) a b k = (k.0, k.2)
noted_kept meaning (Err e) a b k = ([], k)

-- nothing was recorded
pub left_none : (h : TransactionModel) → Recorded [] h h
left_none h = recorded_none h

pub left_same : (a b : TransactionModel) → b ≡ a → Recorded [] a b
left_same a b same = recorded_left a b same

-- under a mark that is closed
module _ (a b c d : TransactionModel) (none : a.marks ≡ [] → a.journal ≡ []) (begun : b ≡ marked_transaction a) (h : Noted b c) where
  pub noted_back : (c.marks ≢ [] → Dropped false c d) → Recorded [] a d
  noted_back dropped = recorded_undone false a b c d begun h.1.marks h.0 h.1 (dropped (marked_on a b c begun h.1.marks)) none refl

  pub noted_closed : (stays : Bool) → (c.marks ≢ [] → Dropped stays c d) → Noted a d
  noted_closed true dropped = (h.0, recorded_whole true a b c d begun h.1.marks h.0 h.1 (dropped (marked_on a b c begun h.1.marks)) none refl)
  noted_closed false dropped = ([], noted_back dropped)

  pub left_closed : (r : Result ℕ Fault) (stays : Bool) → stays ≡ is_ok r → (c.marks ≢ [] → Dropped stays c d) → OnErr r (Recorded [] a d)
  left_closed (Ok n) stays is dropped = tt
  left_closed (Err f) stays is dropped = noted_back (subst (λ (s : Bool). c.marks ≢ [] → Dropped s c d) is dropped)

pub noted_or_left : {A : Type 0} (r : Result A Fault) (a b : TransactionModel) → Noted a b → OnErr r (Recorded [] a b) → MatchResult r (λ _. Noted a b) (λ _. Recorded [] a b)
noted_or_left (Ok u) a b n l = n
noted_or_left (Err f) a b n l = l
