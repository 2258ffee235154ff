-- The state after an edit of one event, and the journal after it.
use Rattle.std.proofs.Common.{◌≡◌, ◌≢◌, ◌∙◌, sym, ap, subst, refl, ℕ, ◌≤◌, List, [], ◌∷◌, ◌++◌, length, take, Bool, true, false, cond, Result, Ok, Err, arith, append_assoc, append-nil, length-append}
use Rattle.std.specs.Prelude.{OnOk, OnErr}
use Rattle.std.proofs.lemmas.List.{take-append-le, take_all}
use Rattle.ir_event.specs.types.declared.refusal.Refusal.{Refusal}
use Rattle.ir_event.specs.store.Stored.{Stored}
use Rattle.ir_event.specs.declared.event.Event.{Event}
use Rattle.ir_event.specs.Listener.{Listener}
use Rattle.rewriter.specs.declared.mark.JournalMark.{JournalMark}
use Rattle.rewriter.specs.Held.{TransactionModel, module_at, module_held, open_marks}
use Rattle.rewriter.specs.Marked.{IsNewest, kept, with_mark}
use Rattle.rewriter.specs.Moves.{Recorded, all_noted, noted}
use Rattle.rewriter.specs.RewriterCalls.{Benched, Notified, Journaled, JournalAfter, Made}
use Rattle.rewriter.specs.Rolling.{Dropped}
use Rattle.rewriter.proofs.MarkLaws.{push-none}
use Rattle.rewriter.proofs.OpenMarks.{last_same, preceding_same}

-- ---- events at the end of a journal

pub none_noted : (ks : List JournalMark) (js : List Event) → js ≡ all_noted ks js []
none_noted [] js = refl
none_noted (k ∷ ks) js = sym (append-nil js)

one_noted : (ks : List JournalMark) (js : List Event) (e : Event) → noted ks js e ≡ all_noted ks js (e ∷ [])
one_noted [] js e = refl
one_noted (k ∷ ks) js e = refl

pub more_noted : (ks : List JournalMark) (js es fs : List Event) → all_noted ks (all_noted ks js es) fs ≡ all_noted ks js (es ++ fs)
more_noted [] js es fs = refl
more_noted (k ∷ ks) js es fs = append_assoc js es fs

pub longer_noted : (ks : List JournalMark) (js es : List Event) → length js ≤ length (all_noted ks js es)
longer_noted [] js es = omega arith
longer_noted (k ∷ ks) js es = (let l = length-append js es in omega (arith, l))

pub some_noted : (ks : List JournalMark) (js es : List Event) → ks ≢ [] → all_noted ks js es ≡ js ++ es
some_noted [] js es some = absurd (some refl)
some_noted (k ∷ ks) js es some = refl

kept_noted : (ks : List JournalMark) (js es : List Event) → (ks ≡ [] → js ≡ []) → kept ks (js ++ es) ≡ all_noted ks js es
kept_noted [] js es none = sym (none refl)
kept_noted (k ∷ ks) js es none = refl

kept_none : (ks : List JournalMark) (js : List Event) → (ks ≡ [] → js ≡ []) → kept ks js ≡ all_noted ks js []
kept_none [] js none = sym (none refl)
kept_none (k ∷ ks) js none = sym (append-nil js)

preceding_taken : (js es : List Event) → take (length js) (js ++ es) ≡ js
preceding_taken js es = take-append-le (length js) js es (omega arith) ∙ take_all (length js) js (omega arith)

-- ---- transactions

pub recorded_none : (h : TransactionModel) → Recorded [] h h
recorded_none h = record { marks = refl; journal = none_noted h.marks h.journal; trailing = λ some k le. refl }

pub recorded_left : (g h : TransactionModel) → h ≡ g → Recorded [] g h
recorded_left g h same = subst (λ (k : TransactionModel). Recorded [] g k) (sym same) (recorded_none g)

pub recorded_more : (es fs : List Event) (a b c : TransactionModel) → b.marks ≡ a.marks → Recorded es a b → Recorded fs b c → Recorded (es ++ fs) a c
recorded_more es fs a b c marks h k =
    let longer = longer_noted a.marks a.journal es in
    let length_is = ap (λ (js : List Event). length js) h.journal in
    record {
      marks = k.marks ∙ h.marks;
      journal = k.journal ∙ (λ i. all_noted (marks i) (h.journal i) fs) ∙ more_noted a.marks a.journal es fs;
      trailing = λ some n le. k.trailing (λ z. some (sym marks ∙ z)) n (omega (arith, le, longer, length_is)) ∙ h.trailing some n le;
    }

-- the marks after a mark was opened, events were made under it, and it was closed
module _ (stays : Bool) (a b c d : TransactionModel) (begun : b ≡ with_mark false a) (marks : c.marks ≡ b.marks) (es : List Event) (h : Recorded es b c) (x : Dropped stays c d) (none : a.marks ≡ [] → a.journal ≡ []) where
  abbrev own : JournalMark
  own = record { length = length a.journal; counted = false }

  marks_are : c.marks ≡ a.marks ++ own ∷ []
  marks_are = marks ∙ ap (λ (k : TransactionModel). k.marks) begun

  both_are : x.mark.rest ++ record { length = x.newest; counted = x.mark.counted } ∷ [] ≡ a.marks ++ own ∷ []
  both_are = sym x.mark.marks ∙ marks_are

  left_are : d.marks ≡ a.marks
  left_are = x.marks ∙ preceding_same x.mark.rest a.marks (record { length = x.newest; counted = x.mark.counted }) own both_are

  newest_is : x.newest ≡ length a.journal
  newest_is = ap (λ (m : JournalMark). m.length) (last_same x.mark.rest a.marks (record { length = x.newest; counted = x.mark.counted }) own both_are)

  under_mark : b.marks ≢ []
  under_mark e = push-none a.marks own (sym (ap (λ (k : TransactionModel). k.marks) begun) ∙ e)

  journal_is : c.journal ≡ a.journal ++ es
  journal_is = h.journal ∙ some_noted b.marks b.journal es under_mark ∙ ap (λ (k : TransactionModel). k.journal ++ es) begun

  after_all : a.marks ≢ [] → (k : ℕ) → k ≤ length a.journal → k ≤ length d.journal → module_at k d ≡ module_at k a
  after_all some k le less =
      let length_is = ap (λ (m : TransactionModel). length m.journal) begun in
      x.trailing (λ z. some (sym left_are ∙ z)) k less ∙ h.trailing under_mark k (omega (arith, le, length_is)) ∙ ap (module_at k) begun

  -- the events are kept
  pub recorded_whole : stays ≡ true → Recorded es a d
  recorded_whole is =
      let journal : d.journal ≡ all_noted a.marks a.journal es = x.journal ∙ (λ i. kept (left_are i) (cond (is i) (journal_is i) (take x.newest c.journal))) ∙ kept_noted a.marks a.journal es none in
      let length_is = ap (λ (js : List Event). length js) journal in
      let longer = longer_noted a.marks a.journal es in
      record { marks = left_are; journal = journal; trailing = λ some k le. after_all some k le (omega (arith, le, length_is, longer)) }

  -- the events were undone
  pub recorded_undone : stays ≡ false → Recorded [] a d
  recorded_undone is =
      let taken : take x.newest c.journal ≡ a.journal = (λ i. take (newest_is i) (journal_is i)) ∙ preceding_taken a.journal es in
      let journal : d.journal ≡ all_noted a.marks a.journal [] = x.journal ∙ (λ i. kept (left_are i) (cond (is i) c.journal (taken i))) ∙ kept_none a.marks a.journal none in
      let length_is = ap (λ (js : List Event). length js) journal in
      let longer = longer_noted a.marks a.journal [] in
      record { marks = left_are; journal = journal; trailing = λ some k le. after_all some k le (omega (arith, le, length_is, longer)) }

-- ---- rewriters

module _ {B : Type 0} (meaning : B → Listener) where
  module _ (s : Stored) (a b : Benched B) (m : Made meaning s a b) where
    pub made_ctx : b.transaction.ctx ≡ a.transaction.ctx
    made_ctx = m.settled.ctx ∙ ap (λ (h : TransactionModel). h.ctx) m.edited.held

    pub made_marks : b.transaction.marks ≡ a.transaction.marks
    made_marks = m.settled.marks ∙ ap (λ (h : TransactionModel). h.marks) m.edited.held

    pub made_module : b.transaction.store.module_of ≡ s.module_of
    made_module = m.settled.module_of ∙ ap (λ (h : TransactionModel). h.store.module_of) m.edited.held

    pub made_opens : open_marks b.transaction ≡ open_marks a.transaction
    made_opens = m.settled.opens ∙ m.edited.marked

    made_recorded : Recorded (m.event ∷ []) a.transaction b.transaction
    made_recorded =
        record {
          marks = made_marks;
          journal = m.settled.journal ∙ ap (λ (h : TransactionModel). h.journal) m.edited.held ∙ one_noted a.transaction.marks a.transaction.journal m.event;
          trailing = λ some k le. m.settled.trailing k ∙ m.edited.trailing some k le;
        }

    pub made_journaled : Journaled meaning a b
    made_journaled = (m.event ∷ [], m.notified, made_recorded)

  -- after an edit that was made or refused
  pub made_keeps : {A : Type 0} (s : Stored) (a b : Benched B) (r : Result A Refusal) → OnOk r (Made meaning s a b) → OnErr r (b ≡ a) → JournalAfter meaning r a b
  made_keeps s a b (Ok u) made same = made_journaled s a b made
  made_keeps s a b (Err e) made same = recorded_left a.transaction b.transaction (ap (λ (c : Benched B). c.transaction) same)

  pub result_ctx : {A : Type 0} (s : Stored) (a b : Benched B) (r : Result A Refusal) → OnOk r (Made meaning s a b) → OnErr r (b ≡ a) → b.transaction.ctx ≡ a.transaction.ctx
  result_ctx s a b (Ok u) made same = made_ctx s a b made
  result_ctx s a b (Err e) made same = ap (λ (c : Benched B). c.transaction.ctx) same

  -- a call that changes nothing
  pub keeps_left : (a b : Benched B) → b ≡ a → Recorded [] a.transaction b.transaction
  keeps_left a b same = recorded_left a.transaction b.transaction (ap (λ (c : Benched B). c.transaction) same)
