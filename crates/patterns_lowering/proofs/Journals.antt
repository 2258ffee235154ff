-- Journals, while edits are made one after another.
use Rattle.std.proofs.Common.{◌≡◌, ◌≢◌, ◌∙◌, refl, sym, ap, ℕ, ◌≤◌, List, [], ◌∷◌, ◌++◌, length, true, false, Result, Ok, Err, arith, append_assoc, append-nil, length-append}
use Rattle.std.specs.Prelude.{map, OnOk, OnErr}
use Rattle.std.proofs.lemmas.List.{length-map, length-reverse}
use Rattle.ir_event.specs.types.declared.refusal.Refusal.{Refusal}
use Rattle.ir_event.specs.types.Things.{ContextModel}
use Rattle.ir_event.specs.store.Stored.{Stored}
use Rattle.ir_event.specs.declared.event.Event.{Event}
use Rattle.rewriter.specs.Machine.{OpenMark}
use Rattle.rewriter.specs.declared.mark.JournalMark.{JournalMark}
use Rattle.rewriter.specs.Held.{TransactionModel, module_at, open_mark, open_marks}
use Rattle.rewriter.specs.Moves.{Recorded, all_noted}
use Rattle.rewriter.specs.Rolling.{Dropped}
use Rattle.rewriter.proofs.OpenMarks.{preceding_same}
use Rattle.rewriter.proofs.Noted.{longer_noted, more_noted, none_noted, some_noted}

-- ---- the number of marks stays

as_many : (g h : TransactionModel) → open_marks g ≡ open_marks h → length g.marks ≡ length h.marks
as_many g h e = sym (count g) ∙ ap (λ (l : List OpenMark). length l) e ∙ count h
  where
    count : (k : TransactionModel) → length (open_marks k) ≡ length k.marks
    count k = length-reverse (map (open_mark k) k.marks) ∙ length-map k.marks (open_mark k)

marked_alike : (ks js : List JournalMark) → length ks ≡ length js → ks ≢ [] → js ≢ []
marked_alike [] js e some = absurd (some refl)
marked_alike (k ∷ ks) [] e some = absurd cc
marked_alike (k ∷ ks) (j ∷ js) e some = λ n. (let f : j ∷ js ≡ [] = n in cc)

noted_alike : (ks js : List JournalMark) (xs es : List Event) → length ks ≡ length js → all_noted ks xs es ≡ all_noted js xs es
noted_alike [] [] xs es e = refl
noted_alike [] (j ∷ js) xs es e = absurd cc
noted_alike (k ∷ ks) [] xs es e = absurd cc
noted_alike (k ∷ ks) (j ∷ js) xs es e = refl

pub push_some : (ks : List JournalMark) (k : JournalMark) → ks ++ k ∷ [] ≢ []
push_some [] k = λ n. (let f : k ∷ [] ≡ [] = n in cc)
push_some (j ∷ ks) k = λ n. (let f : j ∷ (ks ++ k ∷ []) ≡ [] = n in cc)

-- ---- events at the end of a journal

-- ---- transactions

pub recorded_none : (h : TransactionModel) → Recorded [] h h
recorded_none h = record { marks = refl; journal = none_noted h.marks h.journal; trailing = λ some k le. refl }

pub recorded_on : (es fs : List Event) (a b c : TransactionModel) → open_marks b ≡ open_marks a → Recorded es a b → Recorded fs b c → Recorded (es ++ fs) a c
recorded_on es fs a b c opens h k =
    let many = as_many b a opens in
    let longer = longer_noted a.marks a.journal es in
    let length_is = ap (λ (xs : List Event). length xs) h.journal in
    record {
      marks = k.marks ∙ h.marks;
      journal = k.journal ∙ noted_alike b.marks a.marks b.journal fs many ∙ ap (λ xs. all_noted a.marks xs fs) h.journal ∙ more_noted a.marks a.journal es fs;
      trailing = λ some n le. k.trailing (marked_alike a.marks b.marks (sym many) some) n (omega (arith, le, longer, length_is)) ∙ h.trailing some n le;
    }

-- the journal after the newest mark is closed, if as many marks are left as before
left_noted : (c : TransactionModel) (ctx : ContextModel) (store : Stored) (left : List Event) (ks js : List JournalMark) (xs es : List Event)
    → Dropped true c (record { ctx = ctx; store = store; journal = left; marks = ks }) → c.journal ≡ xs ++ es → length ks ≡ length js → (js ≡ [] → xs ≡ []) → left ≡ all_noted js xs es
left_noted c ctx store left [] [] xs es x was e none = x.journal ∙ sym (none refl)
left_noted c ctx store left [] (j ∷ js) xs es x was e none = absurd cc
left_noted c ctx store left (k ∷ ks) [] xs es x was e none = absurd cc
left_noted c ctx store left (k ∷ ks) (j ∷ js) xs es x was e none = x.journal ∙ was

-- a transaction with one more mark
abbrev pub marked_more : TransactionModel → TransactionModel
marked_more h = record h { marks = h.marks ++ record { length = length h.journal; counted = false } ∷ [] }

-- a mark is opened, events follow, and the mark is closed and keeps them
module _ (a b c d : TransactionModel) (begun : b ≡ marked_more a) (es : List Event) (h : Recorded es b c) (x : Dropped true c d) (opens : open_marks d ≡ open_marks a) (none : a.marks ≡ [] → a.journal ≡ []) where
  under_mark : b.marks ≢ []
  under_mark e = push_some a.marks (record { length = length a.journal; counted = false }) (sym (ap (λ (k : TransactionModel). k.marks) begun) ∙ e)

  many : length d.marks ≡ length a.marks
  many = as_many d a opens

  journal_was : c.journal ≡ a.journal ++ es
  journal_was = h.journal ∙ some_noted b.marks b.journal es under_mark ∙ ap (λ (k : TransactionModel). k.journal ++ es) begun

  journal_is : d.journal ≡ all_noted a.marks a.journal es
  journal_is = left_noted c d.ctx d.store d.journal d.marks a.marks a.journal es x journal_was many none

  marks_are : d.marks ≡ a.marks
  marks_are =
      let own : JournalMark = record { length = length a.journal; counted = false } in
      let last : JournalMark = record { length = x.newest; counted = x.mark.counted } in
      x.marks ∙ preceding_same x.mark.rest a.marks last own (sym x.mark.marks ∙ h.marks ∙ ap (λ (k : TransactionModel). k.marks) begun)

  pub recorded_whole : Recorded es a d
  recorded_whole =
      let longer = longer_noted a.marks a.journal es in
      let length_is = ap (λ (xs : List Event). length xs) journal_is in
      let length_was = ap (λ (m : TransactionModel). length m.journal) begun in
      record {
        marks = marks_are;
        journal = journal_is;
        trailing = λ some k le.
            x.trailing (marked_alike a.marks d.marks (sym many) some) k (omega (arith, le, longer, length_is)) ∙ h.trailing under_mark k (omega (arith, le, length_was)) ∙ ap (module_at k) begun;
      }

-- a call that is refused only if no mark is open
pub surely : {A P : Type 0} (r : Result A Refusal) (ks : List JournalMark) → ks ≢ [] → OnErr r (ks ≡ []) → OnOk r P → P
surely (Ok a) ks some none is = is
surely (Err e) ks some none is = absurd (some none)
