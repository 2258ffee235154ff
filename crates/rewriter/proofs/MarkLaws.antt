-- Marks within a journal.
use Rattle.std.proofs.Common.{◌≡◌, Bool, ℕ, ◌+◌, ◌-◌, ◌≤◌, List, [], ◌∷◌, ◌++◌, length, take, drop, get_or, map, refl, sym, ap, ◌∙◌, arith}
use Rattle.std.specs.Prelude.{reverse}
use Rattle.std.proofs.lemmas.List.{map-append, reverse-append, take_more, take_all}
use Rattle.ir_event.specs.types.Things.{ContextModel}
use Rattle.ir_event.specs.store.Stored.{Stored}
use Rattle.ir_event.specs.declared.event.Event.{Event}
use Rattle.rewriter_machine.specs.Machine.{OpenMark}
use Rattle.rewriter_machine.specs.Journals.{IsJournal, before}
use Rattle.rewriter.specs.declared.mark.JournalMark.{JournalMark}
use Rattle.rewriter.specs.Held.{TransactionModel, IsWellFormed, Rising, Within, module_held, open_mark, open_marks}
use Rattle.rewriter.specs.Marked.{Closed, IsNewest, kept, with_mark}
use Rattle.ir_event.proofs.of_types.Truths.{drop_all}

pub within-more : (n p : ℕ) (ks : List JournalMark) → n ≤ p → Within n ks → Within p ks
within-more n p [] le h = tt
within-more n p (k ∷ ks) le h = (omega (arith, h.0), within-more n p ks le h.1)

pub within-push : (n : ℕ) (k : JournalMark) (ks : List JournalMark) → k.length ≤ n → Within n ks → Within n (ks ++ k ∷ [])
within-push n k [] le h = (le, tt)
within-push n k (j ∷ ks) le h = (h.0, within-push n k ks le h.1)

pub within-last : (n : ℕ) (k : JournalMark) (ks : List JournalMark) → Within n (ks ++ k ∷ []) → Within n ks × (k.length ≤ n)
within-last n k [] h = (tt, h.0)
within-last n k (j ∷ js) h = let r = within-last n k js h.1 in ((h.0, r.0), r.1)

pub rising-push : (low : ℕ) (k : JournalMark) (ks : List JournalMark) → low ≤ k.length → Rising low ks → Within k.length ks → Rising low (ks ++ k ∷ [])
rising-push low k [] le h w = (le, tt)
rising-push low k (j ∷ ks) le h w = (h.0, rising-push j.length k ks w.0 h.1 w.1)

pub rising-last : (low : ℕ) (k : JournalMark) (ks : List JournalMark) → Rising low (ks ++ k ∷ []) → Rising low ks × Within k.length ks × (low ≤ k.length)
rising-last low k [] h = (tt, tt, h.0)
rising-last low k (j ∷ js) h = let r = rising-last j.length k js h.1 in ((h.0, r.0), (r.2, r.1), omega (arith, h.0, r.2))

pub push-none : {X : Type 0} (ks : List X) (k : X) → ks ++ k ∷ [] ≡ [] → ⊥
push-none [] k e = cc
push-none (j ∷ ks) k e = cc

-- ---- the modules of marks

-- two functions that agree on each mark within a length agree on the list of marks
pub map_within : {X : Type 0} (f g : JournalMark → X) (n : ℕ) (ks : List JournalMark) → ((k : JournalMark) → k.length ≤ n → f k ≡ g k) → Within n ks → map f ks ≡ map g ks
map_within f g n [] h w = refl
map_within f g n (k ∷ ks) h w = rw (h k w.0, map_within f g n ks h w.1) refl

pub last_split : (d : JournalMark) (xs : List JournalMark) → 1 ≤ length xs → xs ≡ take (length xs - 1) xs ++ get_or xs (length xs - 1) d ∷ []
last_split d xs h =
    let all : length xs - 1 + 1 ≡ length xs = omega arith in
    sym (take_all (length xs) xs (omega arith)) ∙ ap (λ n. take n xs) (sym all) ∙ take_more xs (length xs - 1) d (omega arith)

-- two transactions whose journals have the same modules
pub opens_same : (h g : TransactionModel) (n : ℕ) → h.marks ≡ g.marks → Within n h.marks → ((k : ℕ) → k ≤ n → before g.ctx (drop k g.journal) g.store ≡ before h.ctx (drop k h.journal) h.store) → open_marks g ≡ open_marks h
opens_same h g n same w is =
    ap (λ ks. reverse (map (open_mark g) ks)) (sym same)
    ∙ ap reverse (map_within (open_mark g) (open_mark h) n h.marks (λ k le. ap (λ m. (let o : OpenMark = record { marked = m; counted = k.counted } in o)) (is k.length le)) w)

-- ---- opening and closing marks

pub good_marked : (counted : Bool) (h : TransactionModel) → IsWellFormed h → IsWellFormed (with_mark counted h)
good_marked counted h g = record {
  slotted = g.slotted;
  leads = g.leads;
  rising = rising-push 0 _ h.marks (omega arith) g.rising g.within;
  within = within-push _ _ h.marks (omega arith) g.within;
  none = λ e. absurd (push-none _ _ e);
}

pushed : (f : JournalMark → OpenMark) (ks : List JournalMark) (k : JournalMark) → reverse (map f (ks ++ k ∷ [])) ≡ f k ∷ reverse (map f ks)
pushed f ks k = ap reverse (map-append f ks (k ∷ [])) ∙ reverse-append (map f ks) (f k ∷ [])

pub open_marked : (counted : Bool) (h : TransactionModel) → open_marks (with_mark counted h) ≡ record { marked = module_held h; counted = counted } ∷ open_marks h
open_marked counted h =
    let k : JournalMark = record { length = length h.journal; counted = counted } in
    pushed (open_mark h) h.marks k
    ∙ ap (λ es. (let o : OpenMark = record { marked = before h.ctx es h.store; counted = counted } in o) ∷ open_marks h) (drop_all h.journal)

module _ (counted : Bool) (h : TransactionModel) (n : ℕ) (ks : List JournalMark) (is_n : n ≡ length h.journal) (is_ks : ks ≡ h.marks ++ record { length = n; counted = counted } ∷ []) where
  pub mark_good : IsWellFormed h → IsWellFormed (record { ctx = h.ctx; store = h.store; journal = h.journal; marks = ks })
  mark_good g = rw (is_ks, is_n) (good_marked counted h g)

  pub mark_done : (let g : TransactionModel = record { ctx = h.ctx; store = h.store; journal = h.journal; marks = ks } in g) ≡ with_mark counted h
  mark_done = rw (is_ks, is_n) refl

  pub mark_open : open_marks (record { ctx = h.ctx; store = h.store; journal = h.journal; marks = ks }) ≡ record { marked = module_held h; counted = counted } ∷ open_marks h
  mark_open = rw (is_ks, is_n) (open_marked counted h)

pub journal_kept : (c : ContextModel) (s : Stored) (ks : List JournalMark) (es : List Event) → IsJournal c es s → IsJournal c (kept ks es) s
journal_kept c s [] es h = tt
journal_kept c s (k ∷ ks) es h = h

pub within_kept : (ks : List JournalMark) (es : List Event) → Within (length es) ks → Within (length (kept ks es)) ks
within_kept [] es h = tt
within_kept (k ∷ ks) es h = h

pub kept_none : (ks : List JournalMark) (es : List Event) → ks ≡ [] → kept ks es ≡ []
kept_none ks es e = rw e refl

abbrev closed : TransactionModel → List JournalMark → TransactionModel
closed h ks = record { ctx = h.ctx; store = h.store; journal = kept ks h.journal; marks = ks }

pub good_closed : (h : TransactionModel) (ks : List JournalMark) (k : JournalMark) → h.marks ≡ ks ++ k ∷ [] → IsWellFormed h → IsWellFormed (closed h ks)
good_closed h ks k is g = record {
  slotted = g.slotted;
  leads = journal_kept h.ctx h.store ks h.journal g.leads;
  rising = (rising-last 0 k ks (rw is at g.rising)).0;
  within = within_kept ks h.journal (within-last _ k ks (rw is at g.within)).0;
  none = kept_none ks h.journal;
}

open_kept : (c : ContextModel) (s : Stored) (es : List Event) (js ks : List JournalMark) → (js ≡ [] → ks ≡ []) → map (λ (k : JournalMark). (let o : OpenMark = record { marked = before c (drop k.length (kept js es)) s; counted = k.counted } in o)) ks
    ≡ map (λ (k : JournalMark). (let o : OpenMark = record { marked = before c (drop k.length es) s; counted = k.counted } in o)) ks
open_kept c s es [] ks h = rw (h refl) refl
open_kept c s es (j ∷ js) ks h = refl

pub is_closed : (h : TransactionModel) (ks : List JournalMark) (k : JournalMark) → h.marks ≡ ks ++ k ∷ [] → Closed h (closed h ks)
is_closed h ks k is = record {
  mark = k;
  held = refl;
  marks = is;
  marked = ap (λ ms. reverse (map (open_mark h) ms)) is ∙ pushed (open_mark h) ks k ∙ ap (λ l. open_mark h k ∷ reverse l) (sym (open_kept h.ctx h.store h.journal ks ks (λ e. e)));
}

pub newest : (h : TransactionModel) (ks : List JournalMark) (k : JournalMark) → h.marks ≡ ks ++ k ∷ [] → IsWellFormed h → IsNewest k.length h
newest h ks k is g = record {
  rest = ks;
  counted = k.counted;
  marks = is;
  above = rw is (within-push k.length k ks (omega arith) (rising-last 0 k ks (rw is at g.rising)).1);
  within = (within-last _ k ks (rw is at g.within)).1;
}
