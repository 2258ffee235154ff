-- The state of a rewriter after marks are opened and closed.
use Rattle.std.proofs.Common.{◌≡◌, ◌≢◌, ◌∙◌, sym, ap, subst, refl, inl, inr, ◌⊎◌, ℕ, ◌≤◌, List, [], ◌∷◌, length, take, drop, arith, Bool, true, false, cond, Some, None, Result, Ok, Err}
use Rattle.std.specs.Prelude.{nat_lt, OnOk, OnErr}
use Rattle.std.proofs.lemmas.List.{length-take}
use Rattle.ir_event.specs.types.declared.refusal.Refusal.{Refusal}
use Rattle.ir_event.specs.types.declared.refusal.Refusal.TheVariants.{Memory, NoMark, TooManyMarks}
use Rattle.std.specs.FinMap as finmap
use Rattle.std.specs.Ordering.{nat_cmp}
use Rattle.ir_event.specs.trees.Tree.{Op}
use Rattle.ir_event.specs.trees.WellFormed.{Module}
use Rattle.ir_event.specs.store.Calls.{Loaded}
use Rattle.ir_event.specs.Listener.{Listener}
use Rattle.ir_event.specs.Modules.{module_meaning}
use Rattle.rewriter.specs.Machine.{State, Mark, Step, Commit, Rollback, Done, Refused, IsAnswer, most_marks, marked, done, due, due_commit, due_rollback, refused}
use Rattle.ir_event.specs.declared.event.Event.{Event}
use Rattle.rewriter.specs.Journals.{HasNoStaleIds, before, inverses}
use Rattle.rewriter.specs.declared.mark.JournalMark.{JournalMark as TransactionMark}
use Rattle.rewriter.specs.Held.{TransactionModel, IsWellFormed, module_at, module_held, open_mark, open_marks}
use Rattle.rewriter.specs.Marked.{Closed, IsNewest, counted_among, kept, mark_reason, with_mark}
use Rattle.rewriter.proofs.MarkLaws.{newest, push-none}
use Rattle.rewriter.specs.Moves.{Grown, HoldsModuleAlone, HoldsNone, IsAnswered, Tidied}
use Rattle.rewriter.specs.RewriterCalls.{Benched, Does, Notified, Led, NotifiedBack, reply_of, state_of}
use Rattle.rewriter.specs.Rolling.{Dropped, GivenUp, IsSettled, Settled, UndoneTo}
use Rattle.rewriter.proofs.OpenMarks.{open_none, counted_open, preceding_same, last_same, drop_taken}
use Rattle.rewriter.proofs.Notified.{notified_onward, notified_still, led_ages, led_left, led_still}

-- the released operations
pub given_tidied : (from : ℕ) (g h : TransactionModel) → Tidied from g h → (g.marks ≡ [] → HoldsNone h.store) → (g.marks ≡ [] → HoldsModuleAlone h.store) → GivenUp g h
given_tidied from g h t none alone =
    let marks : h.marks ≡ g.marks = ap (λ (k : TransactionModel). k.marks) t.held in
    record {
      ctx = ap (λ (k : TransactionModel). k.ctx) t.held;
      journal = ap (λ (k : TransactionModel). k.journal) t.held;
      marks = marks;
      module_of = t.released.module_of;
      opens = t.marked;
      tidy = t.tidy;
      none = λ e. none (sym marks ∙ e);
      alone = λ e. alone (sym marks ∙ e);
      trailing = t.trailing;
    }

-- released only if no mark is open
pub settled_none : (g h : TransactionModel) → Tidied 0 g h → HoldsModuleAlone h.store → g.marks ≡ [] → Settled g h
settled_none g h t alone none =
    record {
      ctx = ap (λ (k : TransactionModel). k.ctx) t.held;
      journal = ap (λ (k : TransactionModel). k.journal) t.held;
      marks = ap (λ (k : TransactionModel). k.marks) t.held;
      module_of = t.released.module_of;
      opens = t.marked;
      trailing = t.trailing;
      tidy = λ _. t.tidy;
      marked = λ some. absurd (some none);
      unmarked = λ _. t.released;
      alone = λ _. alone;
    }

pub settled_left : (g : TransactionModel) → g.marks ≢ [] → Settled g g
settled_left g some =
    record {
      ctx = refl;
      journal = refl;
      marks = refl;
      module_of = refl;
      opens = refl;
      trailing = λ k. refl;
      tidy = λ t. t;
      marked = λ _. refl;
      unmarked = λ none. absurd (some none);
      alone = λ none. absurd (some none);
    }

-- the transaction is settled after the release
pub settled_on : (g h : TransactionModel) → HasNoStaleIds g.store → Settled g h → IsSettled h
settled_on g h t s = record { tidy = s.tidy t; alone = s.alone }

-- a transaction without marks, after everything but the module was released
pub settled_begun : (g h : TransactionModel) → g.marks ≡ [] → Settled g h → IsSettled h
settled_begun g h none s =
    let alone : HoldsModuleAlone h.store = s.alone (s.marks ∙ none) in
    record { tidy = λ x le. ap (λ m. finmap.get m x) alone.held ∙ finmap.get-empty nat_cmp x; alone = s.alone }

-- the same release, after a mark was closed
pub settled_given : (g h : TransactionModel) → HasNoStaleIds g.store → Settled g h → GivenUp g h
settled_given g h t s =
    record {
      ctx = s.ctx;
      journal = s.journal;
      marks = s.marks;
      module_of = s.module_of;
      opens = s.opens;
      tidy = s.tidy t;
      none = λ e x. ap (λ m. finmap.get m x) (s.alone e).held ∙ finmap.get-empty nat_cmp x;
      alone = s.alone;
      trailing = s.trailing;
    }

-- the release after a mark was closed
pub closed_given : (g h k : TransactionModel) → IsSettled g → Closed g h → Settled h k → GivenUp h k
closed_given g h k i shut s = settled_given h k (subst (λ (l : TransactionModel). HasNoStaleIds l.store) (sym shut.held) i.tidy) s

pub settled_loaded : (t : Op) (free : ℕ) (g h : TransactionModel) → g.marks ≡ [] → Loaded t free g.store → Settled g h → Loaded t free h.store
settled_loaded t free g h none loaded s = subst (λ (m : Module). Loaded m.tree m.next h.store) (s.module_of ∙ loaded.module_of) (s.alone (s.marks ∙ none))

pub given_settled : (g h : TransactionModel) → GivenUp g h → IsSettled h
given_settled g h t = record { tidy = t.tidy; alone = t.alone }

pub marked_settled : {A : Type 0} (counted : Bool) (g h : TransactionModel) (r : Result A Refusal) → OnOk r (h ≡ with_mark counted g) → OnErr r (h ≡ g) → IsSettled g → IsSettled h
marked_settled counted g h (Ok u) is same s = subst IsSettled (sym is) (record { tidy = s.tidy; alone = λ none. absurd (push-none g.marks _ none) })
marked_settled counted g h (Err e) is same s = subst IsSettled (sym same) s

pub grown_settled : (g h : TransactionModel) → Grown g h → IsSettled g → IsSettled h
grown_settled g h t s = subst IsSettled (sym t.held) (record { tidy = s.tidy; alone = s.alone })

-- ---- the newest mark is closed

taken_short : (ks : List TransactionMark) (n : ℕ) (es : List Event) → length (kept ks (take n es)) ≤ n
taken_short [] n es = omega arith
taken_short (k ∷ ks) n es = (let l = length-take n es in omega (arith, l))

kept_some : (ks : List TransactionMark) (es : List Event) → ks ≢ [] → kept ks es ≡ es
kept_some [] es some = absurd (some refl)
kept_some (k ∷ ks) es some = refl

-- the modules in a journal after its newest mark was closed
closed_after : (g h : TransactionModel) → Closed g h → h.marks ≢ [] → (k : ℕ) → module_at k h ≡ module_at k g
closed_after g h shut some k = ap (module_at k) shut.held ∙ ap (λ es. before g.ctx (drop k es) g.store) (kept_some h.marks g.journal some)

pub dropped_kept : (g h k : TransactionModel) → IsWellFormed g → Closed g h → GivenUp h k → Dropped true g k
dropped_kept g h k good shut t =
    record {
      newest = shut.mark.length;
      mark = newest g h.marks shut.mark shut.marks good;
      marks = t.marks ∙ preceding_same h.marks (newest g h.marks shut.mark shut.marks good).rest shut.mark (record { length = shut.mark.length; counted = (newest g h.marks shut.mark shut.marks good).counted }) (sym shut.marks ∙ (newest g h.marks shut.mark shut.marks good).marks);
      journal = t.journal ∙ ap (λ (l : TransactionModel). l.journal) shut.held ∙ ap (λ ks. kept ks g.journal) (sym t.marks);
      trailing = λ some n le. t.trailing n ∙ closed_after g h shut (λ none. some (t.marks ∙ none)) n;
    }

pub dropped_undone : (mark : ℕ) (g d h k : TransactionModel) → IsNewest mark g → UndoneTo mark g d → Closed d h → GivenUp h k → Dropped false g k
dropped_undone mark g d h k last u shut t =
    let journal : k.journal ≡ kept k.marks (take mark g.journal) = t.journal ∙ ap (λ (l : TransactionModel). l.journal) shut.held ∙ (λ i. kept (sym t.marks i) (u.journal i)) in
    record {
      newest = mark;
      mark = last;
      marks = t.marks ∙ preceding_same h.marks last.rest shut.mark (record { length = mark; counted = last.counted }) (sym shut.marks ∙ u.marks ∙ last.marks);
      journal = journal;
      trailing = λ some n le.
          (let short = taken_short k.marks mark g.journal in
          let length_is = ap (λ (js : List Event). length js) journal in
          t.trailing n ∙ closed_after d h shut (λ none. some (t.marks ∙ none)) n ∙ u.trailing n (omega (arith, le, short, length_is)));
    }

given_same : (g h : TransactionModel) → GivenUp g h → module_held h ≡ module_held g
given_same g h t = λ i. module_meaning (t.ctx i) (t.module_of i)

closed_same : (g h : TransactionModel) → Closed g h → module_held h ≡ module_held g
closed_same g h t = ap module_held t.held

module _ {B : Type 0} (meaning : B → Listener) where
  abbrev at : TransactionModel → List B → Benched B
  at h xs = record { transaction = h; listeners = xs }

  -- ---- a mark is opened

  pub mark_untold : {A : Type 0} (counted : Bool) (g h : TransactionModel) (xs : List B) (r : Result A Refusal) → OnOk r (h ≡ with_mark counted g) → OnErr r (h ≡ g) → Notified meaning [] (at g xs) (at h xs)
  mark_untold counted g h xs (Ok u) is same = notified_still meaning g h xs (ap (λ (k : TransactionModel). k.ctx) is) (ap module_held is)
  mark_untold counted g h xs (Err e) is same = notified_still meaning g h xs (ap (λ (k : TransactionModel). k.ctx) same) (ap module_held same)

  pub mark_led : {A : Type 0} (counted : Bool) (g h : TransactionModel) (xs : List B) (r : Result A Refusal) → OnOk r (h ≡ with_mark counted g) → OnErr r (h ≡ g) → Led meaning (at g xs) (at h xs)
  mark_led counted g h xs (Ok u) is same = led_still meaning g h xs (ap (λ (k : TransactionModel). k.ctx) is) (ap module_held is)
  mark_led counted g h xs (Err e) is same = led_left meaning g h xs same

  more : (counted : Bool) (g h : TransactionModel) (xs : List B) → h ≡ with_mark counted g → open_marks h ≡ record { marked = module_held g; counted = counted } ∷ open_marks g → done (module_held h) (open_marks h) ≡ marked counted (state_of meaning (at g xs))
  more counted g h xs is opens = λ i. done (ap module_held is i) (opens i)

  -- the result that `Mark` must have, by the marks of the transaction
  due_mark : (g : TransactionModel) (xs : List B) → due (state_of meaning (at g xs)) Mark ≡ cond (nat_lt (counted_among g.marks) most_marks) (marked true (state_of meaning (at g xs))) (refused TooManyMarks (state_of meaning (at g xs)))
  due_mark g xs = ap (λ n. cond (nat_lt n most_marks) (marked true (state_of meaning (at g xs))) (refused TooManyMarks (state_of meaning (at g xs)))) (counted_open g)

  mark_goes : (g h : TransactionModel) (xs : List B) → mark_reason true g.marks ≡ None → h ≡ with_mark true g → open_marks h ≡ record { marked = module_held g; counted = true } ∷ open_marks g → Does meaning Mark Done (at g xs) (at h xs)
  mark_goes g h xs free is opens = record { answer = inl (go (nat_lt (counted_among g.marks) most_marks) free ∙ sym (due_mark g xs)); panel = refl }
    where
      s : State
      s = state_of meaning (at g xs)

      go : (t : Bool) → cond t None (Some TooManyMarks) ≡ None → done (module_held h) (open_marks h) ≡ cond t (marked true s) (refused TooManyMarks s)
      go true e = more true g h xs is opens
      go false e = absurd cc

  mark_refused : (b : Benched B) (r : Refusal) → (mark_reason true b.transaction.marks ≡ Some r) ⊎ ((r ≡ Memory) × Unit {0}) → Does meaning Mark (Refused r) b b
  mark_refused b r why = record { answer = go why; panel = refl }
    where
      s : State
      s = state_of meaning b

      one : (t : Bool) → cond t None (Some TooManyMarks) ≡ Some r → refused r s ≡ cond t (marked true s) (refused TooManyMarks s)
      one true e = absurd cc
      one false e = (let same : r ≡ TooManyMarks = cc in ap (λ q. refused q s) same)

      go : (mark_reason true b.transaction.marks ≡ Some r) ⊎ ((r ≡ Memory) × Unit {0}) → IsAnswer s Mark (refused r s)
      go (inl h) = inl (one (nat_lt (counted_among b.transaction.marks) most_marks) h ∙ sym (due_mark b.transaction b.listeners))
      go (inr (memory, u)) = inr (refl, ap (λ q. refused q s) memory)

  step_goes : (g h : TransactionModel) (xs : List B) → h ≡ with_mark false g → open_marks h ≡ record { marked = module_held g; counted = false } ∷ open_marks g → Does meaning Step Done (at g xs) (at h xs)
  step_goes g h xs is opens = record { answer = inl (more false g h xs is opens); panel = refl }

  step_refused : (b : Benched B) (r : Refusal) → (mark_reason false b.transaction.marks ≡ Some r) ⊎ ((r ≡ Memory) × Unit {0}) → Does meaning Step (Refused r) b b
  step_refused b r why = record { answer = go why; panel = refl }
    where
      s : State
      s = state_of meaning b

      go : (mark_reason false b.transaction.marks ≡ Some r) ⊎ ((r ≡ Memory) × Unit {0}) → IsAnswer s Step (refused r s)
      go (inl h) = absurd (let n : None ≡ Some r = h in cc)
      go (inr (memory, u)) = inr (refl, ap (λ q. refused q s) memory)

  pub mark_does : {A : Type 0} (g h : TransactionModel) (xs : List B) (r : Result A Refusal) → OnOk r (h ≡ with_mark true g) → OnOk r (open_marks h ≡ record { marked = module_held g; counted = true } ∷ open_marks g) → OnErr r (h ≡ g) → IsAnswered (Unit {0}) (mark_reason true g.marks) r
      → Does meaning Mark (reply_of r) (at g xs) (at h xs)
  mark_does g h xs (Ok u) is opens same free = mark_goes g h xs free is opens
  mark_does g h xs (Err e) is opens same why = subst (λ (h : TransactionModel). Does meaning Mark (Refused e) (at g xs) (at h xs)) (sym same) (mark_refused (at g xs) e why)

  pub step_does : {A : Type 0} (g h : TransactionModel) (xs : List B) (r : Result A Refusal) → OnOk r (h ≡ with_mark false g) → OnOk r (open_marks h ≡ record { marked = module_held g; counted = false } ∷ open_marks g) → OnErr r (h ≡ g) → IsAnswered (Unit {0}) (mark_reason false g.marks) r
      → Does meaning Step (reply_of r) (at g xs) (at h xs)
  step_does g h xs (Ok u) is opens same free = step_goes g h xs is opens
  step_does g h xs (Err e) is opens same why = subst (λ (h : TransactionModel). Does meaning Step (Refused e) (at g xs) (at h xs)) (sym same) (step_refused (at g xs) e why)

  -- ---- commit: the newest mark is closed

  pub commit_goes : (g h k : TransactionModel) (xs : List B) → Closed g h → GivenUp h k → Does meaning Commit Done (at g xs) (at k xs)
  commit_goes g h k xs shut t =
      record {
        answer = inl ((λ i. done ((given_same h k t ∙ closed_same g h shut) i) (t.opens i)) ∙ sym (ap (λ l. due_commit l (state_of meaning (at g xs))) shut.marked));
        panel = refl;
      }

  pub commit_untold : (g h k : TransactionModel) (xs : List B) → Closed g h → GivenUp h k → Notified meaning [] (at g xs) (at k xs)
  commit_untold g h k xs shut t = notified_still meaning g k xs (t.ctx ∙ ap (λ (l : TransactionModel). l.ctx) shut.held) (given_same h k t ∙ closed_same g h shut)

  pub commit_led : (g h k : TransactionModel) (xs : List B) → Closed g h → GivenUp h k → Led meaning (at g xs) (at k xs)
  commit_led g h k xs shut t = led_still meaning g k xs (t.ctx ∙ ap (λ (l : TransactionModel). l.ctx) shut.held) (given_same h k t ∙ closed_same g h shut)

  pub commit_none : (b : Benched B) → b.transaction.marks ≡ [] → Does meaning Commit (Refused NoMark) b b
  commit_none b e = record { answer = inl (sym (ap (λ l. due_commit l (state_of meaning b)) (open_none b.transaction e))); panel = refl }

  -- ---- rollback: the module of the newest mark is restored

  pub rollback_none : (b : Benched B) → b.transaction.marks ≡ [] → Does meaning Rollback (Refused NoMark) b b
  rollback_none b e = record { answer = inl (sym (ap (λ l. due_rollback l (state_of meaning b)) (open_none b.transaction e))); panel = refl }

  module _ (mark : ℕ) (g d h k : TransactionModel) (xs ys : List B) (newest : IsNewest mark g) (u : UndoneTo mark g d) (shut : Closed d h) (t : GivenUp h k) (notified : Notified meaning (inverses (drop mark g.journal)) (at g xs) (at d ys)) where
    held_again : module_held k ≡ module_held d
    held_again = given_same h k t ∙ closed_same d h shut

    length_is : shut.mark.length ≡ mark
    length_is = ap (λ (m : TransactionMark). m.length) (last_same h.marks newest.rest shut.mark (record { length = mark; counted = newest.counted }) (sym shut.marks ∙ u.marks ∙ newest.marks))

    nothing_left : drop shut.mark.length d.journal ≡ []
    nothing_left = (λ i. drop (length_is i) (u.journal i)) ∙ drop_taken mark g.journal

    marked_is : (open_mark d shut.mark).marked ≡ module_held k
    marked_is = ap (λ es. before d.ctx es d.store) nothing_left ∙ sym held_again

    notified_back : Notified meaning (inverses (drop mark g.journal)) (at g xs) (at k ys)
    notified_back = notified_onward meaning (inverses (drop mark g.journal)) (at g xs) d k ys (t.ctx ∙ ap (λ (l : TransactionModel). l.ctx) shut.held) held_again notified

    pub rollback_notified : NotifiedBack meaning (at g xs) (at k ys)
    rollback_notified = (mark, newest, notified_back)

    pub rollback_led : Led meaning (at g xs) (at k ys)
    rollback_led = (inverses (drop mark g.journal), notified_back)

    pub rollback_goes : Does meaning Rollback Done (at g xs) (at k ys)
    rollback_goes =
        record {
          answer = inl ((λ i. done (sym marked_is i) (t.opens i)) ∙ sym (ap (λ l. due_rollback l (state_of meaning (at g xs))) (sym u.opens ∙ shut.marked)));
          panel = led_ages meaning (at g xs) (at k ys) rollback_led;
        }
