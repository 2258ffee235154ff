-- The state of a transaction after edits, undone events and other calls.
use Rattle.std.proofs.Common.{◌≡◌, Bool, true, false, cond, Option, Some, None, ℕ, ◌+◌, ◌-◌, ◌≤◌, List, [], ◌∷◌, ◌++◌, length, drop, map, refl, sym, subst, ap, ◌∙◌, arith, length-append}
use Rattle.std.specs.FinMap as finmap
use Rattle.std.specs.Ordering.{nat_cmp}
use Rattle.std.specs.Prelude.{is_some, nat_lt, reverse, Result, Ok, Err, IfOk, OnOk, OnErr}
use Rattle.std.proofs.lemmas.Bool.{cond-false}
use Rattle.std.proofs.lemmas.Bool.Decides.{nat_tests}
use Rattle.std.proofs.lemmas.Cmp.{nat_cmp_total}
use Rattle.std.proofs.lemmas.List.{drop-append-le}
use Rattle.std.proofs.Math.Seq.{drop-nil}
use Rattle.ir_event.specs.types.declared.refusal.Refusal.{Refusal}
use Rattle.ir_event.specs.types.Sound.{IsSound}
use Rattle.ir_event.specs.types.Things.{ContextModel, IsExtendedBy}
use Rattle.ir_event.specs.trees.Ids.{find, has_id}
use Rattle.ir_event.specs.trees.Tree.{Op}
use Rattle.ir_event.specs.trees.WellFormed.{Module}
use Rattle.ir_event.specs.store.Calls.{Releases, gone_left}
use Rattle.ir_event.specs.store.Stored.{Gone, Stored, known, none_gone}
use Rattle.ir_event.specs.declared.event.Event.{Event}
use Rattle.ir_event.proofs.Shown.{known_there, none_found}
use Rattle.ir_event.specs.Listener.{ShowsTaken}
use Rattle.ir_event.specs.Modules.{module_meaning}
use Rattle.ir_event.specs.Step.{Step, inverse_of}
use Rattle.ir_event.specs.Undoing.{CameFrom, undone}
use Rattle.rewriter_machine.specs.Journals.{IsJournal, TracksRemovedKeys, IsStoreOf, Noted, before, undone_all}
use Rattle.rewriter.specs.declared.mark.JournalMark.{JournalMark}
use Rattle.rewriter.specs.Held.{TransactionModel, IsWellFormed, Within, module_at, module_held, open_mark, open_marks, shown_of}
use Rattle.rewriter.specs.Moves.{Edited, Grown, HoldsModuleAlone, HoldsNone, Tidied, Undone, noted, noted_as}
use Rattle.rewriter.proofs.Following.{newest_undone, grown_journal, grown_before, released_journal, released_before, slotted_undone, slotted_released, tidy_released}
use Rattle.rewriter.proofs.MarkLaws.{opens_same, push-none, within-more}
use Rattle.rewriter_machine.proofs.Ended.{before_last, undone_both}

-- ---- recorded events

noted_made : (ks : List JournalMark) (es : List Event) (e : Event) → noted_as ks es (Ok e) ≡ noted ks es e
noted_made [] es e = refl
noted_made (k ∷ ks) es e = refl

not_noted : (ks : List JournalMark) (es : List Event) (r : Refusal) → noted_as ks es (Err r) ≡ es
not_noted [] es r = refl
not_noted (k ∷ ks) es r = refl

noted_leads : (c : ContextModel) (ks : List JournalMark) (es : List Event) (e : Event) (s u : Stored) → (ks ≡ [] → es ≡ []) → Noted c es e s u → IsJournal c (noted ks es e) u
noted_leads c [] es e s u none n = rw (none refl) tt
noted_leads c (k ∷ ks) es e s u none n = n.journal

noted_within : (ks : List JournalMark) (es : List Event) (e : Event) → Within (length es) ks → Within (length (noted ks es e)) ks
noted_within [] es e h = tt
noted_within (k ∷ ks) es e h = within-more (length es) _ (k ∷ ks) (omega (arith, length-append es (e ∷ []))) h

noted_none : (ks : List JournalMark) (es : List Event) (e : Event) → (ks ≡ [] → es ≡ []) → ks ≡ [] → noted ks es e ≡ []
noted_none ks es e h none = rw none (h none)

noted_before : (c : ContextModel) (ks : List JournalMark) (es : List Event) (e : Event) (s u : Stored) → (ks ≡ [] → ⊥) → Noted c es e s u → (k : ℕ) → k ≤ length es → before c (drop k (noted ks es e)) u ≡ before c (drop k es) s
noted_before c [] es e s u some n k le = absurd (some refl)
noted_before c (j ∷ ks) es e s u some n k le = ap (λ fs. before c fs u) (drop-append-le k es (e ∷ []) le) ∙ n.modules k le

module _ (h : TransactionModel) (good : IsWellFormed h) where
  abbrev after : Event → Stored → TransactionModel
  after e s = record { ctx = h.ctx; store = s; journal = noted h.marks h.journal e; marks = h.marks }

  pub good_after : (e : Event) (s : Stored) → Noted h.ctx h.journal e h.store s → TracksRemovedKeys s → IsWellFormed (after e s)
  good_after e s n slots = record {
    slotted = slots;
    leads = noted_leads h.ctx h.marks h.journal e h.store s good.none n;
    rising = good.rising;
    within = noted_within h.marks h.journal e good.within;
    none = noted_none h.marks h.journal e good.none;
  }

  open_of : (e : Event) (s : Stored) → Noted h.ctx h.journal e h.store s → (ks : List JournalMark) → h.marks ≡ ks → open_marks (after e s) ≡ open_marks h
  open_of e s n [] is = ap (λ ms. reverse (map (open_mark (after e s)) ms)) is ∙ sym (ap (λ ms. reverse (map (open_mark h) ms)) is)
  open_of e s n (k ∷ ks) is = opens_same h (after e s) (length h.journal) refl good.within (noted_before h.ctx h.marks h.journal e h.store s (λ none. absurd (some (sym is ∙ none))) n)
    where
      some : (k ∷ ks) ≡ [] → ⊥
      some bad = cc

  pub open_after : (e : Event) (s : Stored) → Noted h.ctx h.journal e h.store s → open_marks (after e s) ≡ open_marks h
  open_after e s n = open_of e s n h.marks refl

  -- the state after an edit that was made or refused, with u the new store
  abbrev outcome : Result Event Refusal → Stored → TransactionModel
  outcome made u = record { ctx = h.ctx; store = u; journal = noted_as h.marks h.journal made; marks = h.marks }

  pub good_outcome : (made : Result Event Refusal) (u : Stored) → OnErr made (u ≡ h.store) → IfOk made (λ e. Noted h.ctx h.journal e h.store u) → TracksRemovedKeys u → IsWellFormed (outcome made u)
  good_outcome (Ok e) u err n slots = rw (noted_made h.marks h.journal e) (good_after e u n slots)
  good_outcome (Err r) u err n slots = rw (err, not_noted h.marks h.journal r) good

  pub ok_outcome : (made : Result Event Refusal) (s u : Stored) → OnOk made (u ≡ s) → IfOk made (λ e. Noted h.ctx h.journal e h.store u) → IfOk made (λ e. Step h.ctx e (module_held h) (module_meaning h.ctx u.module_of))
      → IfOk made (λ e. ShowsTaken e (module_held h) (shown_of (outcome made u))) → IfOk made (λ e. Edited e s h (outcome made u))
  ok_outcome (Ok e) s u is n step shown = record {
    held = rw (is, noted_made h.marks h.journal e) refl;
    step = step;
    shown = shown;
    marked = rw (noted_made h.marks h.journal e) (open_after e u n);
    trailing = rw (noted_made h.marks h.journal e) (λ some k le. noted_before h.ctx h.marks h.journal e h.store u some n k le);
  }
  ok_outcome (Err r) s u is n step shown = tt

  pub err_outcome : (made : Result Event Refusal) (u : Stored) → OnErr made (u ≡ h.store) → OnErr made (outcome made u ≡ h)
  err_outcome (Ok e) u err = tt
  err_outcome (Err r) u err = rw (err, not_noted h.marks h.journal r) refl

-- ---- an undone event

module _ (h : TransactionModel) (good : IsWellFormed h) (store : IsStoreOf h.ctx h.store) (es : List Event) (e : Event) (is : h.journal ≡ es ++ e ∷ []) (free : Within (length h.journal - 1) h.marks) where
  abbrev undone_held : TransactionModel
  undone_held = record { ctx = h.ctx; store = undone h.ctx e h.store; journal = es; marks = h.marks }

  longer : length h.journal ≡ length es + 1
  longer = ap length is ∙ length-append es (e ∷ [])

  within_rest : Within (length es) h.marks
  within_rest = within-more (length h.journal - 1) (length es) h.marks (let l = longer in omega (arith, l)) free

  leads : IsJournal h.ctx (es ++ e ∷ []) h.store
  leads = subst (λ js. IsJournal h.ctx js h.store) is good.leads

  pub came_from : CameFrom h.ctx e (before h.ctx (e ∷ []) h.store) h.store
  came_from = (newest_undone h.ctx es e h.store leads).0

  pub good_undone : IsWellFormed undone_held
  good_undone = record {
    slotted = slotted_undone h.ctx e (before h.ctx (e ∷ []) h.store) h.store store came_from good.slotted;
    leads = (newest_undone h.ctx es e h.store leads).1;
    rising = good.rising;
    within = within_rest;
    none = λ no. absurd (push-none es e (sym is ∙ good.none no));
  }

  before_undone : (k : ℕ) → k ≤ length es → module_at k undone_held ≡ module_at k h
  before_undone k le = sym (ap (λ js. before h.ctx (drop k js) h.store) is ∙ ap (λ js. before h.ctx js h.store) (drop-append-le k es (e ∷ []) le) ∙ before_last h.ctx (drop k es) e h.store)

  pub open_undone : open_marks undone_held ≡ open_marks h
  open_undone = opens_same h undone_held (length es) refl within_rest before_undone

  -- the state after a call that undid an event and returned f
  module _ (d : ContextModel) (u : Stored) (is_d : d ≡ h.ctx) (is_u : u ≡ undone h.ctx e h.store) where
    pub undo_good : IsWellFormed (record { ctx = d; store = u; journal = es; marks = h.marks })
    undo_good = rw (is_d, is_u) good_undone

    pub undo_done : (f : Event) → f ≡ inverse_of e → Step h.ctx (inverse_of e) (module_held h) (module_meaning d u.module_of) → ShowsTaken (inverse_of e) (module_held h) (shown_of (record { ctx = d; store = u; journal = es; marks = h.marks }))
        → Undone f h (record { ctx = d; store = u; journal = es; marks = h.marks })
    undo_done f is_f step shown = record {
      last = e;
      is = is_f;
      journal = is;
      held = rw (is_d, is_u) refl;
      step = rw is_f step;
      shown = rw is_f shown;
      marked = rw (is_d, is_u) open_undone;
      trailing = rw (is_d, is_u) before_undone;
    }

-- ---- held operations are released, and the context grows

-- an operation whose id is in a tree is found there
is_there : (x : ℕ) (t : Op) → has_id x t ≡ true → is_some (find x t) ≡ true
is_there x t e = go (find x t) refl
  where
    go : (o : Option Op) → find x t ≡ o → is_some o ≡ true
    go None f = absurd (let bad : true ≡ false = sym e ∙ none_found x t f in cc)
    go (Some o) f = refl

module _ (h : TransactionModel) (good : IsWellFormed h) where
  abbrev released : ContextModel → Stored → TransactionModel
  released d u = record { ctx = d; store = u; journal = h.journal; marks = h.marks }

  module _ (is : IsStoreOf h.ctx h.store) (from : ℕ) (d : ContextModel) (u : Stored) (is_d : d ≡ h.ctx) (r : Releases from h.store u) where
    good_released : h.store.module_of.next ≤ from → 1 ≤ from → IsWellFormed (released h.ctx u)
    good_released le some = record { slotted = slotted_released from h.store u r good.slotted; leads = released_journal h.ctx from h.journal h.store u is good.leads r le some; rising = good.rising; within = good.within; none = good.none }

    pub release_good : h.store.module_of.next ≤ from → 1 ≤ from → IsWellFormed (released d u)
    release_good le some = rw is_d (good_released le some)

    before_released : h.store.module_of.next ≤ from → 1 ≤ from → (k : ℕ) → module_at k (released h.ctx u) ≡ module_at k h
    before_released le some k = released_before h.ctx from h.journal h.store u is good.leads r le some k

    open_released : h.store.module_of.next ≤ from → 1 ≤ from → open_marks (released h.ctx u) ≡ open_marks h
    open_released le some = opens_same h (released h.ctx u) (length h.journal) refl good.within (λ k le2. before_released le some k)

    pub release_done : h.store.module_of.next ≤ from → from ≤ h.store.module_of.next → 1 ≤ from → Tidied from h (released d u)
    release_done le le2 some = record { released = r; held = rw is_d refl; tidy = tidy_released from h.store u r le2; marked = rw is_d (open_released le some); trailing = rw is_d (before_released le some) }

  -- if no mark is open
  module _ (d : ContextModel) (u : Stored) (is_d : d ≡ h.ctx) (r : Releases 0 h.store u) (no_marks : h.marks ≡ []) where
    pub settle_good : IsWellFormed (released d u)
    settle_good = rw is_d (record {
      slotted = slotted_released 0 h.store u r good.slotted;
      leads = subst (λ js. IsJournal h.ctx js u) (sym (good.none no_marks)) tt;
      rising = good.rising;
      within = good.within;
      none = good.none;
    })

    no_events : (k : ℕ) → drop k h.journal ≡ []
    no_events k = ap (λ js. drop k js) (good.none no_marks) ∙ drop-nil k

    settled_before : (k : ℕ) → module_at k (released d u) ≡ module_at k h
    settled_before k = ap (λ js. before d js u) (no_events k) ∙ (λ i. module_meaning (is_d i) (r.module_of i)) ∙ sym (ap (λ js. before h.ctx js h.store) (no_events k))

    pub settle_done : Tidied 0 h (released d u)
    settle_done = record {
      released = r;
      held = rw is_d refl;
      tidy = tidy_released 0 h.store u r (omega arith);
      marked = ap (λ ms. reverse (map (open_mark (released d u)) ms)) no_marks ∙ sym (ap (λ ms. reverse (map (open_mark h) ms)) no_marks);
      trailing = settled_before;
    }

    pub settle_none : HoldsNone u
    settle_none x = ap (λ m. finmap.get m x) r.held ∙ finmap.get-retain_keys h.store.held (λ x. nat_lt x 0) x (λ y e. ap (λ z. nat_lt z 0) (sym (finmap.nat_cmp-IsAntisymmetric x y e))) ∙ cond-false (nat_lt x 0) (finmap.get h.store.held x) None none_below
      where
        none_below : nat_lt x 0 ≡ false
        none_below = grind (arith, nat_tests)

    -- no operation of the module has removed keys
    settle_gone : (x : ℕ) (b : Bool) → has_id x h.store.module_of.tree ≡ b → finmap.get u.gone x ≡ cond b (Some none_gone) None
    settle_gone x true e = r.gone x ∙ ap (λ b. cond b (gone_left 0 (finmap.get h.store.gone x)) (cond (nat_lt x 0) (finmap.get h.store.gone x) None)) e ∙ go (finmap.get h.store.gone x) refl
      where
        kept : is_some (finmap.get h.store.gone x) ≡ true
        kept = good.slotted x (ap is_some (known_there x h.store e) ∙ is_there x h.store.module_of.tree e)

        go : (o : Option Gone) → finmap.get h.store.gone x ≡ o → gone_left 0 o ≡ Some none_gone
        go None f = absurd (let bad : true ≡ false = sym kept ∙ ap is_some f in cc)
        go (Some g) f = refl
    settle_gone x false e =
        r.gone x ∙ ap (λ b. cond b (gone_left 0 (finmap.get h.store.gone x)) (cond (nat_lt x 0) (finmap.get h.store.gone x) None)) e ∙ cond-false (nat_lt x 0) (finmap.get h.store.gone x) None (let no : nat_lt x 0 ≡ false = grind (arith, nat_tests) in no)

    pub settle_alone : HoldsModuleAlone u
    settle_alone = record {
      module_of = refl;
      held = finmap.same_map nat_cmp_total finmap.nat_cmp-IsAntisymmetric u.held finmap.empty (λ x. settle_none x ∙ sym (finmap.get-empty nat_cmp x));
      gone = λ x. settle_gone x (has_id x h.store.module_of.tree) refl ∙ ap (λ (m : Module). cond (has_id x m.tree) (Some none_gone) None) (sym r.module_of);
    }

  module _ (is : IsStoreOf h.ctx h.store) (d : ContextModel) (u : Stored) (sound : IsSound d) (g : IsExtendedBy h.ctx d) (is_u : u ≡ h.store) where
    good_grown : IsWellFormed (released d h.store)
    good_grown = record { slotted = good.slotted; leads = grown_journal h.ctx d h.journal h.store is sound g good.leads; rising = good.rising; within = good.within; none = good.none }

    pub grow_good : IsWellFormed (released d u)
    grow_good = rw is_u good_grown

    before_grown : (k : ℕ) → module_at k (released d h.store) ≡ module_at k h
    before_grown k = grown_before h.ctx d h.journal h.store is sound g good.leads k

    open_grown : open_marks (released d h.store) ≡ open_marks h
    open_grown = opens_same h (released d h.store) (length h.journal) refl good.within (λ k le. before_grown k)

    pub grow_done : module_meaning d u.module_of ≡ module_held h → Grown h (released d u)
    grow_done same = record { grows = g; held = rw is_u refl; same = same; marked = rw is_u open_grown; trailing = rw is_u before_grown }
