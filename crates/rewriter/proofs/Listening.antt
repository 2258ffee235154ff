-- The state of a rewriter after its listeners are attached, detached, resynced or read.
use Rattle.std.proofs.Common.{◌≡◌, ◌∙◌, sym, ap, subst, refl, inl, inr, ◌⊎◌, ℕ, List, true, false, Option, Some, None, Result, Ok, Err}
use Rattle.std.specs.Prelude.{MatchResult, IsErrOf, IfOk, IfErr, OnOk, OnErr, All}
use Rattle.std.specs.List.{find}
use Rattle.std.specs.Option.{option_map}
use Rattle.ir_event.specs.types.Things.{ContextModel}
use Rattle.ir_event.specs.types.declared.refusal.Refusal.{Refusal}
use Rattle.ir_event.specs.types.declared.refusal.Refusal.TheVariants.{KindTaken, Memory, NoSuchKind, Stale}
use Rattle.ir_event.specs.Listener.{Listener}
use Rattle.ir_event.specs.Modules.{Module, module_meaning, context_model, module_in}
use Rattle.ir_event.specs.declared.world.World.{World}
use Rattle.ir_event.proofs.Kept.{kept_attached, kept_detached, kept_begun, kept_not_begun}
use Rattle.ir_event.specs.Panels.{AllKept, AttachedLast, BegunAgain, Detached, HandedBack, NotBegunAgain, IsListener, has_kind, is_kind}
use Rattle.ir_event.specs.Rows.{RowTerm, RowIsOf, Shows, rows_meaning}
use Rattle.ir_event.specs.declared.row.Row.{Row}
use Rattle.rewriter.specs.Machine.{State, OpenMark, Attach, Detach, Resync, Report, Reply, Done, Refused, Shows as ShownNextTo, Nothing, Rows, Goes}
use Rattle.rewriter.specs.Panels.{shown, all_shown, has_kind as kind_among, is_kind as is_shown_kind}
use Rattle.rewriter.specs.Held.{TransactionModel, module_held, open_marks}
use Rattle.rewriter.specs.RewriterCalls.{Benched, Does, AgreesOrStale, attach_reply_of, reply_of}
use Rattle.rewriter.proofs.Panels.{kind_shown, find_shown, find_has, attached_shown, detached_shown, begun_shown, has_placed, Found, listener_found}

module _ {B : Type 0} (meaning : B → Listener) (m : Module) (ks : List OpenMark) where
  abbrev with : List B → State
  with xs = record { held = m; marks = ks; panel = all_shown meaning xs }

  -- a listener is attached
  attached_goes : (c : ContextModel) (b : B) (xs ys : List B) → AttachedLast meaning c m b xs ys → Goes (with xs) (Attach (shown (meaning b))) Done Nothing (with ys)
  attached_goes c b xs ys h =
      let free : kind_among (meaning b).kind (all_shown meaning xs) ≡ false = kind_shown meaning (meaning b).kind xs ∙ h.free in
      record { answer = inl (rw free refl); panel = attached_shown meaning c m b xs ys h }

  unattached_goes : (b back : B) (xs : List B) (r : Refusal) → HandedBack meaning xs b r back → Goes (with xs) (Attach (shown (meaning b))) (Refused r) Nothing (with xs)
  unattached_goes b back xs KindTaken h = let taken : kind_among (meaning b).kind (all_shown meaning xs) ≡ true = kind_shown meaning (meaning b).kind xs ∙ h.1 in record { answer = inl (rw taken refl); panel = refl }
  unattached_goes b back xs Memory h = record { answer = inr (refl, refl); panel = refl }
  unattached_goes b back xs _ h = absurd h

  -- a listener is detached
  detached_goes : (kind : ℕ) (xs ys : List B) → Detached meaning kind xs ys → Goes (with xs) (Detach kind) Done Nothing (with ys)
  detached_goes kind xs ys h = let there : kind_among kind (all_shown meaning xs) ≡ true = has_placed meaning kind h.place xs h.is in record { answer = inl (rw there refl); panel = detached_shown meaning kind xs ys h }

  undetached_goes : (kind : ℕ) (xs : List B) (r : Refusal) → (r ≡ NoSuchKind) × (has_kind meaning kind xs ≡ false) → Goes (with xs) (Detach kind) (Refused r) Nothing (with xs)
  undetached_goes kind xs r h = let absent : kind_among kind (all_shown meaning xs) ≡ false = kind_shown meaning kind xs ∙ h.1 in record { answer = inl (rw (h.0, absent) refl); panel = refl }

  -- a listener is resynced
  begun_goes : (kind : ℕ) (c : ContextModel) (xs ys : List B) → BegunAgain meaning kind (λ b. b.agrees c m) xs ys → Goes (with xs) (Resync kind) Done Nothing (with ys)
  begun_goes kind c xs ys h =
      let there : kind_among kind (all_shown meaning xs) ≡ true = has_placed meaning kind h.place xs h.is in
      record { answer = inl (rw there refl); panel = begun_shown meaning kind (λ b. b.agrees c m) false xs ys (λ b a. (meaning b).fresh c m a) h }

  unbegun_goes : (kind : ℕ) (xs ys : List B) (r : Refusal) → NotBegunAgain meaning kind xs ys r → Goes (with xs) (Resync kind) (Refused r) Nothing (with ys)
  unbegun_goes kind xs ys NoSuchKind h =
      let absent : kind_among kind (all_shown meaning xs) ≡ false = kind_shown meaning kind xs ∙ h.1 in
      record { answer = inl (rw absent refl); panel = inl (ap (all_shown meaning) h.0) }
  unbegun_goes kind xs ys Memory h = record { answer = inr (refl, refl); panel = inr (refl, begun_shown meaning kind (λ b. b.stale ≡ true) true xs ys (λ b e. e) h) }
  unbegun_goes kind xs ys _ h = absurd h

  -- a listener reports its rows
  module _ (kind : ℕ) (xs : List B) where
    abbrev Reports : Reply → ShownNextTo → Type 0
    Reports reply shows = Goes (with xs) (Report kind) reply shows (with xs)

    found_as : (o : Option B) → find (is_kind meaning kind) xs ≡ o → find (is_shown_kind kind) (all_shown meaning xs) ≡ option_map (λ b. shown (meaning b)) o
    found_as o e = find_shown meaning kind xs ∙ ap (option_map (λ b. shown (meaning b))) e

    reports_none : find (is_kind meaning kind) xs ≡ None → Reports (Refused NoSuchKind) Nothing
    reports_none e = let f : find (is_shown_kind kind) (all_shown meaning xs) ≡ None = found_as None e in record { answer = inl (rw f refl); panel = refl }

    reports_stale : (b : B) → find (is_kind meaning kind) xs ≡ Some b → (meaning b).stale ≡ true → Reports (Refused Stale) Nothing
    reports_stale b e stale = let f : find (is_shown_kind kind) (all_shown meaning xs) ≡ Some (shown (meaning b)) = found_as (Some b) e in record { answer = inl (rw (f, stale) refl); panel = refl }

    reports_rows : (b : B) (rows : List RowTerm) → find (is_kind meaning kind) xs ≡ Some b → (meaning b).stale ≡ false → rows ≡ (meaning b).analysis m.tree → Reports Done (Rows rows)
    reports_rows b rows e fresh is = let f : find (is_shown_kind kind) (all_shown meaning xs) ≡ Some (shown (meaning b)) = found_as (Some b) e in record { answer = inl (rw (f, fresh, is) refl); panel = refl }

    reports_memory : Reports (Refused Memory) Nothing
    reports_memory = record { answer = inr (refl, refl); panel = refl }

    -- the contract of a report, for the listener of its kind
    module _ {X : Type 0} (items : X → List Row) (c : ContextModel) (result : Result X Refusal)
        (missing : has_kind meaning kind xs ≡ false → IsErrOf result NoSuchKind)
        (agreed : (b : B) → IsListener meaning kind xs b → (meaning b).agrees c m → MatchResult result (λ rows. Shows c (items rows) ((meaning b).analysis m.tree)) (λ e. e ≡ Memory))
        (stale : (b : B) → IsListener meaning kind xs b → (meaning b).stale ≡ true → IsErrOf result Stale)
        (kept : AllKept meaning c m xs) where
      abbrev Outcome : Result X Refusal → Type 0
      Outcome r = MatchResult r (λ rows. All (RowIsOf c) (items rows) × Reports Done (Rows (rows_meaning c (items rows)))) (λ e. Reports (Refused e) Nothing)

      is_none : (r : Result X Refusal) → find (is_kind meaning kind) xs ≡ None → IsErrOf r NoSuchKind → Outcome r
      is_none (Ok x) e h = absurd cc
      is_none (Err q) e h = (let same : q ≡ NoSuchKind = cc in subst (λ (q : Refusal). Reports (Refused q) Nothing) (sym same) (reports_none e))

      is_stale : (r : Result X Refusal) (b : B) → find (is_kind meaning kind) xs ≡ Some b → (meaning b).stale ≡ true → IsErrOf r Stale → Outcome r
      is_stale (Ok x) b e s h = absurd cc
      is_stale (Err q) b e s h = (let same : q ≡ Stale = cc in subst (λ (q : Refusal). Reports (Refused q) Nothing) (sym same) (reports_stale b e s))

      is_fresh : (r : Result X Refusal) (b : B) → find (is_kind meaning kind) xs ≡ Some b → (meaning b).agrees c m → MatchResult r (λ rows. Shows c (items rows) ((meaning b).analysis m.tree)) (λ e. e ≡ Memory) → Outcome r
      is_fresh (Ok x) b e a h = (h.known, reports_rows b (rows_meaning c (items x)) e ((meaning b).fresh c m a) h.says)
      is_fresh (Err q) b e a h = subst (λ (q : Refusal). Reports (Refused q) Nothing) (sym h) reports_memory

      reported : Outcome result
      reported = go (find (is_kind meaning kind) xs) refl (listener_found meaning kind xs)
        where
          either : (b : B) → find (is_kind meaning kind) xs ≡ Some b → IsListener meaning kind xs b → (meaning b).agrees c m ⊎ ((meaning b).stale ≡ true) → Outcome result
          either b e l (inl a) = is_fresh result b e a (agreed b l a)
          either b e l (inr s) = is_stale result b e s (stale b l s)

          go : (o : Option B) → find (is_kind meaning kind) xs ≡ o → Found meaning kind xs o → Outcome result
          go None e absent = is_none result e (missing absent)
          go (Some b) e l = either b e l (find_has meaning (λ b. (meaning b).agrees c m ⊎ ((meaning b).stale ≡ true)) (is_kind meaning kind) xs b kept e)

      pub reported_known : IfOk result (λ rows. All (RowIsOf c) (items rows))
      reported_known = go result reported
        where
          go : (r : Result X Refusal) → Outcome r → IfOk r (λ rows. All (RowIsOf c) (items rows))
          go (Ok x) h = h.0
          go (Err e) h = tt

      pub reported_goes : MatchResult result (λ rows. Reports Done (Rows (rows_meaning c (items rows)))) (λ e. Reports (Refused e) Nothing)
      reported_goes = go result reported
        where
          go : (r : Result X Refusal) → Outcome r → MatchResult r (λ rows. Reports Done (Rows (rows_meaning c (items rows)))) (λ e. Reports (Refused e) Nothing)
          go (Ok x) h = h.1
          go (Err e) h = h

-- the outcomes of the listener calls
module _ {B : Type 0} (meaning : B → Listener) (h : TransactionModel) (xs ys : List B) where
  abbrev at : List B → Benched B
  at zs = record { transaction = h; listeners = zs }

  left_kept : ys ≡ xs → AgreesOrStale meaning (at xs) → AgreesOrStale meaning (at ys)
  left_kept e k = subst (λ zs. AgreesOrStale meaning (at zs)) (sym e) k

  module _ {A : Type 0} (kind : ℕ) (r : Result A Refusal) where
    pub detach_does : OnOk r (Detached meaning kind xs ys) → OnErr r (ys ≡ xs) → IfErr r (λ e. (e ≡ NoSuchKind) × (has_kind meaning kind xs ≡ false)) → Does meaning (Detach kind) (reply_of r) (at xs) (at ys)
    detach_does = go r
      where
        go : (r : Result A Refusal) → OnOk r (Detached meaning kind xs ys) → OnErr r (ys ≡ xs) → IfErr r (λ e. (e ≡ NoSuchKind) × (has_kind meaning kind xs ≡ false)) → Does meaning (Detach kind) (reply_of r) (at xs) (at ys)
        go (Ok u) d e k = detached_goes meaning (module_held h) (open_marks h) kind xs ys d
        go (Err f) d e k = subst (λ zs. Does meaning (Detach kind) (Refused f) (at xs) (at zs)) (sym e) (undetached_goes meaning (module_held h) (open_marks h) kind xs f k)

    pub detach_kept : OnOk r (Detached meaning kind xs ys) → OnErr r (ys ≡ xs) → AgreesOrStale meaning (at xs) → AgreesOrStale meaning (at ys)
    detach_kept = go r
      where
        go : (r : Result A Refusal) → OnOk r (Detached meaning kind xs ys) → OnErr r (ys ≡ xs) → AgreesOrStale meaning (at xs) → AgreesOrStale meaning (at ys)
        go (Ok u) d e kept = kept_detached meaning h.ctx (module_held h) kind xs ys d kept
        go (Err f) d e kept = left_kept e kept

-- the same for listeners that read an IR state that is the transaction's
module _ {B : Type 0} (meaning : B → Listener) (h : TransactionModel) (w : World) (xs ys : List B) (ctx : w.ctx ≡ h.ctx) (store : w.store ≡ h.store) where
  there : module_in w ≡ module_held h
  there = λ i. module_meaning (ctx i) (store i).module_of

  last_there : (b : B) → AttachedLast meaning (context_model w) (module_in w) b xs ys → AttachedLast meaning h.ctx (module_held h) b xs ys
  last_there b a = subst (λ (m : Module). AttachedLast meaning h.ctx m b xs ys) there (subst (λ (c : ContextModel). AttachedLast meaning c (module_in w) b xs ys) ctx a)

  begun_there : (kind : ℕ) → BegunAgain meaning kind (λ b. b.agrees (context_model w) (module_in w)) xs ys → BegunAgain meaning kind (λ b. b.agrees h.ctx (module_held h)) xs ys
  begun_there kind a = subst (λ (m : Module). BegunAgain meaning kind (λ b. b.agrees h.ctx m) xs ys) there (subst (λ (c : ContextModel). BegunAgain meaning kind (λ b. b.agrees c (module_in w)) xs ys) ctx a)

  module _ {A : Type 0} (b : B) (r : Result A (Refusal × B)) (ok : OnOk r (AttachedLast meaning (context_model w) (module_in w) b xs ys)) (err : OnErr r (ys ≡ xs)) where
    pub attach_ok : OnOk r (AttachedLast meaning h.ctx (module_held h) b xs ys)
    attach_ok = go r ok
      where
        go : (r : Result A (Refusal × B)) → OnOk r (AttachedLast meaning (context_model w) (module_in w) b xs ys) → OnOk r (AttachedLast meaning h.ctx (module_held h) b xs ys)
        go (Ok u) a = last_there b a
        go (Err e) a = tt

    pub attach_does : IfErr r (λ e. HandedBack meaning xs b e.0 e.1) → Does meaning (Attach (shown (meaning b))) (attach_reply_of r) (record { transaction = h; listeners = xs }) (record { transaction = h; listeners = ys })
    attach_does back = go r ok err back
      where
        go : (r : Result A (Refusal × B)) → OnOk r (AttachedLast meaning (context_model w) (module_in w) b xs ys) → OnErr r (ys ≡ xs) → IfErr r (λ e. HandedBack meaning xs b e.0 e.1) → Does meaning (Attach (shown (meaning b))) (attach_reply_of r) (record { transaction = h; listeners = xs }) (record { transaction = h; listeners = ys })
        go (Ok u) a e k = attached_goes meaning (module_held h) (open_marks h) h.ctx b xs ys (last_there b a)
        go (Err f) a e k = subst (λ zs. Does meaning (Attach (shown (meaning b))) (Refused f.0) (record { transaction = h; listeners = xs }) (record { transaction = h; listeners = zs })) (sym e) (unattached_goes meaning (module_held h) (open_marks h) b f.1 xs f.0 k)

    pub attach_kept : AgreesOrStale meaning (record { transaction = h; listeners = xs }) → AgreesOrStale meaning (record { transaction = h; listeners = ys })
    attach_kept kept = go r ok err
      where
        go : (r : Result A (Refusal × B)) → OnOk r (AttachedLast meaning (context_model w) (module_in w) b xs ys) → OnErr r (ys ≡ xs) → AgreesOrStale meaning (record { transaction = h; listeners = ys })
        go (Ok u) a e = kept_attached meaning h.ctx (module_held h) b xs ys (last_there b a) kept
        go (Err f) a e = left_kept meaning h xs ys e kept

  module _ {A : Type 0} (kind : ℕ) (r : Result A Refusal) where
    pub resync_ok : OnOk r (BegunAgain meaning kind (λ b. b.agrees (context_model w) (module_in w)) xs ys) → OnOk r (BegunAgain meaning kind (λ b. b.agrees h.ctx (module_held h)) xs ys)
    resync_ok = go r
      where
        go : (r : Result A Refusal) → OnOk r (BegunAgain meaning kind (λ b. b.agrees (context_model w) (module_in w)) xs ys) → OnOk r (BegunAgain meaning kind (λ b. b.agrees h.ctx (module_held h)) xs ys)
        go (Ok u) a = begun_there kind a
        go (Err f) a = tt

    pub resync_does : OnOk r (BegunAgain meaning kind (λ b. b.agrees (context_model w) (module_in w)) xs ys) → IfErr r (λ e. NotBegunAgain meaning kind xs ys e) → Does meaning (Resync kind) (reply_of r) (record { transaction = h; listeners = xs }) (record { transaction = h; listeners = ys })
    resync_does = go r
      where
        go : (r : Result A Refusal) → OnOk r (BegunAgain meaning kind (λ b. b.agrees (context_model w) (module_in w)) xs ys) → IfErr r (λ e. NotBegunAgain meaning kind xs ys e) → Does meaning (Resync kind) (reply_of r) (record { transaction = h; listeners = xs }) (record { transaction = h; listeners = ys })
        go (Ok u) a e = begun_goes meaning (module_held h) (open_marks h) kind h.ctx xs ys (begun_there kind a)
        go (Err f) a e = unbegun_goes meaning (module_held h) (open_marks h) kind xs ys f e

    pub resync_kept : OnOk r (BegunAgain meaning kind (λ b. b.agrees (context_model w) (module_in w)) xs ys) → IfErr r (λ e. NotBegunAgain meaning kind xs ys e) → AgreesOrStale meaning (record { transaction = h; listeners = xs }) → AgreesOrStale meaning (record { transaction = h; listeners = ys })
    resync_kept = go r
      where
        go : (r : Result A Refusal) → OnOk r (BegunAgain meaning kind (λ b. b.agrees (context_model w) (module_in w)) xs ys) → IfErr r (λ e. NotBegunAgain meaning kind xs ys e) → AgreesOrStale meaning (record { transaction = h; listeners = xs }) → AgreesOrStale meaning (record { transaction = h; listeners = ys })
        go (Ok u) a e kept = kept_begun meaning h.ctx (module_held h) kind xs ys (begun_there kind a) kept
        go (Err f) a e kept = kept_not_begun meaning h.ctx (module_held h) kind xs ys f e kept
