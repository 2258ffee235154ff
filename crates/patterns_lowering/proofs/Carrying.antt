-- Edits carried out one after another.
use Rattle.std.proofs.Common.{◌≡◌, refl, ap, sym, ◌∙◌, subst, ℕ, List, [], ◌∷◌, ◌++◌, append_assoc, append-nil, Option, Some, None, Result, Ok, Err, ◌⊎◌, inl, inr, true, false, ◌<◌, ◌-◌, length, arith, get_or, take}
use Rattle.std.proofs.lemmas.List.{take_all}
use Rattle.std.specs.Prelude.{◌≢◌, drop, OnOk, OnErr}
use Rattle.ir_event.specs.types.Things.{ContextModel}
use Rattle.ir_event.specs.types.Sound.{Holds}
use Rattle.ir_event.specs.types.declared.refusal.Refusal.{Refusal}
use Rattle.ir_event.specs.types.declared.refusal.Refusal.TheVariants.{Memory}
use Rattle.ir_event.specs.declared.event.Event.{Event}
use Rattle.ir_event.specs.Listener.{Listener}
use Rattle.ir_event.specs.Modules.{Module}
use Rattle.patterns_soundness.specs.base.Contents.{Edit, all_edited, edit_meaning, edit_reason, edited}
use Rattle.patterns_soundness.specs.base.Edits as edit
use Rattle.patterns_soundness.specs.base.Machine.{State, Do, Step, Commit, Rollback, Reply, Done, DoneAs, Refused, Nothing, Answer, Goes, due_edit, accepted}
use Rattle.patterns_soundness.proofs.of_base.Answers.{accepted_gives, refused_leaves}
use Rattle.rewriter.specs.RewriterCalls.{Benched, Notified, Journaled, Led, reply_of, state_of}
use Rattle.rewriter.specs.Held.{TransactionModel, module_held, open_marks}
use Rattle.rewriter.specs.Moves.{Recorded}
use Rattle.rewriter.specs.Rolling.{Dropped}
use Rattle.rewriter.proofs.Calls.{stepped, committed, rolled_back}
use Rattle.rewriter.proofs.Noted.{recorded_undone}
use Rattle.rewriter.proofs.OpenMarks.{open_none}
use Rattle.patterns_soundness.specs.base.declared.edit.Edit.{Edit as Coded}
use Rattle.patterns_soundness.specs.base.Lists.{AllFit, Fits, IsWhy, IsMadeOrRefused, edits_meaning, numbered}
use Rattle.patterns_lowering.specs.Runs.{Along, Noted}
use Rattle.patterns_lowering.proofs.Journals.{marked_more, push_some, recorded_none, recorded_on, recorded_whole, surely}
use Rattle.patterns_soundness.proofs.of_base.EditFacts.{edited_both, edits_more}
use Rattle.ir_event.proofs.of_types.Truths.{none_left, uncons}

-- ---- one edit

-- why an edit was refused
refused_why : (s t : State) (e : Edit) (r : Refusal) → Goes s (Do e) (Refused r) Nothing t → (r ≡ Memory) ⊎ (edit_reason e s.held ≡ Some r)
refused_why s t e r g = elim g.answer [
  | inl h ↦ inr (go (edit_reason e s.held) refl (ap (λ (a : Answer). a.reply) h))
  | inr h ↦ inl (let n : Refused r ≡ Refused Memory = ap (λ (a : Answer). a.reply) h.1 in cc)
]
  where
    taken : (e : Edit) (m : Module) (r : Refusal) → Refused r ≡ accepted e m → ⊥
    taken (edit.Insert place o) m r h = absurd cc
    taken (edit.Make place o) m r h = absurd cc
    taken (edit.Erase x) m r h = absurd cc
    taken (edit.Move x place) m r h = absurd cc
    taken (edit.SetOperand x k v) m r h = absurd cc
    taken (edit.Replace v w) m r h = absurd cc
    taken (edit.SetAttr x k a) m r h = absurd cc
    taken (edit.DropAttr x k) m r h = absurd cc

    go : (o : Option Refusal) → edit_reason e s.held ≡ o → Refused r ≡ (due_edit o e s).reply → edit_reason e s.held ≡ Some r
    go None is h = absurd (taken e s.held r h)
    go (Some q) is h = (let n : q ≡ r = cc in is ∙ ap Some n)

pub tried_by : {A : Type 0} (s t : State) (e : Edit) (result : Result A Refusal) (simple : Result (Unit {0}) Refusal) → Goes s (Do e) (reply_of result) Nothing t → reply_of simple ≡ reply_of result → IsMadeOrRefused e simple s.held t.held × (t.marks ≡ s.marks)
tried_by s t e (Ok a) (Ok u) g is = (let d = accepted_gives s t (Do e) Done Nothing g refl in ((d.0, d.1), d.2))
tried_by s t e (Err r) (Err q) g is = (let d = refused_leaves s t (Do e) (Refused r) Nothing g refl in let n : r ≡ q = cc in ((elim (refused_why s t e r g) [ inl h ↦ inl (sym n ∙ h) | inr h ↦ inr (h ∙ ap Some n) ], d.0), d.1))
tried_by s t e (Ok a) (Err q) g is = absurd cc
tried_by s t e (Err r) (Ok u) g is = absurd cc

pub made_by : (s t : State) (e : Edit) (x : ℕ) → Goes s (Do e) (DoneAs x) Nothing t → IsMadeOrRefused e (Ok tt) s.held t.held × (t.marks ≡ s.marks)
made_by s t e x g = (let d = accepted_gives s t (Do e) (DoneAs x) Nothing g refl in ((d.0, d.1), d.2))

pub unmade_by : (s t : State) (e : Edit) (r : Refusal) → Goes s (Do e) (Refused r) Nothing t → IsMadeOrRefused e (Err r) s.held t.held × (t.marks ≡ s.marks)
unmade_by s t e r g = (let d = refused_leaves s t (Do e) (Refused r) Nothing g refl in ((refused_why s t e r g, d.0), d.1))

module _ {B : Type 0} (meaning : B → Listener) where
  -- ---- many

  abbrev pub Composes : Type 0
  Composes = (es fs : List Event) (a b c : Benched B) → Holds b.transaction.ctx → Holds c.transaction.ctx → Notified meaning es a b → Notified meaning fs b c → Notified meaning (es ++ fs) a c

  pub along_on : Composes → (a b c : Benched B) → Holds a.transaction.ctx → Along meaning a b → Along meaning b c → Along meaning a c
  along_on more a b c holds p q = record {
    ctx = q.ctx ∙ p.ctx;
    opens = q.opens ∙ p.opens;
    led = (p.led.0 ++ q.led.0, more p.led.0 q.led.0 a b c (subst Holds (sym p.ctx) holds) (subst Holds (sym (q.ctx ∙ p.ctx)) holds) p.led.1 q.led.1);
  }

  pub noted_on : Composes → (a b c : Benched B) → Holds a.transaction.ctx → Along meaning a b → Along meaning b c → Journaled meaning a b → Journaled meaning b c → Journaled meaning a c
  noted_on more a b c holds p q h k =
      (h.0 ++ k.0, more h.0 k.0 a b c (subst Holds (sym p.ctx) holds) (subst Holds (sym (q.ctx ∙ p.ctx)) holds) h.1 k.1, recorded_on h.0 k.0 a.transaction b.transaction c.transaction p.opens h.2 k.2)

  -- some edits were made, and some are left
  pub record Carrying (all rest : List Coded) (a b : Benched B) : Type 0 where
    pub done : List Coded
    pub parts : done ++ rest ≡ all
    pub held : module_held b.transaction ≡ all_edited (edits_meaning a.transaction.ctx done) (module_held a.transaction)
    pub fits_in : AllFit a.transaction.ctx rest
    pub along : Along meaning a b
    pub noted : Journaled meaning a b

  pub carrying_none : ((z : Benched B) → Notified meaning [] z z) → (all : List Coded) (a : Benched B) → AllFit a.transaction.ctx all → Carrying all all a a
  carrying_none none all a fits_in = record { done = []; parts = refl; held = refl; fits_in = fits_in; along = record { ctx = refl; opens = refl; led = ([], none a) }; noted = ([], none a, recorded_none a.transaction) }

  pub fits_next : (all rest : List Coded) (e : Coded) (a b : Benched B) → Carrying all (e ∷ rest) a b → Fits b.transaction.ctx e
  fits_next all rest e a b c = subst (λ z. Fits z e) (sym c.along.ctx) c.fits_in.0

  pub carrying_more : Composes → (all rest : List Coded) (e : Coded) (a b d : Benched B) → Holds a.transaction.ctx → Carrying all (e ∷ rest) a b → IsMadeOrRefused (edit_meaning b.transaction.ctx (numbered e)) (Ok tt) (module_held b.transaction) (module_held d.transaction) → Along meaning b d → Journaled meaning b d → Carrying all rest a d
  carrying_more more all rest e a b d holds c attempted along noted = record {
    done = c.done ++ e ∷ [];
    parts = append_assoc c.done (e ∷ []) rest ∙ c.parts;
    held = attempted.1 ∙ (λ i. edited (edit_meaning (c.along.ctx i) (numbered e)) (c.held i)) ∙ sym (ap (λ l. all_edited l (module_held a.transaction)) (edits_more a.transaction.ctx c.done (e ∷ [])) ∙ edited_both (edits_meaning a.transaction.ctx c.done) (edit_meaning a.transaction.ctx (numbered e) ∷ []) (module_held a.transaction));
    fits_in = c.fits_in.1;
    along = along_on more a b d holds c.along along;
    noted = noted_on more a b d holds c.along along c.noted noted;
  }

  pub carrying_done : (all : List Coded) (a b : Benched B) → Carrying all [] a b → module_held b.transaction ≡ all_edited (edits_meaning a.transaction.ctx all) (module_held a.transaction)
  carrying_done all a b c = c.held ∙ ap (λ l. all_edited (edits_meaning a.transaction.ctx l) (module_held a.transaction)) (sym (append-nil c.done) ∙ c.parts)

  pub carrying_why : (all rest : List Coded) (e : Coded) (r : Refusal) (a b d : Benched B) → Carrying all (e ∷ rest) a b → IsMadeOrRefused (edit_meaning b.transaction.ctx (numbered e)) (Err r) (module_held b.transaction) (module_held d.transaction) → IsWhy (edits_meaning a.transaction.ctx all) (module_held a.transaction) r
  carrying_why all rest e r a b d c attempted = elim attempted.0 [
    | inl h ↦ inl h
    | inr h ↦ inr (record {
      made = edits_meaning a.transaction.ctx c.done;
      refused = edit_meaning a.transaction.ctx (numbered e);
      rest = edits_meaning a.transaction.ctx rest;
      parts = sym (edits_more a.transaction.ctx c.done (e ∷ rest)) ∙ ap (edits_meaning a.transaction.ctx) c.parts;
      why = (λ i. edit_reason (edit_meaning (sym c.along.ctx i) (numbered e)) (sym c.held i)) ∙ h;
    })
  ]

  -- a step was opened, and is closed again
  pub record Begun (a b : Benched B) : Type 0 where
    pub ctx : b.transaction.ctx ≡ a.transaction.ctx
    pub goes : Goes (state_of meaning a) Step Done Nothing (state_of meaning b)
    pub led : Led meaning a b

  pub record Closed (b c : Benched B) : Type 0 where
    pub ctx : c.transaction.ctx ≡ b.transaction.ctx
    pub led : Led meaning b c

  led_on : Composes → (a b c : Benched B) → Holds a.transaction.ctx → b.transaction.ctx ≡ a.transaction.ctx → c.transaction.ctx ≡ a.transaction.ctx → Led meaning a b → Led meaning b c → Led meaning a c
  led_on more a b c holds p q h k = (h.0 ++ k.0, more h.0 k.0 a b c (subst Holds (sym p) holds) (subst Holds (sym q) holds) h.1 k.1)

  module _ (more : Composes) (a b c d : Benched B) (holds : Holds a.transaction.ctx) (begun : Begun a b) (went : Along meaning b c) (closed : Closed c d) where
    newest : open_marks c.transaction ≡ record { marked = module_held a.transaction; counted = false } ∷ open_marks a.transaction
    newest = went.opens ∙ (stepped (state_of meaning a) (state_of meaning b) begun.goes).1

    led_all : Led meaning a d
    led_all =
        led_on more a c d holds (went.ctx ∙ begun.ctx) (closed.ctx ∙ went.ctx ∙ begun.ctx)
        (led_on more a b c holds begun.ctx (went.ctx ∙ begun.ctx) begun.led went.led) closed.led

    pub kept_along : (reply : Reply) → Goes (state_of meaning c) Commit reply Nothing (state_of meaning d) → Along meaning a d
    kept_along reply g = record { ctx = closed.ctx ∙ went.ctx ∙ begun.ctx; opens = (committed (state_of meaning c) (state_of meaning d) reply _ _ newest g).1; led = led_all }

    pub kept_held : (reply : Reply) → Goes (state_of meaning c) Commit reply Nothing (state_of meaning d) → (es : List Coded) → module_held c.transaction ≡ all_edited (edits_meaning b.transaction.ctx es) (module_held b.transaction) → module_held d.transaction ≡ all_edited (edits_meaning a.transaction.ctx es) (module_held a.transaction)
    kept_held reply g es e = (committed (state_of meaning c) (state_of meaning d) reply _ _ newest g).0 ∙ e ∙ λ i. all_edited (edits_meaning (begun.ctx i) es) ((stepped (state_of meaning a) (state_of meaning b) begun.goes).0 i)

    pub undone_along : (reply : Reply) → Goes (state_of meaning c) Rollback reply Nothing (state_of meaning d) → Along meaning a d
    undone_along reply g = record { ctx = closed.ctx ∙ went.ctx ∙ begun.ctx; opens = (rolled_back (state_of meaning c) (state_of meaning d) reply _ _ newest g).1; led = led_all }

    pub undone_held : (reply : Reply) → Goes (state_of meaning c) Rollback reply Nothing (state_of meaning d) → module_held d.transaction ≡ module_held a.transaction
    undone_held reply g = (rolled_back (state_of meaning c) (state_of meaning d) reply _ _ newest g).0

  -- edits in a step that is committed
  module _ (more : Composes) (a b c d : Benched B) (holds : Holds a.transaction.ctx) (begun : Begun a b) (went : Along meaning b c) (closed : Closed c d) (mark : b.transaction ≡ marked_more a.transaction) where
    some_open : c.transaction.marks ≢ []
    some_open e = (let n : [] ≡ record { marked = module_held a.transaction; counted = false } ∷ open_marks a.transaction = sym (open_none c.transaction e) ∙ newest more a b c d holds begun went closed in cc)

    pub noted_whole : {A : Type 0} (r : Result A Refusal) → OnOk r (Dropped true c.transaction d.transaction) → OnErr r (c.transaction.marks ≡ []) → Along meaning a d → Notified meaning [] a b → Journaled meaning b c → Notified meaning [] c d → (a.transaction.marks ≡ [] → a.transaction.journal ≡ []) → Journaled meaning a d
    noted_whole r dropped none along first j last unmarked =
        let holds_b : Holds b.transaction.ctx = subst Holds (sym begun.ctx) holds in
        let holds_c : Holds c.transaction.ctx = subst Holds (sym (went.ctx ∙ begun.ctx)) holds in
        let holds_d : Holds d.transaction.ctx = subst Holds (sym along.ctx) holds in
        let notified : Notified meaning (j.0 ++ []) a d = more j.0 [] a c d holds_c holds_d (more [] j.0 a b c holds_b holds_c first j.1) last in (
          j.0,
          subst (λ es. Notified meaning es a d) (append-nil j.0) notified,
          recorded_whole a.transaction b.transaction c.transaction d.transaction mark j.0 j.2 (surely r c.transaction.marks some_open none dropped) along.opens unmarked,
        )

  pub begun_why : (a b : Benched B) (begun : Begun a b) (es : List Coded) (r : Refusal) → IsWhy (edits_meaning b.transaction.ctx es) (module_held b.transaction) r → IsWhy (edits_meaning a.transaction.ctx es) (module_held a.transaction) r
  begun_why a b begun es r w = subst (λ (p : List Edit × Module). IsWhy p.0 p.1 r) (λ i. (edits_meaning (begun.ctx i) es, (stepped (state_of meaning a) (state_of meaning b) begun.goes).0 i)) w

  pub begun_fit : (a b : Benched B) (begun : Begun a b) (es : List Coded) → AllFit a.transaction.ctx es → AllFit b.transaction.ctx es
  begun_fit a b begun es f = subst (λ c. AllFit c es) (sym begun.ctx) f

-- ---- the journal of edits that are refused

module _ {B : Type 0} (meaning : B → Listener) where
  pub noted_refused : (a b d : Benched B) → Along meaning a b → Journaled meaning a b → Recorded [] b.transaction d.transaction → Noted a.transaction d.transaction
  noted_refused a b d along noted k = (noted.0 ++ [], recorded_on noted.0 [] a.transaction b.transaction d.transaction along.opens noted.2 k)

-- edits in a step that is rolled back
pub recorded_back : {A : Type 0} (r : Result A Refusal) (a b c d : TransactionModel) → b ≡ marked_more a → Noted b c → OnOk r (Dropped false c d) → OnErr r (c.marks ≡ []) → (a.marks ≡ [] → a.journal ≡ []) → Recorded [] a d
recorded_back r a b c d begun noted dropped none unmarked =
    let some : c.marks ≢ [] = λ e. push_some a.marks (record { length = length a.journal; counted = false }) (sym (ap (λ (k : TransactionModel). k.marks) begun) ∙ sym noted.1.marks ∙ e) in
    recorded_undone false a b c d begun noted.1.marks noted.0 noted.1 (surely r c.marks some none dropped) unmarked refl
