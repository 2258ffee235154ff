-- Sequences of events, and their combined effect.
use Rattle.std.specs.Prelude.{OnOk, OnErr}
use Rattle.std.proofs.Common.{◌≡◌, ◌≢◌, ◌∙◌, sym, ap, subst, refl, ◌⊎◌, inl, inr, ℕ, List, [], ◌∷◌, ◌++◌, Bool, true, false, Option, Some, None, Result, Ok, Err, ◌↔◌, IsTrue, length, append-nil}
use Rattle.ir_event.specs.types.Things.{ContextModel}
use Rattle.ir_event.specs.types.Sound.{Holds}
use Rattle.ir_event.specs.types.declared.refusal.Refusal.{Refusal}
use Rattle.ir_event.specs.types.declared.refusal.Refusal.TheVariants.{Memory}
use Rattle.ir_event.specs.trees.Meaning.{isolated_in}
use Rattle.ir_event.specs.trees.WellFormed.{IsWellFormed, Module as Numbered}
use Rattle.ir_event.specs.store.Stored.{Stored}
use Rattle.ir_event.specs.declared.event.Event.{Event}
use Rattle.ir_event.specs.Listener.{Listener}
use Rattle.ir_event.specs.Modules.{Module, module_meaning}
use Rattle.rewriter.specs.Contents.{NumberedEdit, edit_meaning, edited, edit_reason, tests_in}
use Rattle.rewriter.specs.Edits.{edited_by, reason_by}
use Rattle.rewriter.specs.Machine.{State, OpenMark, Do, Step, Commit, Rollback, Reply, Done, Refused, Nothing, Goes, accepted}
use Rattle.rewriter.specs.Panels.{AllAge, all_shown}
use Rattle.rewriter.proofs.Numbers.{edited_meaning, reason_meaning}
use Rattle.rewriter.specs.declared.mark.JournalMark.{JournalMark}
use Rattle.rewriter.specs.Held.{TransactionModel, module_held, open_mark, open_marks}
use Rattle.rewriter.specs.Moves.{Recorded}
use Rattle.rewriter.specs.Marked.{with_mark}
use Rattle.rewriter.proofs.MarkLaws.{push-none}
use Rattle.rewriter.specs.RewriterCalls.{Benched, Notified, Journaled, JournalAfter, Led, Made, reply_of, state_of}
use Rattle.rewriter.specs.Rolling.{Dropped}
use Rattle.rewriter.specs.Wholes.{IsDoneOrNoted, IsFinished, Onward}
use Rattle.rewriter.proofs.Noted.{made_ctx, made_journaled, made_marks, made_module, made_opens, recorded_more, recorded_none, recorded_undone, recorded_whole}
use Rattle.rewriter.proofs.Calls.{stepped, unstepped, committed, rolled_back, made_goes, refused_goes, unmade_goes, marked_grows}

-- a call without a reason against it is refused only if memory ran out
pub noted : {takes : Type 0} (r : Option Refusal) (e : Refusal) → r ≡ None → (r ≡ Some e) ⊎ ((e ≡ Memory) × takes) → (e ≡ Memory) × takes
noted r e none h = elim h [
  | inl why ↦ absurd (let n : Some e ≡ None = sym why ∙ none in cc)
  | inr m ↦ m
]

-- a reason computed from the IR state
pub reason_in : (e : NumberedEdit) (r : Option Refusal) (c d : ContextModel) (s u : Stored) → c ≡ d → s ≡ u → reason_by (tests_in c) e s.module_of ≡ r → reason_by (tests_in d) e u.module_of ≡ r
reason_in e r c d s u p q h = sym (λ i. reason_by (tests_in (p i)) e (q i).module_of) ∙ h

-- if a mark is open, closing it succeeds
dropped_by : {A X : Type 0} {ks : List JournalMark} (r : Result A Refusal) → OnOk r X → OnErr r (ks ≡ []) → ks ≢ [] → X
dropped_by (Ok u) ok none some = ok
dropped_by (Err e) ok none some = absurd (some none)

-- a mark is still open after a `step` and the events under it
pub marked_on : (a b c : TransactionModel) → b ≡ with_mark false a → c.marks ≡ b.marks → c.marks ≢ []
marked_on a b c begun marks e = (let f : a.marks ++ record { length = length a.journal; counted = false } ∷ [] ≡ [] = sym (ap (λ (h : TransactionModel). h.marks) begun) ∙ sym marks ∙ e in push-none a.marks _ f)

module _ {B : Type 0} (meaning : B → Listener) where
  -- facts about rewriters that lead one to another
  abbrev pub Composes : Type 0
  Composes = (es fs : List Event) (a b c : Benched B) → Holds b.transaction.ctx → Holds c.transaction.ctx → Notified meaning es a b → Notified meaning fs b c → Notified meaning (es ++ fs) a c

  abbrev pub Ages : Type 0
  Ages = (a b : Benched B) → Led meaning a b → AllAge (all_shown meaning a.listeners) (all_shown meaning b.listeners)

  abbrev pub Stays : Type 0
  Stays = (a : Benched B) → Notified meaning [] a a

  pub led_on : Composes → (a b c : Benched B) → Holds a.transaction.ctx → b.transaction.ctx ≡ a.transaction.ctx → c.transaction.ctx ≡ a.transaction.ctx → Led meaning a b → Led meaning b c → Led meaning a c
  led_on more a b c holds p q h k = (h.0 ++ k.0, more h.0 k.0 a b c (subst Holds (sym p) holds) (subst Holds (sym q) holds) h.1 k.1)

  -- no event was made
  pub onward_none : Stays → (a : Benched B) → Onward meaning a a
  onward_none none a = record { ctx = refl; marks = refl; opens = refl; noted = ([], none a, recorded_none a.transaction) }

  pub onward_led : (a b : Benched B) → Onward meaning a b → Led meaning a b
  onward_led a b o = (o.noted.0, o.noted.1)

  -- events that were recorded, and then others
  journaled_on : Composes → (a b c : Benched B) → Holds a.transaction.ctx → b.transaction.ctx ≡ a.transaction.ctx → c.transaction.ctx ≡ a.transaction.ctx → b.transaction.marks ≡ a.transaction.marks → Journaled meaning a b → Journaled meaning b c → Journaled meaning a c
  journaled_on more a b c holds p q marks h k =
      (h.0 ++ k.0, more h.0 k.0 a b c (subst Holds (sym p) holds) (subst Holds (sym q) holds) h.1 k.1, recorded_more h.0 k.0 a.transaction b.transaction c.transaction marks h.2 k.2)

  -- one more event
  pub onward_made : Composes → (s : Stored) (a b d : Benched B) → Holds a.transaction.ctx → Onward meaning a b → Made meaning s b d → Onward meaning a d
  onward_made more s a b d holds o m =
      let ctx : d.transaction.ctx ≡ a.transaction.ctx = made_ctx meaning s b d m ∙ o.ctx in
      record {
        ctx = ctx;
        marks = made_marks meaning s b d m ∙ o.marks;
        opens = made_opens meaning s b d m ∙ o.opens;
        noted = journaled_on more a b d holds o.ctx ctx o.marks o.noted (made_journaled meaning s b d m);
      }

  -- part of an edit is made: the remaining part leads to the state to which the whole edit leads
  pub record IsUnderway (e : NumberedEdit) (a b : Benched B) : Type 0 where
    pub onward : Onward meaning a b
    pub wellformed : IsWellFormed (isolated_in a.transaction.ctx) b.transaction.store.module_of
    pub free : reason_by (tests_in a.transaction.ctx) e b.transaction.store.module_of ≡ None
    pub same : edited_by (tests_in a.transaction.ctx) e b.transaction.store.module_of ≡ edited_by (tests_in a.transaction.ctx) e a.transaction.store.module_of

  pub underway_none : Stays → (e : NumberedEdit) (a : Benched B) → IsWellFormed (isolated_in a.transaction.ctx) a.transaction.store.module_of → reason_by (tests_in a.transaction.ctx) e a.transaction.store.module_of ≡ None → IsUnderway e a a
  underway_none none e a wellformed free = record { onward = onward_none none a; wellformed = wellformed; free = free; same = refl }

  pub underway_made : Composes → (e : NumberedEdit) (s : Stored) (a b d : Benched B) → Holds a.transaction.ctx → IsUnderway e a b → Made meaning s b d → IsWellFormed (isolated_in a.transaction.ctx) s.module_of → reason_by (tests_in a.transaction.ctx) e s.module_of ≡ None
      → edited_by (tests_in a.transaction.ctx) e s.module_of ≡ edited_by (tests_in a.transaction.ctx) e b.transaction.store.module_of → IsUnderway e a d
  underway_made more e s a b d holds u m wellformed free same =
      let is : s.module_of ≡ d.transaction.store.module_of = sym (made_module meaning s b d m) in
      record {
        onward = onward_made more s a b d holds u.onward m;
        wellformed = subst (λ (x : Numbered). IsWellFormed (isolated_in a.transaction.ctx) x) is wellformed;
        free = subst (λ (x : Numbered). reason_by (tests_in a.transaction.ctx) e x ≡ None) is free;
        same = subst (λ (x : Numbered). edited_by (tests_in a.transaction.ctx) e x ≡ edited_by (tests_in a.transaction.ctx) e a.transaction.store.module_of) is (same ∙ u.same);
      }

  -- the remaining part is refused
  pub refused_on : (r : Option Refusal) (e : Refusal) (a b : Benched B) → Onward meaning a b → r ≡ None → (r ≡ Some e) ⊎ ((e ≡ Memory) × (b.transaction.marks ≢ [])) → (e ≡ Memory) × (a.transaction.marks ≢ [])
  refused_on r e a b o none h = let n : (e ≡ Memory) × (b.transaction.marks ≢ []) = noted r e none h in (n.0, λ z. n.1 (o.marks ∙ z))

  -- the newest mark is closed
  pub finished_so : {A : Type 0} (r : Result A Refusal) (reply : Reply) (a b : Benched B) → b.transaction.ctx ≡ a.transaction.ctx → Goes (state_of meaning a) Commit reply Nothing (state_of meaning b) → OnOk r (Dropped true a.transaction b.transaction) → OnErr r (a.transaction.marks ≡ []) → IsFinished true a.transaction b.transaction
  finished_so r reply a b ctx g ok none =
      record {
        ctx = ctx;
        held = λ k ks e. (committed (state_of meaning a) (state_of meaning b) reply k ks e g).0;
        marks = λ k ks e. (committed (state_of meaning a) (state_of meaning b) reply k ks e g).1;
        dropped = dropped_by r ok none;
      }

  pub undone_so : {A : Type 0} (r : Result A Refusal) (reply : Reply) (a b : Benched B) → b.transaction.ctx ≡ a.transaction.ctx → Goes (state_of meaning a) Rollback reply Nothing (state_of meaning b) → OnOk r (Dropped false a.transaction b.transaction) → OnErr r (a.transaction.marks ≡ []) → IsFinished false a.transaction b.transaction
  undone_so r reply a b ctx g ok none =
      record {
        ctx = ctx;
        held = λ k ks e. (rolled_back (state_of meaning a) (state_of meaning b) reply k ks e g).0;
        marks = λ k ks e. (rolled_back (state_of meaning a) (state_of meaning b) reply k ks e g).1;
        dropped = dropped_by r ok none;
      }

  -- an edit that is refused for its reason
  pub goes_refused : Ages → Stays → (e : NumberedEdit) (r : Refusal) (a : Benched B) → reason_by (tests_in a.transaction.ctx) e a.transaction.store.module_of ≡ Some r
      → Goes (state_of meaning a) (Do (edit_meaning a.transaction.ctx e)) (Refused r) Nothing (state_of meaning a)
  goes_refused ages none e r a why = refused_goes (state_of meaning a) (edit_meaning a.transaction.ctx e) r (reason_meaning a.transaction.ctx e a.transaction.store.module_of ∙ why) (ages a a ([], none a))

  -- an edit made without a mark of the call
  pub goes_made : Ages → (e : NumberedEdit) (a b : Benched B) → reason_by (tests_in a.transaction.ctx) e a.transaction.store.module_of ≡ None → b.transaction.store.module_of ≡ edited_by (tests_in a.transaction.ctx) e a.transaction.store.module_of → b.transaction.ctx ≡ a.transaction.ctx
      → open_marks b.transaction ≡ open_marks a.transaction → Led meaning a b → Goes (state_of meaning a) (Do (edit_meaning a.transaction.ctx e)) (accepted (edit_meaning a.transaction.ctx e) (module_held a.transaction)) Nothing (state_of meaning b)
  goes_made ages e a b free is ctx opens led =
      made_goes (state_of meaning a) (state_of meaning b) (edit_meaning a.transaction.ctx e) (reason_meaning a.transaction.ctx e a.transaction.store.module_of ∙ free)
      ((λ i. module_meaning (ctx i) (is i)) ∙ sym (edited_meaning a.transaction.ctx e a.transaction.store.module_of)) opens (ages a b led)

  -- the call opened a mark before its edit
  pub record IsBegun (a b : Benched B) : Type 0 where
    pub ctx : b.transaction.ctx ≡ a.transaction.ctx
    pub goes : Goes (state_of meaning a) Step Done Nothing (state_of meaning b)
    pub led : Led meaning a b

  pub begun_held : (a b : Benched B) → IsBegun a b → module_held b.transaction ≡ module_held a.transaction
  begun_held a b h = (stepped (state_of meaning a) (state_of meaning b) h.goes).0

  -- after the mark was opened, the edit still has no reason for a refusal
  pub begun_free : (e : NumberedEdit) (a b : Benched B) → IsBegun a b → reason_by (tests_in a.transaction.ctx) e a.transaction.store.module_of ≡ None → reason_by (tests_in b.transaction.ctx) e b.transaction.store.module_of ≡ None
  begun_free e a b h free =
      sym (reason_meaning b.transaction.ctx e b.transaction.store.module_of) ∙ (λ i. edit_reason (edit_meaning (h.ctx i) e) (begun_held a b h i)) ∙ reason_meaning a.transaction.ctx e a.transaction.store.module_of ∙ free

  -- the edit is made under the mark, and the mark is closed
  pub goes_whole : Ages → Composes → (e : NumberedEdit) (a b c d : Benched B) → Holds a.transaction.ctx → reason_by (tests_in a.transaction.ctx) e a.transaction.store.module_of ≡ None → IsBegun a b → Onward meaning b c
      → c.transaction.store.module_of ≡ edited_by (tests_in b.transaction.ctx) e b.transaction.store.module_of → IsFinished true c.transaction d.transaction → Led meaning a d
      → Goes (state_of meaning a) (Do (edit_meaning a.transaction.ctx e)) (accepted (edit_meaning a.transaction.ctx e) (module_held a.transaction)) Nothing (state_of meaning d)
  goes_whole ages more e a b c d holds free h o is f led =
      let noted_one : open_marks c.transaction ≡ record { marked = module_held a.transaction; counted = false } ∷ open_marks a.transaction = o.opens ∙ (stepped (state_of meaning a) (state_of meaning b) h.goes).1 in
      let made : module_held c.transaction ≡ edited (edit_meaning a.transaction.ctx e) (module_held a.transaction) =
      (λ i. module_meaning (o.ctx i) (is i)) ∙ sym (edited_meaning b.transaction.ctx e b.transaction.store.module_of) ∙ (λ i. edited (edit_meaning (h.ctx i) e) (begun_held a b h i)) in
      made_goes (state_of meaning a) (state_of meaning d) (edit_meaning a.transaction.ctx e) (reason_meaning a.transaction.ctx e a.transaction.store.module_of ∙ free) (f.held _ _ noted_one ∙ made) (f.marks _ _ noted_one) (ages a d led)

  -- if the edit was refused because memory ran out, the state before the mark is restored
  pub goes_undone : Ages → (e : NumberedEdit) (r : Refusal) (a b c d : Benched B) → r ≡ Memory → a.transaction.marks ≢ [] → IsBegun a b → Onward meaning b c → IsFinished false c.transaction d.transaction → Led meaning a d
      → Goes (state_of meaning a) (Do (edit_meaning a.transaction.ctx e)) (Refused r) Nothing (state_of meaning d)
  goes_undone ages e r a b c d memory marked h o f led =
      let noted_one : open_marks c.transaction ≡ record { marked = module_held a.transaction; counted = false } ∷ open_marks a.transaction = o.opens ∙ (stepped (state_of meaning a) (state_of meaning b) h.goes).1 in
      unmade_goes (state_of meaning a) (state_of meaning d) (edit_meaning a.transaction.ctx e) r memory (marked_grows (open_mark a.transaction) (edit_meaning a.transaction.ctx e) a.transaction.marks marked) (f.held _ _ noted_one) (f.marks _ _ noted_one) (ages a d led)

  -- the mark was refused
  pub goes_unbegun : Ages → Stays → (e : NumberedEdit) (r : Refusal) (a : Benched B) → a.transaction.marks ≢ [] → r ≡ Memory → Goes (state_of meaning a) (Do (edit_meaning a.transaction.ctx e)) (Refused r) Nothing (state_of meaning a)
  goes_unbegun ages none e r a marked memory =
      unmade_goes (state_of meaning a) (state_of meaning a) (edit_meaning a.transaction.ctx e) r memory (marked_grows (open_mark a.transaction) (edit_meaning a.transaction.ctx e) a.transaction.marks marked) refl refl (ages a a ([], none a))

  -- the events under a mark, followed by the events that undo them, if they are undone
  pub led_whole : Composes → (stays : Bool) (a b c d : Benched B) → Holds a.transaction.ctx → IsBegun a b → Onward meaning b c → IsFinished stays c.transaction d.transaction → Led meaning c d → Led meaning a d
  led_whole more stays a b c d holds h o f led =
      led_on more a c d holds (o.ctx ∙ h.ctx) (f.ctx ∙ o.ctx ∙ h.ctx) (led_on more a b c holds h.ctx (o.ctx ∙ h.ctx) h.led (onward_led b c o)) led

  -- an edit is made without a mark
  pub goes_plain : Ages → (e : NumberedEdit) (a b : Benched B) (r : Result (Unit {0}) Refusal) (marked : Bool) → accepted (edit_meaning a.transaction.ctx e) (module_held a.transaction) ≡ Done → reason_by (tests_in a.transaction.ctx) e a.transaction.store.module_of ≡ None
      → (IsTrue marked ↔ (a.transaction.marks ≢ [])) → marked ≡ false → Onward meaning a b → OnOk r (b.transaction.store.module_of ≡ edited_by (tests_in a.transaction.ctx) e a.transaction.store.module_of) → IsDoneOrNoted a.transaction r
      → Goes (state_of meaning a) (Do (edit_meaning a.transaction.ctx e)) (reply_of r) Nothing (state_of meaning b)
  goes_plain ages e a b (Ok u) marked acc free iff unmarked o ok why =
      subst (λ (y : Reply). Goes (state_of meaning a) (Do (edit_meaning a.transaction.ctx e)) y Nothing (state_of meaning b)) acc (goes_made ages e a b free ok o.ctx o.opens (onward_led a b o))
  goes_plain ages e a b (Err x) marked acc free iff unmarked o ok why = absurd (let t : true ≡ false = sym (iff.1 why.1) ∙ unmarked in cc)

  -- the journal after that edit
  pub plain_keeps : (a b : Benched B) (r : Result (Unit {0}) Refusal) (marked : Bool) → (IsTrue marked ↔ (a.transaction.marks ≢ [])) → marked ≡ false → Onward meaning a b → IsDoneOrNoted a.transaction r → JournalAfter meaning r a b
  plain_keeps a b (Ok u) marked iff unmarked o why = o.noted
  plain_keeps a b (Err x) marked iff unmarked o why = absurd (let t : true ≡ false = sym (iff.1 why.1) ∙ unmarked in cc)

  -- after the call's mark is closed, the events under it are at the end of the journal
  pub whole_journaled : Composes → (a b c d : Benched B) → Holds a.transaction.ctx → (a.transaction.marks ≡ [] → a.transaction.journal ≡ []) → b.transaction ≡ with_mark false a.transaction → Notified meaning [] a b → Onward meaning b c → IsFinished true c.transaction d.transaction → Notified meaning [] c d
      → Journaled meaning a d
  whole_journaled more a b c d holds none begun untold o f reports_nothing =
      let b_is : b.transaction.ctx ≡ a.transaction.ctx = ap (λ (h : TransactionModel). h.ctx) begun in
      let holds_b : Holds b.transaction.ctx = subst Holds (sym b_is) holds in
      let holds_c : Holds c.transaction.ctx = subst Holds (sym o.ctx) holds_b in
      let holds_d : Holds d.transaction.ctx = subst Holds (sym f.ctx) holds_c in
      let there : Notified meaning o.noted.0 a c = more [] o.noted.0 a b c holds_b holds_c untold o.noted.1 in
      let on : Notified meaning (o.noted.0 ++ []) a d = more o.noted.0 [] a c d holds_c holds_d there reports_nothing in
      (o.noted.0, subst (λ es. Notified meaning es a d) (append-nil o.noted.0) on, recorded_whole true a.transaction b.transaction c.transaction d.transaction begun o.marks o.noted.0 o.noted.2 (f.dropped (marked_on a.transaction b.transaction c.transaction begun o.marks)) none refl)

  -- if the events were undone, the journal is unchanged
  pub undone_recorded : (a b c d : Benched B) → (a.transaction.marks ≡ [] → a.transaction.journal ≡ []) → b.transaction ≡ with_mark false a.transaction → Onward meaning b c → IsFinished false c.transaction d.transaction → Recorded [] a.transaction d.transaction
  undone_recorded a b c d none begun o f = recorded_undone false a.transaction b.transaction c.transaction d.transaction begun o.marks o.noted.0 o.noted.2 (f.dropped (marked_on a.transaction b.transaction c.transaction begun o.marks)) none refl
