-- The state of a rewriter after each call is the machine's.
use Rattle.std.proofs.Common.{◌≡◌, ◌≢◌, ◌∙◌, sym, ap, subst, refl, inl, inr, ◌⊎◌, List, [], ◌∷◌, Some, None, Result, Ok, Err, IsTrue}
use Rattle.std.specs.Prelude.{OnOk, OnErr}
use Rattle.ir_event.specs.types.declared.refusal.Refusal.{Refusal}
use Rattle.ir_event.specs.types.declared.refusal.Refusal.TheVariants.{Memory}
use Rattle.ir_event.specs.store.Stored.{Stored}
use Rattle.ir_event.specs.declared.event.Event.{Event}
use Rattle.ir_event.specs.Listener.{Listener}
use Rattle.ir_event.specs.Modules.{Module, module_meaning}
use Rattle.rewriter.specs.Contents.{NumberedEdit, Edit, edit_meaning, edited, edit_reason, tests_in}
use Rattle.rewriter.specs.Edits.{edited_by, reason_by}
use Rattle.rewriter.specs.Machine.{OpenMark, Do, Reply, Done, Refused, Nothing, Answer, IsAnswer, due_edit, accepted, grows, grows_under, refused}
use Rattle.rewriter.specs.Panels.{all_shown}
use Rattle.rewriter.proofs.Numbers.{edited_meaning, reason_meaning}
use Rattle.rewriter.specs.Held.{TransactionModel, module_held, open_marks}
use Rattle.rewriter.specs.Moves.{Edited, IsAnswered}
use Rattle.rewriter.specs.RewriterCalls.{Benched, Does, Made, reply_of, state_of}
use Rattle.rewriter.proofs.OpenMarks.{grows_marked}
use Rattle.rewriter.proofs.Panels.{all_stay}
use Rattle.rewriter.proofs.Noted.{made_opens}
use Rattle.rewriter.proofs.Notified.{made_led, led_ages}

answer_same : (r q : Reply) (m n : Module) (ks ls : List OpenMark) → r ≡ q → m ≡ n → ks ≡ ls → (let a : Answer = record { reply = r; shows = Nothing; held = m; marks = ks } in a) ≡ record { reply = q; shows = Nothing; held = n; marks = ls }
answer_same r q m n ks ls e f g = rw (e, f, g) refl

-- the module after an edit
after_edit : (ed : NumberedEdit) (e : Event) (s : Stored) (g h : TransactionModel) → Edited e s g h → s.module_of ≡ edited_by (tests_in g.ctx) ed g.store.module_of → module_held h ≡ edited (edit_meaning g.ctx ed) (module_held g)
after_edit ed e s g h is after = ap module_held is.held ∙ ap (module_meaning g.ctx) after ∙ sym (edited_meaning g.ctx ed g.store.module_of)

module _ {B : Type 0} (meaning : B → Listener) where
  -- an edit that was made
  pub edit_goes : (ed : NumberedEdit) (reply : Reply) (s : Stored) (a b : Benched B) → accepted (edit_meaning a.transaction.ctx ed) (module_held a.transaction) ≡ reply → reason_by (tests_in a.transaction.ctx) ed a.transaction.store.module_of ≡ None
      → s.module_of ≡ edited_by (tests_in a.transaction.ctx) ed a.transaction.store.module_of → Made meaning s a b → Does meaning (Do (edit_meaning a.transaction.ctx ed)) reply a b
  edit_goes ed reply s a b is free after made =
      let e : Edit = edit_meaning a.transaction.ctx ed in
      let none : edit_reason e (module_held a.transaction) ≡ None = reason_meaning a.transaction.ctx ed a.transaction.store.module_of ∙ free in
      record {
        answer = inl (
            answer_same reply (accepted e (module_held a.transaction)) (module_held b.transaction) (edited e (module_held a.transaction)) (open_marks b.transaction) (open_marks a.transaction) (sym is) ((λ i. module_meaning (made.settled.ctx i) (made.settled.module_of i)) ∙ after_edit ed made.event s a.transaction made.left made.edited after) (made_opens meaning s a b made)
            ∙ sym (ap (λ r. due_edit r e (state_of meaning a)) none)
            );
        panel = led_ages meaning a b (made_led meaning s a b made);
      }

  -- an edit that was refused
  refusal_goes : (ed : NumberedEdit) (a : Benched B) (r : Refusal) → (reason_by (tests_in a.transaction.ctx) ed a.transaction.store.module_of ≡ Some r) ⊎ ((r ≡ Memory) × IsTrue (grows_under (open_marks a.transaction) (edit_meaning a.transaction.ctx ed)))
      → Does meaning (Do (edit_meaning a.transaction.ctx ed)) (Refused r) a a
  refusal_goes ed a r why = record { answer = go why; panel = all_stay (all_shown meaning a.listeners) }
    where
      go : (reason_by (tests_in a.transaction.ctx) ed a.transaction.store.module_of ≡ Some r) ⊎ ((r ≡ Memory) × IsTrue (grows_under (open_marks a.transaction) (edit_meaning a.transaction.ctx ed)))
          → IsAnswer (state_of meaning a) (Do (edit_meaning a.transaction.ctx ed)) (record { reply = Refused r; shows = Nothing; held = module_held a.transaction; marks = open_marks a.transaction })
      go (inl h) = inl (sym (ap (λ q. due_edit q (edit_meaning a.transaction.ctx ed) (state_of meaning a)) (reason_meaning a.transaction.ctx ed a.transaction.store.module_of ∙ h)))
      go (inr (memory, grow)) = inr (grow, ap (λ q. refused q (state_of meaning a)) memory)

  -- an edit that needs memory only under a mark, and an edit that always needs memory
  pub refused_marked : (ed : NumberedEdit) (g h : TransactionModel) (xs : List B) (r : Refusal) → (reason_by (tests_in g.ctx) ed g.store.module_of ≡ Some r) ⊎ ((r ≡ Memory) × (g.marks ≢ [])) → h ≡ g
      → Does meaning (Do (edit_meaning g.ctx ed)) (Refused r) (record { transaction = g; listeners = xs }) (record { transaction = h; listeners = xs })
  refused_marked ed g h xs r why same =
      subst (λ (h : TransactionModel). Does meaning (Do (edit_meaning g.ctx ed)) (Refused r) (record { transaction = g; listeners = xs }) (record { transaction = h; listeners = xs })) (sym same) (refusal_goes ed (record { transaction = g; listeners = xs }) r (go why))
    where
      go : (reason_by (tests_in g.ctx) ed g.store.module_of ≡ Some r) ⊎ ((r ≡ Memory) × (g.marks ≢ [])) → (reason_by (tests_in g.ctx) ed g.store.module_of ≡ Some r) ⊎ ((r ≡ Memory) × IsTrue (grows_under (open_marks g) (edit_meaning g.ctx ed)))
      go (inl h) = inl h
      go (inr (memory, marked)) = inr (memory, grows_marked g (edit_meaning g.ctx ed) marked)

  pub refused_always : (ed : NumberedEdit) (g h : TransactionModel) (xs : List B) (r : Refusal) → IsTrue (grows (edit_meaning g.ctx ed)) → (reason_by (tests_in g.ctx) ed g.store.module_of ≡ Some r) ⊎ ((r ≡ Memory) × Unit {0}) → h ≡ g
      → Does meaning (Do (edit_meaning g.ctx ed)) (Refused r) (record { transaction = g; listeners = xs }) (record { transaction = h; listeners = xs })
  refused_always ed g h xs r grow why same =
      subst (λ (h : TransactionModel). Does meaning (Do (edit_meaning g.ctx ed)) (Refused r) (record { transaction = g; listeners = xs }) (record { transaction = h; listeners = xs })) (sym same) (refusal_goes ed (record { transaction = g; listeners = xs }) r (go why))
    where
      under : (ks : List OpenMark) → IsTrue (grows_under ks (edit_meaning g.ctx ed))
      under [] = grow
      under (k ∷ ks) = refl

      go : (reason_by (tests_in g.ctx) ed g.store.module_of ≡ Some r) ⊎ ((r ≡ Memory) × Unit {0}) → (reason_by (tests_in g.ctx) ed g.store.module_of ≡ Some r) ⊎ ((r ≡ Memory) × IsTrue (grows_under (open_marks g) (edit_meaning g.ctx ed)))
      go (inl h) = inl h
      go (inr (memory, u)) = inr (memory, under (open_marks g))

  -- an edit of an entry, by its outcome
  pub entry_goes : {A : Type 0} (ed : NumberedEdit) (s : Stored) (a b : Benched B) (r : Result A Refusal) → IsTrue (grows (edit_meaning a.transaction.ctx ed)) → accepted (edit_meaning a.transaction.ctx ed) (module_held a.transaction) ≡ Done
      → s.module_of ≡ edited_by (tests_in a.transaction.ctx) ed a.transaction.store.module_of → OnOk r (Made meaning s a b) → IsAnswered (Unit {0}) (reason_by (tests_in a.transaction.ctx) ed a.transaction.store.module_of) r → OnErr r (b ≡ a)
      → Does meaning (Do (edit_meaning a.transaction.ctx ed)) (reply_of r) a b
  entry_goes ed s a b (Ok u) grow is after made free same = edit_goes ed Done s a b is free after made
  entry_goes ed s a b (Err e) grow is after made why same =
      subst (λ (b : Benched B). Does meaning (Do (edit_meaning a.transaction.ctx ed)) (Refused e) a b) (sym same) (refused_always ed a.transaction a.transaction a.listeners e grow why refl)
