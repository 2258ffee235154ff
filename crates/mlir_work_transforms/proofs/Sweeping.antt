-- Erasing operations one by one, under a mark, is a sweep.
use Rattle.std.proofs.Common.{◌≡◌, refl, ap, sym, ◌∙◌, subst, ◌⊎◌, inl, inr, ℕ, List, [], ◌∷◌, ◌++◌, length, reverse, Bool, true, false, Option, Some, None, Result, Ok, Err}
use Rattle.std.proofs.lemmas.List.{reverse-append}
use Rattle.ir_event.specs.types.Things.{ContextModel}
use Rattle.ir_event.specs.store.Stored.{Stored}
use Rattle.ir_event.specs.types.Sound.{Holds}
use Rattle.ir_event.specs.types.declared.refusal.Refusal.{Refusal}
use Rattle.ir_event.specs.types.declared.refusal.Refusal.TheVariants.{Memory}
use Rattle.ir_event.specs.Listener.{Listener}
use Rattle.ir_event.specs.Modules.{Module, module_meaning}
use Rattle.conversion.specs.rewriter.Contents.{edited, edit_reason}
use Rattle.conversion.specs.rewriter.Edits.{Erase}
use Rattle.conversion.specs.rewriter.Machine.{State, Answer, Do, Change, Done, DoneWith, Swept, Refused, Nothing, Goes, due_edit, due_change}
use Rattle.conversion.specs.rewriter.Panels.{AllAge}
use Rattle.conversion.specs.rewriter.RewriterCalls.{Benched, Notified, Journaled, Led, state_of}
use Rattle.conversion.specs.rewriter.Held.{TransactionModel, module_held, open_marks}
use Rattle.conversion.specs.rewriter.Moves.{Recorded}
use Rattle.conversion.specs.rewriter.Wholes.{IsFinished, Onward}
use Rattle.conversion.proofs.of_rewriter.Calls.{stepped}
use Rattle.conversion.proofs.of_rewriter.Noted.{recorded_more, recorded_none, recorded_undone}
use Rattle.conversion.proofs.of_rewriter.Together.{Ages, Composes, Stays, IsBegun, led_on, marked_on, whole_journaled}
use Rattle.listeners.specs.Unreached.{unreached_of}
use Rattle.mlir_work_transforms.specs.Sweep.{unless_refused, all_erased, counted, sweep_of, sweeping}
use Rattle.conversion.specs.Runs.{Noted}
use Rattle.conversion.specs.States.{marked_transaction}
use Rattle.mlir_work_transforms.specs.Erasing.{Erases}

-- ---- erasing one operation

-- an accepted erase
pub erased_done : (s t : State) (x : ℕ) → Goes s (Do (Erase x)) Done Nothing t → (edit_reason (Erase x) s.held ≡ None) × (t.held ≡ edited (Erase x) s.held) × (t.marks ≡ s.marks)
erased_done s t x g = elim g.answer [
  | inl h ↦ go (edit_reason (Erase x) s.held) refl h
  | inr h ↦ absurd (let n : Done ≡ Refused Memory = ap (λ (a : Answer). a.reply) h.1 in cc)
]
  where
    go : (o : Option Refusal) → edit_reason (Erase x) s.held ≡ o → record { reply = Done; shows = Nothing; held = t.held; marks = t.marks } ≡ due_edit (edit_reason (Erase x) s.held) (Erase x) s
        → (edit_reason (Erase x) s.held ≡ None) × (t.held ≡ edited (Erase x) s.held) × (t.marks ≡ s.marks)
    go None e h = (let d = h ∙ ap (λ o. due_edit o (Erase x) s) e in (e, ap (λ (a : Answer). a.held) d, ap (λ (a : Answer). a.marks) d))
    go (Some r) e h = absurd (let n : Done ≡ Refused r = ap (λ (a : Answer). a.reply) (h ∙ ap (λ o. due_edit o (Erase x) s) e) in cc)

-- a refused erase
pub erased_refused : (s t : State) (x : ℕ) (r : Refusal) → Goes s (Do (Erase x)) (Refused r) Nothing t → ((edit_reason (Erase x) s.held ≡ Some r) ⊎ (r ≡ Memory)) × (t.marks ≡ s.marks)
erased_refused s t x r g = elim g.answer [
  | inl h ↦ go (edit_reason (Erase x) s.held) refl h
  | inr h ↦ (let n : Refused r ≡ Refused Memory = ap (λ (a : Answer). a.reply) h.1 in (inr cc, ap (λ (a : Answer). a.marks) h.1))
]
  where
    go : (o : Option Refusal) → edit_reason (Erase x) s.held ≡ o → record { reply = Refused r; shows = Nothing; held = t.held; marks = t.marks } ≡ due_edit (edit_reason (Erase x) s.held) (Erase x) s
        → ((edit_reason (Erase x) s.held ≡ Some r) ⊎ (r ≡ Memory)) × (t.marks ≡ s.marks)
    go None e h = absurd (let n : Refused r ≡ Done = ap (λ (a : Answer). a.reply) (h ∙ ap (λ o. due_edit o (Erase x) s) e) in cc)
    go (Some q) e h =
        let d = h ∙ ap (λ o. due_edit o (Erase x) s) e in
        let n : Refused r ≡ Refused q = ap (λ (a : Answer). a.reply) d in
        let one : r ≡ q = cc in
        (inl (e ∙ ap Some (sym one)), ap (λ (a : Answer). a.marks) d)

-- ---- erasing a list of operations

-- the first operation of the list was erased
pub all_erased_done : (x : ℕ) (xs : List ℕ) (m n : Module) → edit_reason (Erase x) m ≡ None → n ≡ edited (Erase x) m → all_erased (x ∷ xs) m ≡ all_erased xs n
all_erased_done x xs m n e is = ap (λ o. unless_refused o (all_erased xs (edited (Erase x) m))) e ∙ ap (all_erased xs) (sym is)

-- the first operation of the list was refused, which ends the sweep
pub all_erased_refused : (x : ℕ) (xs : List ℕ) (m : Module) (r : Refusal) → edit_reason (Erase x) m ≡ Some r → all_erased (x ∷ xs) m ≡ Err r
all_erased_refused x xs m r e = ap (λ o. unless_refused o (all_erased xs (edited (Erase x) m))) e

-- the last operation of the list was erased or refused, or the list is empty
erased_more : (xs ys left : List ℕ) (x : ℕ) (m a b : Module) → all_erased (reverse ys) a ≡ all_erased (reverse xs) m → ys ≡ left ++ x ∷ [] → edit_reason (Erase x) a ≡ None → b ≡ edited (Erase x) a → all_erased (reverse left) b ≡ all_erased (reverse xs) m
erased_more xs ys left x m a b same parts why is =
    sym (all_erased_done x (reverse left) a b why is) ∙ ap (λ (l : List ℕ). all_erased l a) (sym (reverse-append left (x ∷ []))) ∙ ap (λ (l : List ℕ). all_erased (reverse l) a) (sym parts) ∙ same

erased_stop : (xs ys left : List ℕ) (x : ℕ) (m a : Module) (r : Refusal) → all_erased (reverse ys) a ≡ all_erased (reverse xs) m → ys ≡ left ++ x ∷ [] → edit_reason (Erase x) a ≡ Some r → all_erased (reverse xs) m ≡ Err r
erased_stop xs ys left x m a r same parts why =
    sym same ∙ ap (λ (l : List ℕ). all_erased (reverse l) a) parts ∙ ap (λ (l : List ℕ). all_erased l a) (reverse-append left (x ∷ [])) ∙ all_erased_refused x (reverse left) a r why

erased_all : (xs ys : List ℕ) (m a : Module) → all_erased (reverse ys) a ≡ all_erased (reverse xs) m → ys ≡ [] → all_erased (reverse xs) m ≡ Ok a
erased_all xs ys m a same none = sym same ∙ ap (λ (l : List ℕ). all_erased (reverse l) a) none

-- the swept operations of the module of an IR state
pub swept_in : (xs : List ℕ) (c d : ContextModel) (s u : Stored) → c ≡ d → s ≡ u → xs ≡ unreached_of (module_meaning c s.module_of).tree → xs ≡ unreached_of (module_meaning d u.module_of).tree
swept_in xs c d s u p q h = h ∙ (λ i. unreached_of (module_meaning (p i) (q i).module_of).tree)

-- ---- the whole sweep
sweep_done : (m n : Module) (xs : List ℕ) → xs ≡ unreached_of m.tree → all_erased (reverse xs) m ≡ Ok n → sweep_of m ≡ Ok (Swept (length xs), n)
sweep_done m n xs is e = ap (λ (ys : List ℕ). counted (length ys) (all_erased (reverse ys) m)) (sym is) ∙ ap (counted (length xs)) e

sweep_refused : (m : Module) (xs : List ℕ) (r : Refusal) → xs ≡ unreached_of m.tree → all_erased (reverse xs) m ≡ Err r → sweep_of m ≡ Err (record { refusal = r; op = None })
sweep_refused m xs r is e = ap (λ (ys : List ℕ). counted (length ys) (all_erased (reverse ys) m)) (sym is) ∙ ap (counted (length xs)) e

module _ {B : Type 0} (means : B → Listener) where
  -- some operations were erased; erasing the rest leads to the same module as erasing all from the start
  pub record IsErasing (xs left : List ℕ) (a b : Benched B) : Type 0 where
    pub same : all_erased (reverse left) (module_held b.transaction) ≡ all_erased (reverse xs) (module_held a.transaction)
    pub marks : open_marks b.transaction ≡ open_marks a.transaction
    pub ctx : b.transaction.ctx ≡ a.transaction.ctx
    pub led : Led means a b
    pub noted : Journaled means a b

  pub erasing_none : Stays means → (xs : List ℕ) (a : Benched B) → IsErasing xs xs a a
  erasing_none none xs a = record { same = refl; marks = refl; ctx = refl; led = ([], none a); noted = ([], none a, recorded_none a.transaction) }

  pub erasing_more : Composes means → (xs ys left : List ℕ) (x : ℕ) (a b d : Benched B) → Holds a.transaction.ctx → IsErasing xs ys a b → ys ≡ left ++ x ∷ [] → Goes (state_of means b) (Do (Erase x)) Done Nothing (state_of means d) → Led means b d → d.transaction.ctx ≡ b.transaction.ctx → Journaled means b d → IsErasing xs left a d
  erasing_more more xs ys left x a b d holds h parts goes led ctx noted =
      let e = erased_done (state_of means b) (state_of means d) x goes in
      record {
        same = erased_more xs ys left x (module_held a.transaction) (module_held b.transaction) (module_held d.transaction) h.same parts e.0 e.1;
        marks = e.2 ∙ h.marks;
        ctx = ctx ∙ h.ctx;
        led = led_on means more a b d holds h.ctx (ctx ∙ h.ctx) h.led led;
        noted = (
          h.noted.0 ++ noted.0,
          more h.noted.0 noted.0 a b d (subst Holds (sym h.ctx) holds) (subst Holds (sym (ctx ∙ h.ctx)) holds) h.noted.1 noted.1,
          recorded_more h.noted.0 noted.0 a.transaction b.transaction d.transaction h.noted.2.marks h.noted.2 noted.2,
        );
      }

  -- the events recorded before the refused one
  pub erasing_noted : (xs ys : List ℕ) (a b d : Benched B) → IsErasing xs ys a b → Recorded [] b.transaction d.transaction → Noted a.transaction d.transaction
  erasing_noted xs ys a b d h left = (h.noted.0 ++ [], recorded_more h.noted.0 [] a.transaction b.transaction d.transaction h.noted.2.marks h.noted.2 left)

  pub erasing_refused : (xs ys left : List ℕ) (x : ℕ) (r : Refusal) (a b d : Benched B) → IsErasing xs ys a b → ys ≡ left ++ x ∷ [] → Goes (state_of means b) (Do (Erase x)) (Refused r) Nothing (state_of means d) → d.transaction.ctx ≡ b.transaction.ctx → Erases {A = Unit {0}} (reverse xs) (Err r) a.transaction d.transaction
  erasing_refused xs ys left x r a b d h parts goes ctx =
      let e = erased_refused (state_of means b) (state_of means d) x r goes in
      record {
        ctx = ctx ∙ h.ctx;
        erased = elim e.0 [
          | inl why ↦ inl (erased_stop xs ys left x (module_held a.transaction) (module_held b.transaction) r h.same parts why)
          | inr memory ↦ inr memory
        ];
        marks = e.1 ∙ h.marks;
      }

  pub erasing_all : (xs ys : List ℕ) (a b : Benched B) → IsErasing xs ys a b → ys ≡ [] → Erases {A = Unit {0}} (reverse xs) (Ok tt) a.transaction b.transaction
  erasing_all xs ys a b h none = record { ctx = h.ctx; erased = erased_all xs ys (module_held a.transaction) (module_held b.transaction) h.same none; marks = h.marks }

  -- the sweep was refused since memory ran out, and the module and the marks didn't change
  pub sweep_unmade : (s t : State) (r : Refusal) → r ≡ Memory → t.held ≡ s.held → t.marks ≡ s.marks → AllAge s.panel t.panel → Goes s (Change sweeping) (Refused r) Nothing t
  sweep_unmade s t r memory held marks ages = record { answer = inr (refl, inl (λ i. record { reply = Refused (memory i); shows = Nothing; held = held i; marks = marks i })); panel = ages }

  pub sweep_unbegun : Ages means → Stays means → (r : Refusal) (a : Benched B) → r ≡ Memory → Goes (state_of means a) (Change sweeping) (Refused r) Nothing (state_of means a)
  sweep_unbegun ages none r a memory = sweep_unmade (state_of means a) (state_of means a) r memory refl refl (ages a a ([], none a))

  -- the newest mark is that of the module before the sweep
  noted : (r : Result (Unit {0}) Refusal) (xs : List ℕ) (a b c : Benched B) → IsBegun means a b → Erases xs r b.transaction c.transaction → open_marks c.transaction ≡ record { marked = module_held a.transaction; counted = false } ∷ open_marks a.transaction
  noted r xs a b c h e = e.marks ∙ (stepped (state_of means a) (state_of means b) h.goes).1

  -- the events of all erasures, followed by the undoing events if the sweep was refused
  pub swept_led : Composes means → (r : Result (Unit {0}) Refusal) (xs : List ℕ) (stays : Bool) (a b c d : Benched B) → Holds a.transaction.ctx → IsBegun means a b → Erases xs r b.transaction c.transaction → Led means b c → IsFinished stays c.transaction d.transaction → Led means c d → Led means a d
  swept_led more r xs stays a b c d holds h e on f led =
      led_on means more a c d holds (e.ctx ∙ h.ctx) (f.ctx ∙ e.ctx ∙ h.ctx) (led_on means more a b c holds h.ctx (e.ctx ∙ h.ctx) h.led on) led

  pub sweep_goes : Ages means → (xs : List ℕ) (n : ℕ) (a b c d : Benched B) → xs ≡ unreached_of (module_held a.transaction).tree → n ≡ length xs → IsBegun means a b → Erases {A = Unit {0}} (reverse xs) (Ok tt) b.transaction c.transaction → IsFinished true c.transaction d.transaction → Led means a d
      → Goes (state_of means a) (Change sweeping) (DoneWith (Swept n)) Nothing (state_of means d)
  sweep_goes ages xs n a b c d is count h e f led =
      let begun = (stepped (state_of means a) (state_of means b) h.goes).0 in
      let mark = noted (Ok tt) (reverse xs) a b c h e in
      let erased : all_erased (reverse xs) (module_held a.transaction) ≡ Ok (module_held d.transaction) = ap (all_erased (reverse xs)) (sym begun) ∙ e.erased ∙ ap Ok (sym (f.held _ _ mark)) in
      let due : sweep_of (module_held a.transaction) ≡ Ok (Swept n, module_held d.transaction) = sweep_done (module_held a.transaction) (module_held d.transaction) xs is erased ∙ ap (λ (k : ℕ). Ok (Swept k, module_held d.transaction)) (sym count) in
      record {
        answer = inl ((λ i. record { reply = DoneWith (Swept n); shows = Nothing; held = module_held d.transaction; marks = f.marks _ _ mark i }) ∙ sym (ap (λ r. due_change r (state_of means a)) due));
        panel = ages a d led;
      }

  pub sweep_undone : Ages means → (xs : List ℕ) (r : Refusal) (a b c d : Benched B) → xs ≡ unreached_of (module_held a.transaction).tree → IsBegun means a b → Erases {A = Unit {0}} (reverse xs) (Err r) b.transaction c.transaction → IsFinished false c.transaction d.transaction → Led means a d
      → Goes (state_of means a) (Change sweeping) (Refused r) Nothing (state_of means d)
  sweep_undone ages xs r a b c d is h e f led =
      let begun = (stepped (state_of means a) (state_of means b) h.goes).0 in
      let mark = noted (Err r) (reverse xs) a b c h e in
      elim e.erased [
        | inl why ↦ (
            let due = sweep_refused (module_held a.transaction) xs r is (ap (all_erased (reverse xs)) (sym begun) ∙ why) in
            record {
              answer = inl ((λ i. record { reply = Refused r; shows = Nothing; held = f.held _ _ mark i; marks = f.marks _ _ mark i }) ∙ sym (ap (λ q. due_change q (state_of means a)) due));
              panel = ages a d led;
            })
        | inr memory ↦ sweep_unmade (state_of means a) (state_of means d) r memory (f.held _ _ mark) (f.marks _ _ mark) (ages a d led)
      ]

  -- the journal after a sweep: it ends with the events of the sweep if a mark is open, and it is unchanged otherwise
  pub swept_journaled : Composes means → (xs : List ℕ) (a b c d : Benched B) → Holds a.transaction.ctx → (a.transaction.marks ≡ [] → a.transaction.journal ≡ []) → b.transaction ≡ marked_transaction a.transaction → Notified means [] a b
      → Erases {A = Unit {0}} xs (Ok tt) b.transaction c.transaction → Journaled means b c → IsFinished true c.transaction d.transaction → Notified means [] c d → Journaled means a d
  swept_journaled more xs a b c d holds none begun untold e noted f reports_nothing =
      let on : Onward means b c = record { ctx = e.ctx; marks = noted.2.marks; opens = e.marks; noted = noted } in
      whole_journaled means more a b c d holds none begun untold on f reports_nothing

-- the sweep was undone
pub swept_back : (a b c d : TransactionModel) → (a.marks ≡ [] → a.journal ≡ []) → b ≡ marked_transaction a → Noted b c → IsFinished false c d → Recorded [] a d
swept_back a b c d none begun noted f = recorded_undone false a b c d begun noted.1.marks noted.0 noted.1 (f.dropped (marked_on a b c begun noted.1.marks)) none refl
