-- The insertion of an operation with everything inside it, which is atomic.
use Rattle.std.specs.Prelude.{nat_le}
use Rattle.std.proofs.Common.{◌≡◌, ◌≢◌, ◌∙◌, sym, ap, subst, refl, ◌⊎◌, inl, inr, ℕ, ◌+◌, List, [], ◌∷◌, Bool, true, false, Option, Some, None, IsTrue}
use Rattle.ir_event.specs.types.Things.{ContextModel}
use Rattle.ir_event.specs.types.Sound.{Holds}
use Rattle.ir_event.specs.types.Reasons.{first_reason}
use Rattle.ir_event.specs.types.declared.refusal.Refusal.{Refusal}
use Rattle.ir_event.specs.types.declared.refusal.Refusal.TheVariants.{Memory, NoSuchOp, NotVisible, NoSuchIndex, Full, IdsExhausted, TooDeepHere}
use Rattle.ir_event.specs.trees.declared.place.Place.{Place}
use Rattle.ir_event.specs.trees.Tree.{Op, op, head}
use Rattle.ir_event.specs.trees.Ids.{IsNumberedFrom, has_id, op_count}
use Rattle.ir_event.specs.trees.Limits.{depth, every, most_ops, most_next, op_fits}
use Rattle.ir_event.specs.trees.Meaning.{isolated_in, meaning}
use Rattle.ir_event.specs.trees.Places.{put}
use Rattle.ir_event.specs.trees.Sites.{operands_visible}
use Rattle.ir_event.specs.tree_laws.Reads.{around}
use Rattle.ir_event.specs.tree_laws.Reasons.{unless, has_place, fits_around}
use Rattle.ir_event.specs.Listener.{Listener}
use Rattle.ir_event.specs.Modules.{Module}
use Rattle.rewriter.specs.Contents.{Edit, NumberedEdit, edit_meaning, edit_reason, tests_in}
use Rattle.rewriter.specs.Edits.{Insert, edited_by, insert_reason, reason_by}
use Rattle.rewriter.specs.Machine.{State, OpenMark, Do, Reply, DoneAs, Refused, Nothing, Goes, due_edit, grows_under}
use Rattle.rewriter.specs.Panels.{AllAge}
use Rattle.rewriter.proofs.Numbers.{reason_meaning}
use Rattle.rewriter.specs.Held.{module_held, open_marks}
use Rattle.rewriter_machine.specs.Inserting.{insert_fault}
use Rattle.rewriter.specs.RewriterCalls.{Benched, Led, state_of}
use Rattle.rewriter.specs.Wholes.{IsFinished, Onward}
use Rattle.rewriter.proofs.Calls.{stepped, unmade_goes}
use Rattle.rewriter.proofs.Together.{Ages, Composes, IsBegun, begun_held, goes_whole}

-- ---- reasons against an operation's place and size

unless_other : (b : Bool) (r : Refusal) (rest : Option Refusal) → Some r ≢ Some NotVisible → rest ≢ Some NotVisible → unless b r rest ≢ Some NotVisible
unless_other true r rest h k = k
unless_other false r rest h k = h

-- the reason isn't that an operand isn't visible
fault_other : (place : Place) (o : Op) (free : ℕ) (t : Op) → insert_fault place o free t ≢ Some NotVisible
fault_other place o free t =
    unless_other (has_id place.parent t) NoSuchOp _ (λ e. cc)
    (unless_other (has_place place t) NoSuchIndex _ (λ e. cc)
    (unless_other (nat_le (op_count t + op_count o) most_ops) Full _ (λ e. cc)
    (unless_other (every op_fits o) Full _ (λ e. cc)
    (unless_other (nat_le (free + op_count o) most_next) IdsExhausted _ (λ e. cc)
    (unless_other (fits_around (depth o) (around place.parent t)) TooDeepHere None (λ e. cc) (λ e. cc))))))

no_fault : (f : Option Refusal) (b c : Bool) → f ≢ Some NotVisible → first_reason f (unless b NotVisible None) ≡ unless c NotVisible None → f ≡ None
no_fault None b c h e = refl
no_fault (Some r) b true h e = absurd cc
no_fault (Some r) b false h e = absurd (h e)

-- the first of two reasons, in the form of the theorems about edits
abbrev pub Split : Type 0
Split = (isolated : ℕ → Bool) (place : Place) (o : Op) (free : ℕ) (t : Op) → insert_reason isolated place o free t ≡ first_reason (insert_fault place o free t) (unless (operands_visible isolated (put place o t)) NotVisible None)

pub fault_reason : Split → (c : ContextModel) (place : Place) (o : Op) (r : Refusal) (free : ℕ) (t : Op) → insert_fault place o free t ≡ Some r → reason_by (tests_in c) (Insert place o) (record { tree = t; next = free }) ≡ Some r
fault_reason split c place o r free t e =
    split (isolated_in c) place o free t ∙ ap (λ f. first_reason f (unless (operands_visible (isolated_in c) (put place o t)) NotVisible None)) e

-- ---- the effect of an insertion

-- an insertion needs memory
insert_grows : (c : ContextModel) (place : Place) (o : Op) (ks : List OpenMark) → IsTrue (grows_under ks (edit_meaning c (Insert place o)))
insert_grows c place o [] = refl
insert_grows c place o (k ∷ ks) = refl

meant_id : (c : ContextModel) (o : Op) → (head (meaning c o)).id ≡ (head o).id
meant_id c (op h rs) = refl

-- an edit refused for its reason, after events that were undone
unaccepted : (s t : State) (e : Edit) (r : Refusal) → edit_reason e s.held ≡ Some r → t.held ≡ s.held → t.marks ≡ s.marks → AllAge s.panel t.panel → Goes s (Do e) (Refused r) Nothing t
unaccepted s t e r why held marks ages =
    record {
      answer = inl ((λ i. record { reply = Refused r; shows = Nothing; held = held i; marks = marks i }) ∙ sym (ap (λ (o : Option Refusal). due_edit o e s) why));
      panel = ages;
    }

module _ {B : Type 0} (means : B → Listener) where
  -- the reason is the same before a mark is opened and after it
  begun_reason : (e : NumberedEdit) (a b : Benched B) → IsBegun means a b → reason_by (tests_in b.transaction.ctx) e b.transaction.store.module_of ≡ reason_by (tests_in a.transaction.ctx) e a.transaction.store.module_of
  begun_reason e a b h =
      sym (reason_meaning b.transaction.ctx e b.transaction.store.module_of) ∙ (λ i. edit_reason (edit_meaning (h.ctx i) e) (begun_held means a b h i)) ∙ reason_meaning a.transaction.ctx e a.transaction.store.module_of

  pub begun_numbered : (o : Op) (a b : Benched B) → IsBegun means a b → IsNumberedFrom a.transaction.store.module_of.next o → IsNumberedFrom b.transaction.store.module_of.next o
  begun_numbered o a b h n = subst (λ (k : ℕ). IsNumberedFrom k o) (ap (λ (m : Module). m.next) (sym (begun_held means a b h))) n

  pub begun_fault : Split → (place : Place) (o : Op) (a b : Benched B) → IsBegun means a b → insert_fault place o a.transaction.store.module_of.next a.transaction.store.module_of.tree ≡ None
      → insert_fault place o b.transaction.store.module_of.next b.transaction.store.module_of.tree ≡ None
  begun_fault split place o a b h e =
      let t = a.transaction.store.module_of.tree in
      let u = b.transaction.store.module_of.tree in
      let seen = operands_visible (isolated_in a.transaction.ctx) (put place o t) in
      no_fault (insert_fault place o b.transaction.store.module_of.next u) (operands_visible (isolated_in b.transaction.ctx) (put place o u)) seen (fault_other place o b.transaction.store.module_of.next u)
      (sym (split (isolated_in b.transaction.ctx) place o b.transaction.store.module_of.next u) ∙ begun_reason (Insert place o) a b h ∙ split (isolated_in a.transaction.ctx) place o a.transaction.store.module_of.next t
      ∙ ap (λ f. first_reason f (unless seen NotVisible None)) e)

  -- the edit is made under its mark
  pub insert_done : Ages means → Composes means → (place : Place) (o : Op) (x : ℕ) (a b c d : Benched B) → Holds a.transaction.ctx → (head o).id ≡ x → IsBegun means a b → Onward means b c → reason_by (tests_in b.transaction.ctx) (Insert place o) b.transaction.store.module_of ≡ None
      → c.transaction.store.module_of ≡ edited_by (tests_in b.transaction.ctx) (Insert place o) b.transaction.store.module_of → IsFinished true c.transaction d.transaction → Led means a d
      → Goes (state_of means a) (Do (edit_meaning a.transaction.ctx (Insert place o))) (DoneAs x) Nothing (state_of means d)
  insert_done ages more place o x a b c d holds id h on free is f led =
      subst (λ (y : Reply). Goes (state_of means a) (Do (edit_meaning a.transaction.ctx (Insert place o))) y Nothing (state_of means d)) (ap DoneAs (meant_id a.transaction.ctx o ∙ id))
      (goes_whole means ages more (Insert place o) a b c d holds (sym (begun_reason (Insert place o) a b h) ∙ free) h on is f led)

  -- the edit is refused under its mark, and the state before the mark is restored
  pub insert_undone : Ages means → (place : Place) (o : Op) (r : Refusal) (a b c d : Benched B) → IsBegun means a b → Onward means b c → (reason_by (tests_in b.transaction.ctx) (Insert place o) b.transaction.store.module_of ≡ Some r) ⊎ ((r ≡ Memory) × Unit {0})
      → IsFinished false c.transaction d.transaction → Led means a d → Goes (state_of means a) (Do (edit_meaning a.transaction.ctx (Insert place o))) (Refused r) Nothing (state_of means d)
  insert_undone ages place o r a b c d h on why f led =
      let e = edit_meaning a.transaction.ctx (Insert place o) in
      let noted_one : open_marks c.transaction ≡ record { marked = module_held a.transaction; counted = false } ∷ open_marks a.transaction = on.opens ∙ (stepped (state_of means a) (state_of means b) h.goes).1 in
      elim why [
        | inl is ↦ unaccepted (state_of means a) (state_of means d) e r (reason_meaning a.transaction.ctx (Insert place o) a.transaction.store.module_of ∙ sym (begun_reason (Insert place o) a b h) ∙ is) (f.held _ _ noted_one) (f.marks _ _ noted_one) (ages a d led)
        | inr memory ↦ unmade_goes (state_of means a) (state_of means d) e r memory.0 (insert_grows a.transaction.ctx place o (open_marks a.transaction)) (f.held _ _ noted_one) (f.marks _ _ noted_one) (ages a d led)
      ]
