-- Proofs that one rewrite at an operation is a step of the machine.
use Rattle.std.proofs.Common.{◌≡◌, refl, ap, sym, ◌∙◌, ◌⊎◌, inl, inr, ℕ, Bool, true, false, cond, Result, Ok, Err}
use Rattle.std.specs.Prelude.{IfErr, IfOk, None, OnErr}
use Rattle.ir_event.specs.types.Things.{ContextModel}
use Rattle.ir_event.specs.types.declared.refusal.Refusal.{Refusal}
use Rattle.ir_event.specs.types.declared.refusal.Refusal.TheVariants.{Full, Memory, NoSuchOp}
use Rattle.ir_event.specs.trees.Ids.{has_id}
use Rattle.ir_event.specs.Listener.{Listener}
use Rattle.ir_event.specs.Modules.{Module}
use Rattle.conversion.specs.rewriter.RewriterCalls.{Benched, Does, state_of}
use Rattle.conversion.specs.rewriter.Held.{module_held, open_marks}
use Rattle.conversion.specs.rewriter.Machine.{Change, IsAnswer, IsFullSo, Nothing, Outcome, Refused, Reply, State, due, due_change, Fault as Because}
use Rattle.conversion.specs.rewriter.Panels.{AllAge}
use Rattle.conversion.specs.patterns.Applied.{RewriteOutcome, IsReason, IsRefusedSo}
use Rattle.conversion.specs.patterns.runs.Interning.{IsFull}
use Rattle.conversion.specs.patterns.Rewrites.{Rewrite, none, refused, becomes}
use Rattle.mlir_work_transforms.specs.Applying.{applied_at, applied_reply, made_of, rewriting_at}
use Rattle.std.proofs.lemmas.Bool.{cases_Bool}

-- the required result if the operation exists, and if it doesn't
at_one : (w : Module → Rewrite) (x : ℕ) (m : Module) → has_id x m.tree ≡ true → applied_at w x m ≡ made_of (w m) m
at_one w x m e = ap (λ (b : Bool). cond b (made_of (w m) m) (Err (record { refusal = NoSuchOp; op = None }))) e

at_none : (w : Module → Rewrite) (x : ℕ) (m : Module) → has_id x m.tree ≡ false → applied_at w x m ≡ Err (record { refusal = NoSuchOp; op = None })
at_none w x m e = ap (λ (b : Bool). cond b (made_of (w m) m) (Err (record { refusal = NoSuchOp; op = None }))) e

refused_so : (w : Rewrite) (e : Refusal) → IsRefusedSo w e → w ≡ refused e
refused_so none e i = absurd i
refused_so (becomes n) e i = absurd i
refused_so (refused f) e i = ap refused i

module _ (q : Module → Rewrite) (x : ℕ) (s t : State) (marks : t.marks ≡ s.marks) where
  abbrev IsDue : Reply → Type 0
  IsDue reply = IsAnswer s (Change (rewriting_at q x)) (record { reply = reply; shows = Nothing; held = t.held; marks = t.marks })

  done_answer : (w : Rewrite) (done : Bool) → has_id x s.held.tree ≡ true → q s.held ≡ w → RewriteOutcome w done s.held t.held → IsDue (applied_reply (Ok done))
  done_answer none done there e (isnt, same) = inl (
      (λ i. record { reply = applied_reply (Ok (isnt i)); shows = Nothing; held = same i; marks = marks i })
      ∙ sym (ap (λ (o : Result (Outcome × Module) Because). due_change o s) (at_one q x s.held there ∙ ap (λ (w : Rewrite). made_of w s.held) e)))
  done_answer (becomes n) done there e (is_so, same) = inl (
      (λ i. record { reply = applied_reply (Ok (is_so i)); shows = Nothing; held = same i; marks = marks i })
      ∙ sym (ap (λ (o : Result (Outcome × Module) Because). due_change o s) (at_one q x s.held there ∙ ap (λ (w : Rewrite). made_of w s.held) e)))
  done_answer (refused f) done there e gave = absurd gave

  due_refusal : (e : Refusal) → applied_at q x s.held ≡ Err (record { refusal = e; op = None }) → t.held ≡ s.held → IsDue (Refused e)
  due_refusal e k h = inl ((λ i. record { reply = Refused e; shows = Nothing; held = h i; marks = marks i }) ∙ sym (ap (λ (o : Result (Outcome × Module) Because). due_change o s) k))

  by_reason : (e : Refusal) (c : ContextModel) → has_id x s.held.tree ≡ true → IsReason (q s.held) x s.held c e → t.held ≡ s.held → IsDue (Refused e)
  by_reason e c there (inl m) h = inr (refl, inl (λ i. record { reply = Refused (m i); shows = Nothing; held = h i; marks = marks i }))
  by_reason e c there (inr (inl (m, gone))) h = absurd (let z : true ≡ false = sym there ∙ gone in cc)
  by_reason e c there (inr (inr (inl so))) h = due_refusal e (at_one q x s.held there ∙ ap (λ (w : Rewrite). made_of w s.held) (refused_so (q s.held) e so)) h
  by_reason e c there (inr (inr (inr (m, full)))) h = inr (refl, inr (refl, λ i. record { reply = Refused (m i); shows = Nothing; held = h i; marks = marks i }))

  gone : (o : Result Bool Refusal) → o ≡ Err NoSuchOp → has_id x s.held.tree ≡ false → OnErr o (t.held ≡ s.held) → IsDue (applied_reply o)
  gone (Ok done) e k h = absurd cc
  gone (Err f) e k h = due_refusal f (at_none q x s.held k ∙ (λ i. Err (record { refusal = sym same i; op = None }))) h
    where
      same : f ≡ NoSuchOp
      same = (let i : Err f ≡ Err NoSuchOp = e in cc)

  is_there : (o : Result Bool Refusal) (c : ContextModel) → has_id x s.held.tree ≡ true → IfOk o (λ done. RewriteOutcome (q s.held) done s.held t.held) → OnErr o (t.held ≡ s.held) → IfErr o (λ e. IsReason (q s.held) x s.held c e) → IsDue (applied_reply o)
  is_there (Ok done) c k gave h i = done_answer (q s.held) done k refl gave
  is_there (Err f) c k gave h i = by_reason f c k i h

  answered : (res : Result Bool Refusal) (c : ContextModel) → (has_id x s.held.tree ≡ false → res ≡ Err NoSuchOp) → IfOk res (λ done. RewriteOutcome (q s.held) done s.held t.held) → OnErr res (t.held ≡ s.held)
      → IfErr res (λ e. IsReason (q s.held) x s.held c e) → IsDue (applied_reply res)
  answered res c there ok err why = elim (cases_Bool (has_id x s.held.tree)) [
    | inr k ↦ gone res (there k) k err
    | inl k ↦ is_there res c k ok err why
  ]

-- if the rewrite is refused with 31, then the definition requires it or the context is full
pub applied_full : (q : Module → Rewrite) (x : ℕ) (s : State) (res : Result Bool Refusal) (c : ContextModel) → (has_id x s.held.tree ≡ false → res ≡ Err NoSuchOp) → IfErr res (λ e. IsReason (q s.held) x s.held c e) → IsFullSo (IsFull c) s (rewriting_at q x) (applied_reply res)
applied_full q x s (Ok done) c there why is = absurd cc
applied_full q x s (Err e) c there why is = elim (cases_Bool (has_id x s.held.tree)) [
  | inr k ↦ absurd (let z : Err e ≡ Err NoSuchOp = there k in let y : Refused e ≡ Refused Full = is in cc)
  | inl k ↦ by_why k why
]
  where
    by_why : has_id x s.held.tree ≡ true → IsReason (q s.held) x s.held c e → (Refused e ≡ (due s (Change (rewriting_at q x))).reply) ⊎ IsFull c
    by_why k (inl m) = absurd (let y : Refused Memory ≡ Refused Full = ap Refused (sym m) ∙ is in cc)
    by_why k (inr (inl (m, gone))) = absurd (let y : Refused NoSuchOp ≡ Refused Full = ap Refused (sym m) ∙ is in cc)
    by_why k (inr (inr (inl so))) = inl (sym (ap (λ (o : Result (Outcome × Module) Because). (due_change o s).reply) (at_one q x s.held k ∙ ap (λ (w : Rewrite). made_of w s.held) (refused_so (q s.held) e so))))
    by_why k (inr (inr (inr (m, full)))) = inr full.1

pub applied_does : {B : Type 0} (meaning : B → Listener) (q : Module → Rewrite) (x : ℕ) (a b : Benched B) (res : Result Bool Refusal) → (has_id x (module_held a.transaction).tree ≡ false → res ≡ Err NoSuchOp)
    → IfOk res (λ done. RewriteOutcome (q (module_held a.transaction)) done (module_held a.transaction) (module_held b.transaction)) → OnErr res (module_held b.transaction ≡ module_held a.transaction)
    → IfErr res (λ e. IsReason (q (module_held a.transaction)) x (module_held a.transaction) b.transaction.ctx e) → open_marks b.transaction ≡ open_marks a.transaction → AllAge (state_of meaning a).panel (state_of meaning b).panel
    → Does meaning (Change (rewriting_at q x)) (applied_reply res) a b
applied_does meaning q x a b res there ok err why marks ages = record { answer = answered q x (state_of meaning a) (state_of meaning b) marks res b.transaction.ctx there ok err why; panel = ages }
