-- Opening and closing a mark leaves the context unchanged.
use Rattle.std.proofs.Common.{◌≡◌, ◌∙◌, ap, ℕ, false}
use Rattle.std.specs.Prelude.{OnOk, OnErr, Result, Ok, Err}
use Rattle.ir_event.specs.types.declared.refusal.Refusal.{Refusal}
use Rattle.rewriter.specs.Held.{TransactionModel}
use Rattle.rewriter.specs.Marked.{Closed, with_mark}
use Rattle.rewriter.specs.Rolling.{GivenUp, UndoneTo}

pub step_ctx : {A : Type 0} (old new : TransactionModel) (r : Result A Refusal) → OnOk r (new ≡ with_mark false old) → OnErr r (new ≡ old) → new.ctx ≡ old.ctx
step_ctx old new (Ok a) ok err = ap (λ (h : TransactionModel). h.ctx) ok
step_ctx old new (Err e) ok err = ap (λ (h : TransactionModel). h.ctx) err

pub commit_ctx : (old closed new : TransactionModel) → Closed old closed → GivenUp closed new → new.ctx ≡ old.ctx
commit_ctx old closed new c g = g.ctx ∙ ap (λ (h : TransactionModel). h.ctx) c.held

pub rollback_ctx : (mark : ℕ) (old undone closed new : TransactionModel) → UndoneTo mark old undone → Closed undone closed → GivenUp closed new → new.ctx ≡ old.ctx
rollback_ctx mark old undone closed new u c g = commit_ctx undone closed new c g ∙ u.ctx
