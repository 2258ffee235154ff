use Rattle.std.proofs.Common.{◌≡◌, ◌∙◌, List, ℕ, subst}
use Rattle.std.specs.Prelude.{IfOk}
use Rattle.mlir_work_session_base.proofs.Lines.{shown_with_ids}
use Rattle.mlir_work_session_base.proofs.ids.text_with_ids.Goals as goal

pub returns : goal.returns
returns c =
    subst (λ (xs : List ℕ). IfOk c.numbered.result (λ out. out.items ≡ xs))
    (shown_with_ids c.args.ctx.now c.args.tree.now c.deref.result.now (c.deref.ensures.value ∙ c.in-Ok.ensures.ok)) c.numbered.ensures
