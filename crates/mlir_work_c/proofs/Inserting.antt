-- Insertions by numbers, and those that are refused.
use Rattle.std.proofs.Common.{◌≡◌, ◌∙◌, ap, inl, inr, refl, subst, sym, ◌⊎◌, Ok, Err}
use Rattle.std.specs.Prelude.{Result}
use Rattle.ir_event.specs.types.declared.refusal.Refusal.{Refusal}
use Rattle.ir_event.specs.types.declared.refusal.Refusal.TheVariants.{Memory}
use Rattle.ir_event.specs.trees.Tree.{Op}
use Rattle.rewriter.specs.Commands.{Replied}
use Rattle.rewriter.specs.Machine.{Refused, Reply}
use Rattle.rewriter.specs.Points.{Point}
use Rattle.mlir_work_analyses.specs.Listeners.{any_analysis}
use Rattle.mlir_work_c_read.specs.Edits.{InsertsHeader, InsertsNumbered}
use Rattle.mlir_work_c.specs.Answers.{refused, replied_of}
use Rattle.mlir_work_c.specs.Numbered.{Inserts, KeepsRest}
use Rattle.mlir_work_c.specs.declared.answer.Answer.{Answer}
use Rattle.mlir_work_c.specs.declared.session.Session.{Session}

module _ (point : Point) (reported : Result Op Refusal) (s : Session) (a : Answer) where
  pub refused_so : (refusal : Refusal) → a ≡ refused refusal → (refusal ≡ Memory) ⊎ (reported ≡ Err refusal) → Inserts point reported s a s
  refused_so refusal is (inl e) = inl (is ∙ ap refused e, refl)
  refused_so refusal is (inr e) =
      inr (
        Refused refusal,
        subst (λ (t : Result Op Refusal). InsertsNumbered any_analysis point t (Refused refusal) s.bench s.bench) (sym e) (refl, refl),
        is,
        record { registry = refl; limit = refl; counted = refl; shows = refl; mode = refl },
      )

  pub inserted_so : (header : Op) (reply : Reply) (t : Session) → reported ≡ Ok header → InsertsHeader any_analysis point header reply s.bench t.bench
      → a ≡ replied_of (Replied reply) 0 → KeepsRest s t → Inserts point reported s a t
  inserted_so header reply t e does is keeps =
      inr (reply, subst (λ (r : Result Op Refusal). InsertsNumbered any_analysis point r reply s.bench t.bench) (sym e) does, is, keeps)
