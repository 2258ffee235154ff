-- The tracer of a rewriting command: what it holds after some rewrites.
use Rattle.std.specs.Prelude.{◌≡◌, ℕ, List, [], ◌++◌, take, Result, Ok, Err}
use Rattle.std.proofs.Common.{refl, ◌∙◌, subst}
use Rattle.ir_event.specs.types.declared.refusal.Refusal.{Refusal}
use Rattle.greedy.specs.declared.applied_rewrite.AppliedRewrite.{AppliedRewrite}
use Rattle.greedy.specs.declared.outcome.Outcome.{Outcome}
use Rattle.greedy.specs.declared.outcome.Outcome.TheVariants.{Converged, Limit}
use Rattle.mlir_work_transforms.specs.TraceLaws.{TakenDown, joined_lines, untouched_lines}
use Rattle.mlir_work_transforms.specs.FiredLaws.{FiredTaken, joined_fired, names_of, untouched_fired}
use Rattle.mlir_work_transforms.specs.declared.rewrite_lines.RewriteLines.{RewriteLines}
use Rattle.mlir_work_transforms.specs.declared.trace_form.TraceForm.{TraceForm}
use Rattle.mlir_work_transforms.specs.declared.trace_form.TraceForm.TheVariants.{Counts, EachRewrite, Off}

-- what a tracer of this form did with the text for these rewrites
abbrev pub LinesTaken : TraceForm → List AppliedRewrite → RewriteLines → RewriteLines → Type 0
LinesTaken Off fs a b = b.text.items ≡ a.text.items
LinesTaken EachRewrite fs a b = TakenDown fs a.text.items (names_of a) b.text.items (names_of b)
LinesTaken Counts fs a b = FiredTaken fs a b

-- these rewrites were recorded between two states
pub record Taken (fs : List AppliedRewrite) (a b : RewriteLines) : Type 0 where
  pub form : b.form ≡ a.form
  pub lines : LinesTaken a.form fs a b

pub untouched_taken : (t : RewriteLines) → Taken [] t t
untouched_taken t = record { form = refl; lines = go t.form }
  where
    go : (form : TraceForm) → LinesTaken form [] t t
    go Off = refl
    go EachRewrite = untouched_lines t.text.items (names_of t)
    go Counts = untouched_fired t

pub joined_taken : (fs gs : List AppliedRewrite) (a b d : RewriteLines) → Taken fs a b → Taken gs b d → Taken (fs ++ gs) a d
joined_taken fs gs a b d f g = record { form = g.form ∙ f.form; lines = go a.form f.lines (subst (λ (form : TraceForm). LinesTaken form gs b d) f.form g.lines) }
  where
    go : (form : TraceForm) → LinesTaken form fs a b → LinesTaken form gs b d → LinesTaken form (fs ++ gs) a d
    go Off h k = k ∙ h
    go EachRewrite h k = joined_lines fs gs a.text.items b.text.items d.text.items (names_of a) (names_of b) (names_of d) h k
    go Counts h k = joined_fired fs gs a b d h k

-- the text after a run: the counts are removed unless the run stopped by its limit
abbrev pub ended_text : TraceForm → Result Outcome Refusal → ℕ → List ℕ → List ℕ
ended_text Off called shown text = text
ended_text EachRewrite called shown text = text
ended_text Counts (Ok (Limit k)) shown text = text
ended_text Counts (Ok (Converged k)) shown text = take shown text
ended_text Counts (Err e) shown text = text
