-- Concatenation of traces.
use Rattle.std.specs.Prelude.{◌≡◌, ℕ, ◌++◌, List, [], ◌∷◌}
use Rattle.std.proofs.Common.{refl, ap, sym, ◌∙◌, append-nil, append_assoc}
use Rattle.greedy.specs.declared.applied_rewrite.AppliedRewrite.{AppliedRewrite}
use Rattle.mlir_work_transforms.specs.TraceText.{applied_line, trace_text}

pub trace_joined : (names : List (List ℕ)) (fs gs : List AppliedRewrite) → trace_text names (fs ++ gs) ≡ trace_text names fs ++ trace_text names gs
trace_joined names [] gs = refl
trace_joined names (f ∷ fs) gs =
    ap (λ l. applied_line names f ++ l) (trace_joined names fs gs) ∙ sym (append_assoc (applied_line names f) (trace_text names fs) (trace_text names gs))

-- the lines of these rewrites were appended under these names
abbrev pub TakenDown : List AppliedRewrite → List ℕ → List (List ℕ) → List ℕ → List (List ℕ) → Type 0
TakenDown fs old names new others = (new ≡ old ++ trace_text names fs) × (others ≡ names)

pub untouched_lines : (xs : List ℕ) (names : List (List ℕ)) → TakenDown [] xs names xs names
untouched_lines xs names = (sym (append-nil xs), refl)

pub joined_lines : (fs gs : List AppliedRewrite) (xs ys zs : List ℕ) (names others lasts : List (List ℕ)) → TakenDown fs xs names ys others → TakenDown gs ys others zs lasts
    → TakenDown (fs ++ gs) xs names zs lasts
joined_lines fs gs xs ys zs names others lasts f g = (
  g.0 ∙ ap (λ ns. ys ++ trace_text ns gs) f.1 ∙ ap (λ l. l ++ trace_text names gs) f.0 ∙ append_assoc xs (trace_text names fs) (trace_text names gs)
      ∙ ap (λ l. xs ++ l) (sym (trace_joined names fs gs)),
  g.1 ∙ f.1,
)
