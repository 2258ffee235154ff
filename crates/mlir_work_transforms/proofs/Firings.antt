-- Proofs about the counts of rules and patterns that fired.
use Rattle.std.proofs.Common.{◌≡◌, ◌∙◌, refl, ap, sym, ℕ, zero, suc, ◌+◌, ◌<◌, ◌≤◌, List, [], ◌∷◌, ◌++◌, append-nil, append_assoc, subst, arith, Result, Ok, Err}
use Rattle.std.specs.Prelude.{OnOk, drop, length, take}
use Rattle.std.proofs.lemmas.List.{drop_all, take_all, take_at}
use Rattle.ir_event.specs.types.declared.refusal.Refusal.{Refusal}
use Rattle.conversion.specs.rewriter.Commands.{Replied}
use Rattle.greedy.specs.Changes.{canonical_reply}
use Rattle.greedy.specs.declared.applied_rewrite.AppliedPattern.{AppliedPattern}
use Rattle.greedy.specs.declared.applied_rewrite.AppliedRewrite.{AppliedRewrite}
use Rattle.greedy.specs.declared.outcome.Outcome.{Outcome}
use Rattle.greedy.specs.declared.outcome.Outcome.TheVariants.{Converged, Limit}
use Rattle.mlir_work_transforms.specs.FiredText.{FirstMatching, applied_by, fired_after, fired_below, fired_line, fired_of, fired_text, first_of}
use Rattle.mlir_work_transforms.specs.FiredLaws.{FiredTaken, IsCurrent, IsFresh, names_of}
use Rattle.mlir_work_transforms.specs.LineLaws.{LinesTaken, Taken, ended_text}
use Rattle.mlir_work_transforms.specs.TraceText.{applied_line}
use Rattle.mlir_work_transforms.specs.Transforming.{lines_below}
use Rattle.mlir_work_transforms.specs.declared.rewrite_lines.RewriteLines.{RewriteLines}
use Rattle.mlir_work_transforms.specs.declared.trace_form.TraceForm.{TraceForm}
use Rattle.mlir_work_transforms.specs.declared.trace_form.TraceForm.TheVariants.{Counts, EachRewrite, Off}

-- ---- the loop over a list

fired_text_joined : (names : List (List ℕ)) (fs gs : List FirstMatching) → fired_text names (fs ++ gs) ≡ fired_text names fs ++ fired_text names gs
fired_text_joined names [] gs = refl
fired_text_joined names (f ∷ fs) gs =
    ap (λ (l : List ℕ). fired_line names f ++ l) (fired_text_joined names fs gs) ∙ sym (append_assoc (fired_line names f) (fired_text names fs) (fired_text names gs))

-- the counts of a list from an index on: that of the entry there, and those from the next index on
fired_split : (before bs : List AppliedPattern) (i : ℕ) → i < length bs
    → fired_after (before ++ take i bs) (drop i bs) ≡ first_of (before ++ take i bs) (drop i bs) ++ fired_after (before ++ take (suc i) bs) (drop (suc i) bs)
fired_split before [] i l = absurd (omega (arith, l))
fired_split before (b ∷ bs) zero l =
    ap (λ (xs : List AppliedPattern). first_of (before ++ []) (b ∷ bs) ++ fired_after (xs ++ b ∷ []) bs) (append-nil before)
fired_split before (b ∷ bs) (suc i) l =
    let here : (before ++ b ∷ []) ++ take i bs ≡ before ++ b ∷ take i bs = append_assoc before (b ∷ []) (take i bs) in
    let next : (before ++ b ∷ []) ++ take (suc i) bs ≡ before ++ b ∷ take (suc i) bs = append_assoc before (b ∷ []) (take (suc i) bs) in
    ap (λ (xs : List AppliedPattern). fired_after xs (drop i bs)) (sym here)
    ∙ fired_split (before ++ b ∷ []) bs i (omega (arith, l))
    ∙ ap (λ (xs : List AppliedPattern). first_of xs (drop i bs) ++ fired_after ((before ++ b ∷ []) ++ take (suc i) bs) (drop (suc i) bs)) here
    ∙ ap (λ (xs : List AppliedPattern). first_of (before ++ b ∷ take i bs) (drop i bs) ++ fired_after xs (drop (suc i) bs)) next

-- a step of the loop
pub firings_step : (names : List (List ℕ)) (bs : List AppliedPattern) (i : ℕ) (text next whole : List ℕ) → i < length bs → next ≡ text ++ fired_text names (first_of (take i bs) (drop i bs))
    → text ++ fired_text names (fired_after (take i bs) (drop i bs)) ≡ whole → next ++ fired_text names (fired_after (take (i + 1) bs) (drop (i + 1) bs)) ≡ whole
firings_step names bs i text next whole l is so_far =
    let more : i + 1 ≡ suc i = omega arith in
    let first = first_of (take i bs) (drop i bs) in
    let rest = fired_after (take (suc i) bs) (drop (suc i) bs) in
    ap (λ (k : ℕ). next ++ fired_text names (fired_after (take k bs) (drop k bs))) more
    ∙ ap (λ (l : List ℕ). l ++ fired_text names rest) is
    ∙ append_assoc text (fired_text names first) (fired_text names rest)
    ∙ ap (λ (l : List ℕ). text ++ l) (sym (fired_text_joined names first rest))
    ∙ ap (λ (fs : List FirstMatching). text ++ fired_text names fs) (sym (fired_split [] bs i l))
    ∙ so_far

-- the end of the loop
pub firings_end : (names : List (List ℕ)) (bs : List AppliedPattern) (i : ℕ) (text whole : List ℕ) → length bs ≤ i → text ++ fired_text names (fired_after (take i bs) (drop i bs)) ≡ whole → text ≡ whole
firings_end names bs i text whole l so_far =
    sym (ap (λ (rest : List AppliedPattern). text ++ fired_text names (fired_after (take i bs) rest)) (drop_all i bs l) ∙ append-nil text) ∙ so_far

-- ---- the tracer

-- a recorded rewrite before the last one that the limit allows
pub fired_before_limit : (a b : RewriteLines) (f : AppliedRewrite) → b.applied.items ≡ a.applied.items ++ f.by ∷ [] → names_of b ≡ names_of a → b.limit ≡ a.limit → b.shown ≡ a.shown → b.text.items ≡ a.text.items → (length b.applied.items ≡ b.limit → ⊥) → FiredTaken (f ∷ []) a b
fired_before_limit a b f applied names limit shown text before = record {
  applied = applied;
  names = names;
  limit = limit;
  current = λ lines h. record {
    shown = shown ∙ h.shown;
    begins = (λ i. take (shown i) (text i)) ∙ h.begins;
    text = λ last. absurd (before last);
  };
}

-- the last rewrite that the limit allows: the counts are written after the lines of others
pub fired_at_limit : (a b : RewriteLines) (f : AppliedRewrite) (cut : List ℕ) → b.applied.items ≡ a.applied.items ++ f.by ∷ [] → names_of b ≡ names_of a → b.limit ≡ a.limit → b.shown ≡ a.shown → cut ≡ take a.shown a.text.items
    → b.text.items ≡ cut ++ fired_text (names_of b) (fired_of b.applied.items) → FiredTaken (f ∷ []) a b
fired_at_limit a b f cut applied names limit shown cuts text = record {
  applied = applied;
  names = names;
  limit = limit;
  current = λ lines h.
      let counts = fired_text (names_of b) (fired_of b.applied.items) in
      let whole : b.text.items ≡ lines ++ counts = text ∙ ap (λ (l : List ℕ). l ++ counts) (cuts ∙ h.begins) in
      let end : b.shown ≡ length lines = shown ∙ h.shown in
      record {
        shown = end;
        begins = (λ i. take (end i) (whole i)) ∙ take_at lines counts (length lines) refl;
        text = λ last. whole;
      };
}

-- a tracer without counts is current: a limit of no rewrites leaves no counts
fresh_current : (t : RewriteLines) → IsFresh t → IsCurrent t.text.items t
fresh_current t fresh = record {
  shown = fresh.shown;
  begins = ap (λ (n : ℕ). take n t.text.items) fresh.shown ∙ take_all (length t.text.items) t.text.items (omega arith);
  text = λ last. sym (ap (λ (bs : List AppliedPattern). t.text.items ++ fired_text (names_of t) (fired_of bs)) fresh.applied ∙ append-nil t.text.items);
}

-- the text after a counting run from a tracer without counts
fired_reported : (called : Result Outcome Refusal) (fs : List AppliedRewrite) (a b : RewriteLines) (text : List ℕ) → IsFresh a → ((k : ℕ) → called ≡ Ok (Limit k) → length fs ≡ a.limit) → OnOk called (FiredTaken fs a b) → text ≡ ended_text Counts called b.shown b.text.items
    → OnOk called (text ≡ a.text.items ++ fired_below (Replied (canonical_reply called)) (names_of a) fs)
fired_reported (Ok (Limit k)) fs a b text fresh whole taken is =
    let now = taken.current a.text.items (fresh_current a fresh) in
    let recorded : b.applied.items ≡ applied_by fs = taken.applied ∙ ap (λ (bs : List AppliedPattern). bs ++ applied_by fs) fresh.applied in
    let last : length b.applied.items ≡ b.limit = ap length recorded ∙ applied_length fs ∙ whole k refl ∙ sym taken.limit in
    is ∙ now.text last
    ∙ ap (λ (ns : List (List ℕ)). a.text.items ++ fired_text ns (fired_of b.applied.items)) taken.names
    ∙ ap (λ (bs : List AppliedPattern). a.text.items ++ fired_text (names_of a) (fired_of bs)) recorded
  where
    applied_length : (fs : List AppliedRewrite) → length (applied_by fs) ≡ length fs
    applied_length [] = refl
    applied_length (f ∷ fs) = ap suc (applied_length fs)
fired_reported (Ok (Converged k)) fs a b text fresh whole taken is =
    is ∙ (taken.current a.text.items (fresh_current a fresh)).begins ∙ sym (append-nil a.text.items)
fired_reported (Err e) fs a b text fresh whole taken is = taken

-- ---- all forms

-- a recorded rewrite, by the form
pub taken_off : (fs : List AppliedRewrite) (a b : RewriteLines) → a.form ≡ Off → b.form ≡ a.form → b.text.items ≡ a.text.items → Taken fs a b
taken_off fs a b is form text = record { form = form; lines = subst (λ (f : TraceForm). LinesTaken f fs a b) (sym is) text }

pub taken_each : {A E : Type 0} (r : Result A E) (f : AppliedRewrite) (a b : RewriteLines) → a.form ≡ EachRewrite → b.form ≡ a.form → names_of b ≡ names_of a → OnOk r (b.text.items ≡ a.text.items ++ applied_line (names_of a) f) → OnOk r (Taken (f ∷ []) a b)
taken_each (Ok x) f a b is form names text = record {
  form = form;
  lines = subst (λ (form : TraceForm). LinesTaken form (f ∷ []) a b) (sym is) (text ∙ ap (λ (l : List ℕ). a.text.items ++ l) (sym (append-nil (applied_line (names_of a) f))), names);
}
taken_each (Err e) f a b is form names text = text

pub taken_counts : {A E : Type 0} (r : Result A E) (fs : List AppliedRewrite) (a b : RewriteLines) → a.form ≡ Counts → b.form ≡ a.form → OnOk r (FiredTaken fs a b) → OnOk r (Taken fs a b)
taken_counts (Ok x) fs a b is form taken = record { form = form; lines = subst (λ (f : TraceForm). LinesTaken f fs a b) (sym is) taken }
taken_counts (Err e) fs a b is form taken = taken

-- the text after a run from a tracer without counts
pub lines_reported : (called : Result Outcome Refusal) (fs : List AppliedRewrite) (a b : RewriteLines) (text : List ℕ) → IsFresh a → ((k : ℕ) → called ≡ Ok (Limit k) → length fs ≡ a.limit) → OnOk called (Taken fs a b) → text ≡ ended_text b.form called b.shown b.text.items
    → OnOk called (text ≡ a.text.items ++ lines_below a.form (Replied (canonical_reply called)) (names_of a) fs)
lines_reported (Err e) fs a b text fresh whole taken is = taken
lines_reported (Ok o) fs a b text fresh whole taken is = go a.form refl taken.lines
  where
    by_form : (form : TraceForm) → a.form ≡ form → text ≡ ended_text form (Ok o) b.shown b.text.items
    by_form form e = is ∙ ap (λ (f : TraceForm). ended_text f (Ok o) b.shown b.text.items) (taken.form ∙ e)

    go : (form : TraceForm) → a.form ≡ form → LinesTaken form fs a b → text ≡ a.text.items ++ lines_below form (Replied (canonical_reply (Ok o))) (names_of a) fs
    go Off e h = by_form Off e ∙ h ∙ sym (append-nil a.text.items)
    go EachRewrite e h = by_form EachRewrite e ∙ h.0
    go Counts e h = fired_reported (Ok o) fs a b text fresh whole h (by_form Counts e)
