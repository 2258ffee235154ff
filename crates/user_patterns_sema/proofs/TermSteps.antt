-- One step of the analysis of a term.
use Rattle.std.proofs.Common.{◌≡◌, ℕ, suc, ◌-◌, ◌≤◌, Bool, List, [], ◌∷◌, length, Option, None, Ok, refl, ap, ◌∙◌, option_map}
use Rattle.std.proofs.Math.ListN.{get_or}
use Rattle.std.specs.Borrow.{Bor}
use Rattle.user_patterns_text.specs.declared.error.PatternError.{PatternError}
use Rattle.user_patterns_text.specs.declared.error.PatternError.TheVariants as errors
use Rattle.user_patterns_text.specs.declared.parts.PartKind.{PartKind}
use Rattle.user_patterns_text.specs.declared.parts.PartKind.TheVariants as kind
use Rattle.user_patterns_text.specs.declared.parts.Part.{Part as PartCode}
use Rattle.user_patterns_text.specs.Parts.{Placed, bytes_of, kind_view, part_view, views}
use Rattle.user_patterns_text.specs.Refusing.{Fails, Outcome}
use Rattle.user_patterns_sema.specs.declared.state.TermRef.{TermRef}
use Rattle.user_patterns_sema.specs.Sema.{Sema, Places, State, begun, trailing, closed_at, gathered, next_type, operation_at, headroom, term_at, typed_entry, typed_operation, value_at, with_type}
use Rattle.user_patterns_sema.proofs.Steps.{rest, some_more, views_split}

module _ (b : Places) (T : State → Outcome (TermRef × State)) (left : Bool) (at : ℕ) (name : List ℕ) (asks : Option (List ℕ)) (s : State) where
  -- ---- an operation, after its name

  module _ (slot : ℕ) (g : Sema) (xs : List TermRef) (none : xs ≡ []) (first : slot ≡ next_type s.1) (begins : g ≡ begun left (next_type s.1) at (with_type s.1)) where
    pub operation_fails : (e : PatternError) → Fails e (gathered T headroom xs (s.0, g)) → Fails e (operation_at b T left at name asks s)
    unfolding operation_at
    operation_fails errors.Memory h = tt
    operation_fails (errors.Refused r) h = rw (← none, ← begins, h) refl

    module _ (ys zs : List TermRef) (t : State) (found : gathered T headroom xs (s.0, g) ≡ Ok (ys, t)) (same : zs ≡ ys) where
      pub operation_closed : (y : TermRef × Sema) → closed_at b left name asks zs slot at t.1 ≡ Ok y → operation_at b T left at name asks s ≡ Ok (trailing t.0 y)
      unfolding operation_at
      operation_closed y h = rw (← none, ← begins, found, ← same, ← first, h) refl

      pub operation_refused : (e : PatternError) → Fails e (closed_at b left name asks zs slot at t.1) → Fails e (operation_at b T left at name asks s)
      unfolding operation_at
      operation_refused errors.Memory h = tt
      operation_refused (errors.Refused r) h = rw (← none, ← begins, found, ← same, ← first, h) refl

  -- ---- and its type

  pub operation_typed : (x : TermRef × State) → operation_at b T left at name asks s ≡ Ok x → typed_operation b T left at name asks s ≡ typed_entry None x
  unfolding typed_operation
  operation_typed x found = rw found refl

  pub type_fails : (e : PatternError) → Fails e (operation_at b T left at name asks s) → Fails e (typed_operation b T left at name asks s)
  unfolding typed_operation
  type_fails errors.Memory h = tt
  type_fails (errors.Refused r) h = rw h refl

-- ---- a term

module _ (b : Places) (left : Bool) (f : Sema) where
  module _ (n at : ℕ) (k : PartKind) (qs : List Placed) where
    value_here : (w : Bor (List ℕ)) → k ≡ kind.Value w → term_at b left (suc n) ((at, kind_view k) ∷ qs, f) ≡ value_at b left at w.now (qs, f)
    unfolding term_at
    value_here w is = rw is refl

    operation_here : (w : Bor (List ℕ)) (asks : Option (Bor (List ℕ))) → k ≡ kind.Operation w asks
        → term_at b left (suc n) ((at, kind_view k) ∷ qs, f) ≡ typed_operation b (term_at b left n) left at w.now (option_map bytes_of asks) (qs, f)
    unfolding term_at
    operation_here w asks is = rw is refl

  module _ (depth : ℕ) (ps : List PartCode) (d : PartCode) (more : depth ≡ 0 → ⊥) (le : 1 ≤ length ps) where
    whole : term_at b left depth (views ps, f) ≡ term_at b left (suc (depth - 1)) (part_view (get_or ps 0 d) ∷ views (rest ps), f)
    whole = ap (λ n. term_at b left n (views ps, f)) (some_more depth more) ∙ ap (λ (qs : List Placed). term_at b left (suc (depth - 1)) (qs, f)) (views_split d ps le)

    pub value_found : (w : Bor (List ℕ)) → (get_or ps 0 d).kind ≡ kind.Value w
        → term_at b left depth (views ps, f) ≡ value_at b left (get_or ps 0 d).left w.now (views (rest ps), f)
    value_found w is = whole ∙ value_here (depth - 1) (get_or ps 0 d).left (get_or ps 0 d).kind (views (rest ps)) w is

    pub operation_found : (w : Bor (List ℕ)) (asks : Option (Bor (List ℕ))) → (get_or ps 0 d).kind ≡ kind.Operation w asks
        → term_at b left depth (views ps, f)
        ≡ typed_operation b (term_at b left (depth - 1)) left (get_or ps 0 d).left w.now (option_map bytes_of asks) (views (rest ps), f)
    operation_found w asks is = whole ∙ operation_here (depth - 1) (get_or ps 0 d).left (get_or ps 0 d).kind (views (rest ps)) w asks is
