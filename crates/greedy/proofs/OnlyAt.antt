-- Pattern sets that are tried at one operation only.
use Rattle.std.proofs.Common.{◌≡◌, refl, ap, sym, ◌∙◌, ℕ, Bool, true, false, true≢false, ◌||◌, cond, eqb, eqb-true, inl, inr, List, [], ◌∷◌, Option, Some, None, Result, Ok, Err}
use Rattle.std.specs.Prelude.{IfOk, is_some, ⊤}
use Rattle.std.proofs.lemmas.Bool.{cases_Bool}
use Rattle.ir_event.specs.trees.Ids.{has_id, ids}
use Rattle.ir_event.specs.trees.Tree.{head}
use Rattle.ir_event.specs.Modules.{Module}
use Rattle.ir_event.specs.types.declared.refusal.Refusal.{Refusal}
use Rattle.patterns_base.specs.Rewrites.{Rewrite, none, refused, becomes}
use Rattle.patterns_base.specs.Canonicalization.{or_else}
use Rattle.greedy.specs.Applications.{IsLawful}
use Rattle.greedy.specs.LocalContext.{is_listed}
use Rattle.greedy.specs.PatternSet.{PatternSetModel, only_at}
use Rattle.greedy.specs.Rewriting.{first_by, next_by}
use Rattle.greedy.specs.Tracing.{applied_next, applied_rewrite, site_by, site_of, site_or, trace_step}
use Rattle.greedy.specs.declared.applied_rewrite.AppliedPattern.{AppliedPattern}
use Rattle.greedy.specs.declared.applied_rewrite.AppliedRewrite.{AppliedRewrite}
use Rattle.greedy.proofs.Listed.{listed_past}
use Rattle.greedy.proofs.Scans.{becomes_none, refused_none}

-- a rewrite or another one that is the same, or none
same_else : (w : Rewrite) (b : Bool) → or_else w (cond b w none) ≡ w
same_else none true = refl
same_else none false = refl
same_else (refused e) b = refl
same_else (becomes p) b = refl

-- a run at one operation needs no worklist
pub none_needed : (r : Result (Option AppliedRewrite) Refusal) → IfOk r (λ f. is_some f ≡ true → ⊤)
none_needed (Ok f) = λ e. tt
none_needed (Err e) = tt

module _ (x : ℕ) (a : PatternSetModel) where
  pub only_lawful : IsLawful a → IsLawful (only_at x a)
  only_lawful l = record {
    away = λ m n y s e. elim (cases_Bool (eqb y x)) [
      | inl t ↦ ap (λ b. cond b (a.comes n y) none) t ∙ l.away m n y s (sym (ap (λ b. cond b (a.comes m y) none) t) ∙ e)
      | inr f ↦ ap (λ b. cond b (a.comes n y) none) f
    ];
    orderly = λ m d below y n e. elim (cases_Bool (eqb y x)) [
      | inl t ↦ l.orderly m d below y n (sym (ap (λ b. cond b (a.comes m y) none) t) ∙ e)
      | inr f ↦ absurd (becomes_none n (sym e ∙ ap (λ b. cond b (a.comes m y) none) f))
    ];
    root = λ m d. elim (cases_Bool (eqb (head m.tree).id x)) [
      | inl t ↦ ap (λ b. cond b (a.comes m (head m.tree).id) none) t ∙ l.root m d
      | inr f ↦ ap (λ b. cond b (a.comes m (head m.tree).id) none) f
    ];
    counts = λ m y e h. elim (cases_Bool (eqb y x)) [
      | inl t ↦ l.counts m y e (sym (ap (λ b. cond b (a.comes m y) none) t) ∙ h)
      | inr f ↦ absurd (refused_none e (sym h ∙ ap (λ b. cond b (a.comes m y) none) f))
    ];
    applied = λ m y. elim (cases_Bool (eqb y x)) [
      | inl t ↦ (
        λ e. ap (λ b. cond b (a.fires m y) None) t ∙ (l.applied m y).0 (sym (ap (λ b. cond b (a.comes m y) none) t) ∙ e),
        λ e. ap (λ b. cond b (a.comes m y) none) t ∙ (l.applied m y).1 (sym (ap (λ b. cond b (a.fires m y) None) t) ∙ e),
      )
      | inr f ↦ (λ e. ap (λ b. cond b (a.fires m y) None) f, λ e. ap (λ b. cond b (a.comes m y) none) f)
    ];
  }

  module _ (m : Module) where
    -- ---- the next rewrite
    first_at : (xs : List ℕ) → first_by (only_at x a) xs m ≡ cond (is_listed x xs) (a.comes m x) none
    unfolding first_by
    first_at [] = refl
    first_at (y ∷ ys) = elim (cases_Bool (eqb y x)) [
      | inl t ↦
          ap (λ b. or_else (cond b (a.comes m y) none) (first_by (only_at x a) ys m)) t
          ∙ ap (λ z. or_else (a.comes m z) (first_by (only_at x a) ys m)) (eqb-true y x t)
          ∙ ap (or_else (a.comes m x)) (first_at ys)
          ∙ same_else (a.comes m x) (is_listed x ys)
          ∙ sym (ap (λ b. cond (b || is_listed x ys) (a.comes m x) none) t)
      | inr f ↦
          ap (λ b. or_else (cond b (a.comes m y) none) (first_by (only_at x a) ys m)) f
          ∙ first_at ys
          ∙ sym (ap (λ b. cond (b || is_listed x ys) (a.comes m x) none) f)
    ]

    pub next_there : has_id x m.tree ≡ true → next_by (only_at x a) m ≡ a.comes m x
    next_there e = first_at (ids m.tree) ∙ ap (λ b. cond b (a.comes m x) none) e

    pub next_gone : has_id x m.tree ≡ false → next_by (only_at x a) m ≡ none
    next_gone e = first_at (ids m.tree) ∙ ap (λ b. cond b (a.comes m x) none) e

    -- ---- its record
    site_only : (r : AppliedPattern) → a.fires m x ≡ Some r → (xs : List ℕ) → is_listed x xs ≡ true → site_by (only_at x a) xs m ≡ Some (r, x)
    unfolding site_by
    site_only r f [] i = absurd (true≢false (sym i))
    site_only r f (y ∷ ys) i = elim (cases_Bool (eqb y x)) [
      | inl t ↦
          ap (λ b. site_or (cond b (a.fires m y) None) y (site_by (only_at x a) ys m)) t
          ∙ ap (λ z. site_or (a.fires m z) z (site_by (only_at x a) ys m)) (eqb-true y x t)
          ∙ ap (λ o. site_or o x (site_by (only_at x a) ys m)) f
      | inr e ↦
          ap (λ b. site_or (cond b (a.fires m y) None) y (site_by (only_at x a) ys m)) e
          ∙ site_only r f ys (listed_past y x ys e i)
    ]

    pub recorded_there : has_id x m.tree ≡ true → (r : AppliedPattern) (n : Module) → a.fires m x ≡ Some r → a.comes m x ≡ becomes n → applied_next (only_at x a) m ≡ Some (applied_rewrite r x m n)
    recorded_there e r n f b =
        ap (λ w. trace_step w (site_of (only_at x a) m) m) (next_there e ∙ b)
        ∙ ap (λ s. trace_step (becomes n) s m) (site_only r f (ids m.tree) e)

    pub recorded_none : next_by (only_at x a) m ≡ none → applied_next (only_at x a) m ≡ None
    recorded_none e = ap (λ w. trace_step w (site_of (only_at x a) m) m) e
