-- Canonicalization of one operation.
use Rattle.std.proofs.Common.{◌≡◌, refl, ap, sym, ◌∙◌, subst, ℕ, inl, inr, true, false, cond, true≢false, Result, Ok, Err}
use Rattle.std.specs.Prelude.{IfErr, IfOk}
use Rattle.ir_event.specs.types.declared.refusal.Refusal.{Refusal}
use Rattle.ir_event.specs.types.declared.refusal.Refusal.TheVariants.{BadLimit, NoSuchOp}
use Rattle.ir_event.specs.trees.Ids.{has_id}
use Rattle.ir_event.specs.Modules.{Module}
use Rattle.conversion.specs.patterns.Canonicalization.{Canonical, aborted, greedy_rules}
use Rattle.greedy.specs.Outcomes.{IsReasonBy, IsReasonFor, IsRewriting, is_limit}
use Rattle.greedy.specs.PatternSet.{PatternSetModel, by_rules, only_at}
use Rattle.greedy.specs.Rewriting.{rewriting_of, rewritten_from}
use Rattle.greedy.specs.declared.outcome.Outcome.{Outcome}
use Rattle.mlir_work_transforms.specs.At.{canonical_at, canonicalization_at}
use Rattle.mlir_work_transforms.specs.AtRuns.{IsCanonicalAt, IsReasonAt}

module _ (x : ℕ) where
  abbrev set : PatternSetModel
  set = only_at x (by_rules greedy_rules)

  pub no_limit : (limit : ℕ) (m : Module) → is_limit limit ≡ false → canonicalization_at limit x m ≡ aborted BadLimit
  unfolding canonicalization_at
  no_limit limit m e = ap (λ b. cond b (canonical_at limit x m) (aborted BadLimit)) e

  pub limit_reason : (limit : ℕ) (m : Module) (full : Type 0) → is_limit limit ≡ false → IsReasonAt limit x m full BadLimit
  limit_reason limit m full f = record { limited = (λ h. f, λ h. refl); others = λ t. absurd (true≢false (sym t ∙ f)) }

  module _ (limit : ℕ) (m : Module) (fits : is_limit limit ≡ true) where
    from_limit : canonicalization_at limit x m ≡ canonical_at limit x m
    unfolding canonicalization_at
    from_limit = ap (λ b. cond b (canonical_at limit x m) (aborted BadLimit)) fits

    -- a missing operation is refused with `NoSuchOp`
    pub absent_reason : (full : Type 0) → has_id x m.tree ≡ false → IsReasonAt limit x m full NoSuchOp
    absent_reason full gone = record {
      limited = (λ h. (let k : NoSuchOp ≡ BadLimit = h in absurd cc), λ f. absurd (true≢false (sym fits ∙ f)));
      others = λ k. inr (inl (from_limit ∙ ap (λ b. cond b (rewritten_from set limit 0 m) (aborted NoSuchOp)) gone));
    }

    module _ (there : has_id x m.tree ≡ true) where
      -- canonicalization of an operation of the module is rewriting there
      pub rewrites_there : canonicalization_at limit x m ≡ rewriting_of set limit m
      unfolding rewriting_of
      rewrites_there =
          from_limit
          ∙ ap (λ b. cond b (rewritten_from set limit 0 m) (aborted NoSuchOp)) there
          ∙ sym (ap (λ b. cond b (rewritten_from set limit 0 m) (aborted BadLimit)) fits)

      pub ok_there : (n : Module) (r : Result Outcome Refusal) → IfOk r (λ o. IsRewriting set limit m o n) → IfOk r (λ o. IsCanonicalAt limit x m o n)
      ok_there n (Ok o) h = rewrites_there ∙ h
      ok_there n (Err e) h = h

      pub refused_there : (full : Type 0) (r : Result Outcome Refusal) → IfErr r (λ e. IsReasonBy set limit m full e) → IfErr r (λ e. IsReasonAt limit x m full e)
      refused_there full (Ok o) h = h
      refused_there full (Err e) h = subst (λ (due : Canonical). IsReasonFor due limit full e) (sym rewrites_there) h
