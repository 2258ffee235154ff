-- The eligibility of an operation, from the verifier's verdict.
use Rattle.std.proofs.Common.{◌≡◌, refl, sym, ◌∙◌, subst, ℕ, List, [], ◌∷◌, Bool, true, false, ◌&&◌, Option, Some, None, option_map}
use Rattle.std.proofs.lemmas.Bool.{and_right}
use Rattle.std.specs.Prelude.{if◌then◌else◌}
use Rattle.ir_event.specs.trees.Meaning.{Operation}
use Rattle.patterns_base.specs.Diagnostics.{broken_at, reported_at}
use Rattle.patterns_base.specs.verify.declared.verdict.Verdict.{Verdict}
use Rattle.patterns_base.specs.verify.declared.verdict.Verdict.TheVariants.{Valid, Unlisted, Invalid}
use Rattle.patterns_base.specs.verify.Verdicts.{verdict_at, verdict_by, verdict_in}
use Rattle.patterns_base.specs.verify.Breaks.{broken}
use Rattle.patterns_base.specs.verify.Beyond.{reported}
use Rattle.ir_verify_base.specs.Fits.{Surroundings}
use Rattle.ir_verify_base.specs.Surroundings.{surroundings}
use Rattle.patterns_base.specs.Looks.{Header, breaks_none, has_own_properties, is_verified, is_in_order}
use Rattle.patterns_base.specs.Rewrites.{eligible}
use Rattle.patterns_base.specs.RuleNames.{is_erasing}
use Rattle.patterns_base.specs.declared.rule.Rule.{Rule}
use Rattle.patterns_base.proofs.Facts.{verified_eligible, eligible_is, unsuited}
use Rattle.patterns_matchers.specs.Suited.{IsVerdict, IsVerdictOf}

verified_is : (t : Operation) (h : Header) → is_verified t h ≡ (breaks_none (broken_at h.id t) && has_own_properties h)
unfolding is_verified
verified_is t h = refl

in_order_is : (t : Operation) (h : Header) → is_in_order t h ≡ (breaks_none (reported_at h.id t) && has_own_properties h)
unfolding is_in_order
in_order_is t h = refl

-- the verdict is correct
by_rules : (bs rs : List ℕ) → IsVerdict (Some bs) (Some rs) (verdict_by bs rs)
by_rules [] rs = refl
by_rules (b ∷ bs) [] = (refl, refl)
by_rules (b ∷ bs) (r ∷ rs) = refl

pub reported_so : (x : ℕ) (t : Operation) (v : Verdict) → verdict_at x t ≡ Some v → IsVerdictOf x t v
reported_so x t v e = go (surroundings x t) e
  where
    go : (s : Option Surroundings) → option_map verdict_in s ≡ Some v → IsVerdict (option_map broken s) (option_map reported s) v
    go None e = absurd cc
    go (Some s) e = let one : verdict_in s ≡ v = cc in subst (IsVerdict (Some (broken s)) (Some (reported s))) one (by_rules (broken s) (reported s))

module _ (t : Operation) (h : Header) (own : has_own_properties h ≡ true) where
  pub all_right : breaks_none (broken_at h.id t) ≡ true → is_verified t h ≡ true
  all_right e = verified_is t h ∙ (λ i. e i && own i)

  pub only_in_order : breaks_none (broken_at h.id t) ≡ false → breaks_none (reported_at h.id t) ≡ true → (is_verified t h ≡ false) × (is_in_order t h ≡ true)
  only_in_order e f = (verified_is t h ∙ (λ i. e i && own i), in_order_is t h ∙ (λ i. f i && own i))

  pub reported_of : breaks_none (reported_at h.id t) ≡ false → is_in_order t h ≡ false
  reported_of e = in_order_is t h ∙ (λ i. e i && own i)

-- a property that isn't inherent
pub unfit : (t : Operation) (h : Header) → has_own_properties h ≡ false → is_in_order t h ≡ false
unfit t h e = in_order_is t h ∙ and_right (breaks_none (reported_at h.id t)) (has_own_properties h) e

module _ (r : Rule) (t : Operation) (h : Header) where
  pub eligible_any : is_verified t h ≡ true → true ≡ eligible r t h
  eligible_any e = sym (verified_eligible r t h e)

  pub eligible_erasing : is_verified t h ≡ false → is_in_order t h ≡ true → is_erasing r ≡ eligible r t h
  eligible_erasing e f = go (is_erasing r) ∙ sym (eligible_is r t h)
    where
      go : (b : Bool) → b ≡ (if b then is_in_order t h else is_verified t h)
      go true = sym f
      go false = sym e

  pub eligible_none : is_in_order t h ≡ false → false ≡ eligible r t h
  eligible_none e = sym (unsuited r t h e)
