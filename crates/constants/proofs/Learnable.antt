-- The facts of the second phase in the forms that the code needs.
use Rattle.std.proofs.Common.{◌≡◌, ℕ, List, [], ◌∷◌, ◌++◌, Bool, true, false, true≢false, Option, Some, None, inl, inr, refl, sym, ap, ◌∙◌, cond}
use Rattle.std.specs.Bool.{OnTrue}
use Rattle.dialects_int.specs.Folds.{Known}
use Rattle.constants.specs.Facts.{Header, Facts, value}
use Rattle.constants.specs.Walk.{with_fact}
use Rattle.constants.specs.Phases.{Noted, Learnt}
use Rattle.constants.proofs.Walks.{not_both}
use Rattle.constants.proofs.Learns.{learnt_nothing}
use Rattle.constants.proofs.Forgetful.{never}

pub on_true_is : (b : Bool) (P : Type 0) → b ≡ true → OnTrue b P → P
on_true_is true P e p = p
on_true_is false P e p = absurd (true≢false (sym e))

pub noted_pushed : (b : Bool) (x : ℕ) (v : Known) (old new : Facts) (l m : List ℕ) → ((y : ℕ) → new y ≡ with_fact x (Some v) old y) → m ≡ cond b (l ++ x ∷ []) l → Noted (b ≡ true) x v old new l m
noted_pushed true x v old new l m is e = inl (is, e)
noted_pushed false x v old new l m is e = inr (never false refl, e, inl is)

pub note_refused : (x : ℕ) (v : Known) (old new : Facts) (l : List ℕ) → ((y : ℕ) → new y ≡ old y) → Noted (false ≡ true) x v old new l l
note_refused x v old new l is = inr (never false refl, refl, inr is)

module _ (ops : ℕ → Option Header) where
  -- an operation with a known value isn't folded
  pub learnt_known : (D : Type 0) (x : ℕ) (v : Known) (t : Facts) (l : List ℕ) → t x ≡ Some v → Learnt D ops (λ y. y ≡ x) t t l l
  learnt_known D x v t l e = learnt_nothing ops D (λ y. y ≡ x) t l (λ d y h k. absurd (not_both (t y) v k (ap t h ∙ e)))

  -- an operation without a fold
  pub learnt_none : (D : Type 0) (x : ℕ) (t : Facts) (l : List ℕ) → value ops t x ≡ None → Learnt D ops (λ y. y ≡ x) t t l l
  learnt_none D x t l e = learnt_nothing ops D (λ y. y ≡ x) t l (λ d y h k. ap (value ops t) h ∙ e)

  -- an operation that wasn't folded because memory ran out
  pub learnt_not : (P : ℕ → Type 0) (t : Facts) (l : List ℕ) → Learnt (false ≡ true) ops P t t l l
  learnt_not P t l = learnt_nothing ops (false ≡ true) P t l (λ d. never false refl d)

  -- more operations were to be folded
  pub learnt_widen : (D F : Type 0) (P R : ℕ → Type 0) (a b : Facts) (l m : List ℕ) → (F → ⊥) → ((y : ℕ) → P y → R y) → Learnt D ops P a b l m → Learnt F ops R a b l m
  learnt_widen D F P R a b l m not_done p f = record {
    more = f.more;
    is = f.is;
    once = f.once;
    only = λ y h. p y (f.only y h);
    was = f.was;
    now = f.now;
    grows = f.grows;
    sound = f.sound;
    kept = λ z. absurd (not_done z);
    settled = λ z. absurd (not_done z);
  }
