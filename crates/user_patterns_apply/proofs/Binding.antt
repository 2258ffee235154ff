-- Bindings at places, mapped from the code to the model.
use Rattle.std.proofs.Common.{◌≡◌, ℕ, ◌≤◌, ◌<◌, refl, ap, sym, ◌∙◌, subst, List, length, get_or, map, Bool, true, false, true≢false, Option, Some, None, slice_get, slice_set}
use Rattle.std.specs.Prelude.{option_map}
use Rattle.std.proofs.lemmas.List.{map-set}
use Rattle.std.proofs.lemmas.Option.{slice_get-map, slice_get-get_or, slice_get_past}
use Rattle.user_patterns_check.specs.Outcomes.{given}
use Rattle.user_patterns_data.specs.Matching.{BoundValues, bound, bound_over, binding_at, when}
use Rattle.user_patterns_apply.specs.Stands.{Stands}

pub stands_yes : {X : Type 0} (r : Option X) (new : X) (b : Bool) → Stands r new b → b ≡ true → r ≡ Some new
stands_yes None new b e f = absurd (true≢false (sym f ∙ e))
stands_yes (Some c) new b e f = ap Some (sym e.1)

pub stands_no : {X : Type 0} (r : Option X) (new : X) (b : Bool) → Stands r new b → b ≡ false → r ≡ None
stands_no None new b e f = refl
stands_no (Some c) new b e f = absurd (true≢false (sym e.0 ∙ f))

module _ {A V : Type 0} (f : A → V) where
  at : (os : List (Option A)) (k : ℕ) (d o : Option A) → k < length os → get_or os k d ≡ o → slice_get (map (option_map f) os) k ≡ Some (option_map f o)
  at os k d o l e = slice_get-map (option_map f) os k ∙ ap (option_map (option_map f)) (slice_get-get_or os k d l ∙ ap Some e)

  past : (os : List (Option A)) (k : ℕ) → length os ≤ k → slice_get (map (option_map f) os) k ≡ None
  past os k l = slice_get-map (option_map f) os k ∙ ap (option_map (option_map f)) (slice_get_past os k l)

  -- reading a place
  pub stands_at : (os : List (Option A)) (k : ℕ) (d o : Option A) → k < length os → get_or os k d ≡ o → option_map f o ≡ binding_at k (map (option_map f) os)
  stands_at os k d o l e = sym (ap (λ s. given s (λ x. x)) (at os k d o l e))

  pub stands_past : (os : List (Option A)) (k : ℕ) → length os ≤ k → None ≡ binding_at k (map (option_map f) os)
  stands_past os k l = sym (ap (λ s. given s (λ x. x)) (past os k l))

  -- binding at a place
  module _ (same : V → V → Bool) (os : List (Option A)) (k : ℕ) (v : V) where
    pub bound_past : (new : BoundValues V) → length os ≤ k → Stands (bound same k v (map (option_map f) os)) new false
    bound_past new l = subst (λ s. Stands (bound_over same s k v (map (option_map f) os)) new false) (sym (past os k l)) refl

    pub bound_there : (d : Option A) (u : A) (r : Bool) → k < length os → get_or os k d ≡ Some u → r ≡ same (f u) v → Stands (bound same k v (map (option_map f) os)) (map (option_map f) os) r
    bound_there d u r l e is = subst (λ s. Stands (bound_over same s k v (map (option_map f) os)) (map (option_map f) os) r) (sym (at os k d (Some u) l e)) (go r is)
      where
        go : (r : Bool) → r ≡ same (f u) v → Stands (when (same (f u) v) (Some (map (option_map f) os))) (map (option_map f) os) r
        go true is = subst (λ z. Stands (when z (Some (map (option_map f) os))) (map (option_map f) os) true) is (refl, refl)
        go false is = subst (λ z. Stands (when z (Some (map (option_map f) os))) (map (option_map f) os) false) is refl

    pub bound_free : (d : Option A) (a : A) → k < length os → get_or os k d ≡ None → f a ≡ v → Stands (bound same k v (map (option_map f) os)) (map (option_map f) (slice_set os k (Some a))) true
    bound_free d a l e is =
        subst (λ s. Stands (bound_over same s k v (map (option_map f) os)) (map (option_map f) (slice_set os k (Some a))) true) (sym (at os k d None l e))
        (refl, map-set (option_map f) os k (Some a) ∙ ap (λ z. slice_set (map (option_map f) os) k (Some z)) is)
