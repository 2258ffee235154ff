-- The bindings of places, and the source of each bound value.
use Rattle.std.proofs.Common.{◌≡◌, ℕ, ◌+◌, ◌<◌, refl, ap, sym, ◌∙◌, subst, List, [], ◌∷◌, length, Bool, true, false, true≢false, ◌||◌, eqb, eqb-true, eq-eqb, map, Option, Some, None, slice_get, slice_set, get_or, inl, inr, ◌⊎◌, arith, get_or-set_other, get_or-set_same}
use Rattle.std.specs.Prelude.{is_some, option_map}
use Rattle.std.specs.List.{list_any, range_with_len}
use Rattle.std.proofs.lemmas.Bool.{cases_eq, cases_lt, or_cases}
use Rattle.std.proofs.lemmas.List.{length-set}
use Rattle.std.proofs.lemmas.Option.{slice_get_within, slice_get-get_or, slice_get_past, slice_get-map, get_or_from_slice_get, none-some, same_Some}
use Rattle.ir_tree.specs.declared.value.Value.{Value}
use Rattle.ir_tree.specs.Uses.{same_value}
use Rattle.ir_tree.proofs.Replaced.{same_value_true}
use Rattle.ir_tree_laws.specs.Members.{In}
use Rattle.user_patterns_check.specs.Outcomes.{given}
use Rattle.patterns_laws.proofs.KnownFolds.{given_some}
use Rattle.user_patterns_data.specs.Matching.{BoundValues, all_bound, bound, bound_over, nothing, binding_at, when}
use Rattle.user_patterns_data.proofs.BoundValues.{all_keep}

pub when_some : {X : Type 0} (b : Bool) (r : Option X) (x : X) → when b r ≡ Some x → (b ≡ true) × (r ≡ Some x)
when_some true r x e = (refl, e)
when_some false r x e = absurd (none-some x e)

-- value v is bound at place k
abbrev pub Stands : {V : Type 0} → ℕ → V → BoundValues V → Type 0
Stands k v b = slice_get b k ≡ Some (Some v)

pub stands_standing : {V : Type 0} (k : ℕ) (v : V) (b : BoundValues V) → Stands k v b → binding_at k b ≡ Some v
stands_standing k v b e = ap (λ s. given s (λ x. x)) e

pub standing_stands : {V : Type 0} (k : ℕ) (v : V) (b : BoundValues V) → binding_at k b ≡ Some v → Stands k v b
standing_stands {V} k v b e = go (slice_get b k) refl e
  where
    go : (s : Option (Option V)) → slice_get b k ≡ s → given s (λ x. x) ≡ Some v → Stands k v b
    go None i e = absurd (none-some v e)
    go (Some o) i e = i ∙ ap Some e

pub one_stands : {V : Type 0} (k : ℕ) (v w : V) (b : BoundValues V) → Stands k v b → Stands k w b → v ≡ w
one_stands k v w b e f = same_Some _ _ (same_Some _ _ (sym e ∙ f))

-- no place is bound at first
pub nothing_stands : {V : Type 0} (n k : ℕ) (v : V) → Stands k v (nothing n) → ⊥
nothing_stands {V} n k v e = go (slice_get (range_with_len 0 n) k) (sym (slice_get-map (λ i. None) (range_with_len 0 n) k) ∙ e)
  where
    go : (s : Option ℕ) → option_map (λ i. None) s ≡ Some (Some v) → ⊥
    go None e = none-some (Some v) e
    go (Some i) e = none-some v (same_Some _ _ e)

-- ---- a written place
module _ {V : Type 0} where
  pub other_set : (b : BoundValues V) (k j : ℕ) (x : Option V) → (j ≡ k → ⊥) → slice_get (slice_set b k x) j ≡ slice_get b j
  other_set b k j x n = elim (cases_lt j (length b)) [
    | inl l ↦
        slice_get-get_or (slice_set b k x) j None (omega (arith, l, length-set b k x)) ∙ ap (λ r. Some r) (get_or-set_other b k j x None n) ∙ sym (slice_get-get_or b j None l)
    | inr l ↦ slice_get_past (slice_set b k x) j (omega (arith, l, length-set b k x)) ∙ sym (slice_get_past b j l)
  ]

  pub same_set : (b : BoundValues V) (k : ℕ) (x z : Option V) → slice_get b k ≡ Some z → slice_get (slice_set b k x) k ≡ Some x
  same_set b k x z e =
      let l = slice_get_within b k z e in
      slice_get-get_or (slice_set b k x) k None (omega (arith, l, length-set b k x)) ∙ ap (λ r. Some r) (get_or-set_same b k x None l)

-- ---- bindings
module _ (k : ℕ) (v : Value) (b c : BoundValues Value) (e : bound same_value k v b ≡ Some c) where
  pub bound_gives : Stands k v c
  bound_gives = go (slice_get b k) refl e
    where
      go : (s : Option (Option Value)) → slice_get b k ≡ s → bound_over same_value s k v b ≡ Some c → Stands k v c
      go None i e = absurd (none-some c e)
      go (Some None) i e = subst (λ (d : BoundValues Value). Stands k v d) (same_Some _ _ e) (same_set b k (Some v) None i)
      go (Some (Some u)) i e =
          let w = when_some (same_value u v) (Some b) c e in
          subst (λ (d : BoundValues Value). Stands k v d) (same_Some _ _ w.1) (i ∙ ap (λ z. Some (Some z)) (same_value_true u v w.0))

  pub bound_from : (j : ℕ) (w : Value) → Stands j w c → Stands j w b ⊎ ((j ≡ k) × (w ≡ v))
  bound_from j w s = go (slice_get b k) refl e
    where
      go : (o : Option (Option Value)) → slice_get b k ≡ o → bound_over same_value o k v b ≡ Some c → Stands j w b ⊎ ((j ≡ k) × (w ≡ v))
      go None i e = absurd (none-some c e)
      go (Some None) i e = elim (cases_eq j k) [
        | inl h ↦ inr (h, one_stands k w v c (subst (λ z. Stands z w c) h s) bound_gives)
        | inr n ↦ inl (sym (other_set b k j (Some v) n) ∙ subst (λ (d : BoundValues Value). Stands j w d) (sym (same_Some _ _ e)) s)
      ]
      go (Some (Some u)) i e = inl (subst (λ (d : BoundValues Value). Stands j w d) (sym (same_Some _ _ (when_some (same_value u v) (Some b) c e).1)) s)

-- place k is in the list
abbrev pub Among : ℕ → List ℕ → Type 0
Among j ks = list_any (λ i. eqb i j) ks ≡ true

pub among_at : (k j : ℕ) (ks : List ℕ) → j ≡ k → Among j (k ∷ ks)
among_at k j ks e = ap (λ b. b || list_any (λ i. eqb i j) ks) (eq-eqb k j (sym e))

pub among_more : (k j : ℕ) (ks : List ℕ) → Among j ks → Among j (k ∷ ks)
among_more k j ks h = elim (eqb k j) as (λ b. (b || list_any (λ i. eqb i j) ks) ≡ true) [ true ↦ refl | false ↦ h ]

pub all_from : (ks : List ℕ) (vs : List Value) (b c : BoundValues Value) → all_bound same_value ks vs b ≡ Some c → (j : ℕ) (w : Value) → Stands j w c → Stands j w b ⊎ (Among j ks × In w vs)
all_from [] [] b c e j w s = inl (subst (λ (d : BoundValues Value). Stands j w d) (sym (same_Some _ _ e)) s)
all_from [] (v ∷ vs) b c e j w s = absurd (none-some c e)
all_from (k ∷ ks) [] b c e j w s = absurd (none-some c e)
all_from (k ∷ ks) (v ∷ vs) b c e j w s =
    let g = given_some (bound same_value k v b) (all_bound same_value ks vs) c e in
    elim (all_from ks vs g.0 c g.2 j w s) [
      | inl h ↦ elim (bound_from k v b g.0 g.1 j w h) [ inl i ↦ inl i | inr i ↦ inr (among_at k j ks i.0, inl i.1) ]
      | inr h ↦ inr (among_more k j ks h.0, inr h.1)
    ]

pub all_stand : (ks : List ℕ) (vs : List Value) (b c : BoundValues Value) → all_bound same_value ks vs b ≡ Some c → (j : ℕ) → Among j ks → (w : Value) × Stands j w c × In w vs
all_stand [] [] b c e j h = absurd (true≢false (sym h))
all_stand [] (v ∷ vs) b c e j h = absurd (none-some c e)
all_stand (k ∷ ks) [] b c e j h = absurd (none-some c e)
all_stand (k ∷ ks) (v ∷ vs) b c e j h =
    let g = given_some (bound same_value k v b) (all_bound same_value ks vs) c e in
    elim (or_cases (eqb k j) (list_any (λ i. eqb i j) ks) h) [
      | inl i ↦
          (v, all_keep same_value ks vs g.0 c g.2 j v (subst (λ z. Stands z v g.0) (eqb-true k j i) (bound_gives k v b g.0 g.1)), inl refl)
      | inr i ↦ let r = all_stand ks vs g.0 c g.2 j i in (r.0, r.1, inr r.2)
    ]

-- a value bound at one of the places is one of the values
pub all_in : (ks : List ℕ) (vs : List Value) (b c : BoundValues Value) → all_bound same_value ks vs b ≡ Some c → (j : ℕ) → Among j ks → (w : Value) → Stands j w c → In w vs
all_in ks vs b c e j h w s = let r = all_stand ks vs b c e j h in subst (λ z. In z vs) (one_stands j r.0 w c r.1 s) r.2
