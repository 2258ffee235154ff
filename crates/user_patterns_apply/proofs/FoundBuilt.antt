-- Bindings after a match, and after a new operation.
use Rattle.std.proofs.Common.{◌≡◌, ℕ, zero, suc, ◌+◌, ◌<◌, refl, ap, sym, ◌∙◌, subst, List, [], ◌∷◌, length, get_or-set_other, Bool, true, false, ◌&&◌, not, true≢false, Option, Some, None, slice_get, slice_set, ◌⊎◌, inl, inr, arith}
use Rattle.std.specs.Prelude.{option_map, eqb}
use Rattle.std.specs.List.{list_all}
use Rattle.std.proofs.lemmas.Bool.Decides.{eqb_tells}
use Rattle.std.proofs.lemmas.List.{get_or-set_same, length-set}
use Rattle.std.proofs.lemmas.Option.{slice_get_within, slice_get-get_or, get_or_from_slice_get, same_Some}
use Rattle.ir_event.specs.types.Terms.{TypeTerm}
use Rattle.ir_event.specs.types.SameTypes.{same_type}
use Rattle.ir_event.specs.trees.declared.value.Value.{Value}
use Rattle.ir_event.specs.trees.declared.value.Value.TheVariants.{Result}
use Rattle.ir_event.specs.trees.Uses.{same_value}
use Rattle.ir_event.specs.trees.Meaning.{Operation}
use Rattle.ir_event.specs.tree_laws.Members.{In}
use Rattle.ir_event.specs.tree_laws.Values.{type_of_value}
use Rattle.user_patterns_check.specs.Outcomes.{Outcome, given}
use Rattle.user_patterns_data.specs.declared.pattern.NewValue.{NewValue}
use Rattle.user_patterns_data.specs.Matching.{Header, BoundValues, all_bound, bound, bound_over, binding_at, type_at, types_at, when}
use Rattle.user_patterns_data.specs.Planning.{all_made, and_more, made_as, values_at}
use Rattle.user_patterns_data.proofs.BoundValues.{all_keep}
use Rattle.std.proofs.lemmas.Bool.{cases_eq}

pub when_is : {X : Type 0} (b : Bool) (r : Option X) (x : X) → when b r ≡ Some x → (b ≡ true) × (r ≡ Some x)
when_is true r x e = (refl, e)
when_is false r x e = absurd cc

pub given_is : {X Y : Type 0} (o : Option X) (f : X → Option Y) (y : Y) → given o f ≡ Some y → (x : X) × (o ≡ Some x) × (f x ≡ Some y)
given_is None f y e = absurd cc
given_is (Some x) f y e = (x, refl, e)

pub standing_is : {X : Type 0} (k : ℕ) (b : BoundValues X) (v : X) → binding_at k b ≡ Some v → slice_get b k ≡ Some (Some v)
standing_is {X = X} k b v e = go (slice_get b k) refl e
  where
    go : (s : Option (Option X)) → slice_get b k ≡ s → given s (λ x. x) ≡ Some v → slice_get b k ≡ Some (Some v)
    go None is e = absurd cc
    go (Some None) is e = absurd cc
    go (Some (Some u)) is e = is ∙ ap Some e

pub stands_there : {X : Type 0} (k : ℕ) (b : BoundValues X) (v : X) → slice_get b k ≡ Some (Some v) → binding_at k b ≡ Some v
stands_there k b v e = ap (λ s. given s (λ x. x)) e

module _ {V : Type 0} (same : V → V → Bool) (is : (u v : V) → same u v ≡ true → u ≡ v) where
  -- a bound value is found at its place
  pub bound_at : (k : ℕ) (v : V) (b c : BoundValues V) → bound same k v b ≡ Some c → slice_get c k ≡ Some (Some v)
  bound_at k v b c e = go (slice_get b k) refl e
    where
      go : (s : Option (Option V)) → slice_get b k ≡ s → bound_over same s k v b ≡ Some c → slice_get c k ≡ Some (Some v)
      go None i e = absurd cc
      go (Some None) i e =
          let l = slice_get_within b k None i in
          let at : slice_get (slice_set b k (Some v)) k ≡ Some (Some v) = slice_get-get_or (slice_set b k (Some v)) k None (omega (arith, l, length-set b k (Some v))) ∙ ap Some (get_or-set_same b k (Some v) None l) in
          subst (λ d. slice_get d k ≡ Some (Some v)) (same_Some (slice_set b k (Some v)) c e) at
      go (Some (Some u)) i e =
          let w = when_is (same u v) (Some b) c e in
          subst (λ d. slice_get d k ≡ Some (Some v)) (same_Some b c w.1) (i ∙ ap (λ z. Some (Some z)) (is u v w.0))

  -- other places keep their bindings
  pub bound_from : (k : ℕ) (v : V) (b c : BoundValues V) → bound same k v b ≡ Some c → (j : ℕ) (u : V) → slice_get c j ≡ Some (Some u) → (slice_get b j ≡ Some (Some u)) ⊎ ((j ≡ k) × (u ≡ v))
  bound_from k v b c e j u at = elim (cases_eq j k) [
    | inl h ↦ inr (h, (let two : Some (Some u) ≡ Some (Some v) = sym at ∙ ap (slice_get c) h ∙ bound_at k v b c e in cc))
    | inr n ↦ inl (go (slice_get b k) refl e n)
  ]
    where
      within : (xs : BoundValues V) (d : Option V) → slice_get xs j ≡ Some d → j < length xs
      within xs d e = slice_get_within xs j d e

      go : (s : Option (Option V)) → slice_get b k ≡ s → bound_over same s k v b ≡ Some c → (j ≡ k → ⊥) → slice_get b j ≡ Some (Some u)
      go None i e n = absurd cc
      go (Some None) i e n =
          let set : slice_get (slice_set b k (Some v)) j ≡ Some (Some u) = ap (λ d. slice_get d j) (same_Some (slice_set b k (Some v)) c e) ∙ at in
          let l = within (slice_set b k (Some v)) (Some u) set in
          slice_get-get_or b j None (omega (arith, l, length-set b k (Some v)))
          ∙ ap Some (sym (get_or-set_other b k j (Some v) None n) ∙ get_or_from_slice_get (slice_set b k (Some v)) j (Some u) None set)
      go (Some (Some w)) i e n = (let p = when_is (same w v) (Some b) c e in ap (λ d. slice_get d j) (same_Some b c p.1) ∙ at)

  -- the same for several bindings
  pub all_from : (ks : List ℕ) (vs : List V) (b c : BoundValues V) → all_bound same ks vs b ≡ Some c → (j : ℕ) (u : V) → slice_get c j ≡ Some (Some u) → (slice_get b j ≡ Some (Some u)) ⊎ In u vs
  all_from [] [] b c e j u at = inl (ap (λ d. slice_get d j) (same_Some b c e) ∙ at)
  all_from [] (v ∷ vs) b c e j u at = absurd cc
  all_from (k ∷ ks) [] b c e j u at = absurd cc
  all_from (k ∷ ks) (v ∷ vs) b c e j u at =
      let g = given_is (bound same k v b) (all_bound same ks vs) c e in
      elim (all_from ks vs g.0 c g.2 j u at) [
        | inl h ↦ elim (bound_from k v b g.0 g.1 j u h) [ inl m ↦ inl m | inr m ↦ inr (inl m.1) ]
        | inr h ↦ inr (inr h)
      ]

-- ---- types of bound values

module _ (type_is : (t u : TypeTerm) → same_type t u ≡ true → t ≡ u) (t : Operation) (verified : Header → Bool) where
  keeps_one : (n : ℕ) (term : TypeTerm) (ts us : BoundValues TypeTerm) → bound same_type n term ts ≡ Some us → (j : ℕ) (u : TypeTerm) → slice_get ts j ≡ Some (Some u) → slice_get us j ≡ Some (Some u)
  keeps_one n term ts us e = all_keep same_type (n ∷ []) (term ∷ []) ts us (ap (λ r. given r (all_bound same_type [] [])) e)

  pub types_keep : (k : ℕ) (tys : List ℕ) (b : BoundValues Value) (ts us : BoundValues TypeTerm) → types_at t verified k tys b ts ≡ Some us → (j : ℕ) (u : TypeTerm) → slice_get ts j ≡ Some (Some u) → slice_get us j ≡ Some (Some u)
  types_keep k [] b ts us e j u at = ap (λ d. slice_get d j) (sym (same_Some ts us e)) ∙ at
  types_keep k (ty ∷ tys) b ts us e j u at =
      let g = given_is (type_at t verified k ty b ts) (types_at t verified (k + 1) tys b) us e in
      let v = given_is (binding_at k b) _ g.0 g.1 in
      let term = given_is (type_of_value v.0 t) _ g.0 v.2 in
      types_keep (k + 1) tys b g.0 us g.2 j u (keeps_one ty term.0 ts g.0 term.2 j u at)

  -- the type bound to a place's type is the type of the value at the place
  pub types_hold : (k : ℕ) (tys : List ℕ) (b : BoundValues Value) (ts us : BoundValues TypeTerm) → types_at t verified k tys b ts ≡ Some us → (i ty : ℕ) → slice_get tys i ≡ Some ty
      → (v : Value) × (term : TypeTerm) × (binding_at (k + i) b ≡ Some v) × (type_of_value v t ≡ Some term) × (slice_get us ty ≡ Some (Some term))
  types_hold k [] b ts us e i ty at = absurd cc
  types_hold k (own ∷ tys) b ts us e zero ty at =
      let g = given_is (type_at t verified k own b ts) (types_at t verified (k + 1) tys b) us e in
      let v = given_is (binding_at k b) _ g.0 g.1 in
      let term = given_is (type_of_value v.0 t) _ g.0 v.2 in
      let place : k + 0 ≡ k = omega arith in
      let same : own ≡ ty = same_Some own ty at in
      (v.0, term.0, ap (λ z. binding_at z b) place ∙ v.1, term.1, ap (slice_get us) (sym same) ∙ types_keep (k + 1) tys b g.0 us g.2 own term.0 (bound_at same_type type_is own term.0 ts g.0 term.2))
  types_hold k (own ∷ tys) b ts us e (suc i) ty at =
      let g = given_is (type_at t verified k own b ts) (types_at t verified (k + 1) tys b) us e in
      let more = types_hold (k + 1) tys b g.0 us g.2 i ty at in
      let place : k + suc i ≡ k + 1 + i = omega arith in
      (more.0, more.1, ap (λ z. binding_at z b) place ∙ more.2, more.3, more.4)

-- ---- new operations

pub values_many : (ks : List ℕ) (b : BoundValues Value) (vs : List Value) → values_at ks b ≡ Some vs → length vs ≡ length ks
values_many [] b vs e = ap length (sym (same_Some [] vs e))
values_many (k ∷ ks) b vs e =
    (let g = given_is (binding_at k b) (λ v. and_more v (values_at ks b)) vs e in
    go (values_at ks b) refl g.0 vs g.2 (values_many ks b))
  where
    go : (r : Option (List Value)) → values_at ks b ≡ r → (v : Value) (vs : List Value) → and_more v r ≡ Some vs → ((ws : List Value) → values_at ks b ≡ Some ws → length ws ≡ length ks) → length vs ≡ length (k ∷ ks)
    go None is v vs e more = absurd cc
    go (Some ws) is v vs e more = (let m = more ws is in let l : length vs ≡ length (v ∷ ws) = ap length (sym (same_Some (v ∷ ws) vs e)) in omega (arith, m, l))

pub values_pass : (f : Value → Bool) (r : ℕ) (ks : List ℕ) (b : BoundValues Value) → ((j : ℕ) (u : Value) → (j ≡ r → ⊥) → binding_at j b ≡ Some u → f u ≡ true) → list_all (λ i. not (eqb i r)) ks ≡ true → (vs : List Value) → values_at ks b ≡ Some vs → list_all f vs ≡ true
values_pass f r [] b passes spared vs e = ap (list_all f) (sym (same_Some [] vs e))
values_pass f r (k ∷ ks) b passes spared vs e =
    (let g = given_is (binding_at k b) (λ v. and_more v (values_at ks b)) vs e in
    go (values_at ks b) refl g.0 g.1 vs g.2 (not (eqb k r)) refl spared (values_pass f r ks b passes))
  where
    differs : not (eqb k r) ≡ true → k ≡ r → ⊥
    differs n same = elim (eqb_tells k r) [ inl h ↦ true≢false (sym n ∙ ap not h.0) | inr h ↦ h.1 same ]

    go : (rest : Option (List Value)) → values_at ks b ≡ rest → (v : Value) → binding_at k b ≡ Some v → (vs : List Value) → and_more v rest ≡ Some vs → (z : Bool) → not (eqb k r) ≡ z → (z && list_all (λ i. not (eqb i r)) ks) ≡ true
        → (list_all (λ i. not (eqb i r)) ks ≡ true → (ws : List Value) → values_at ks b ≡ Some ws → list_all f ws ≡ true) → list_all f vs ≡ true
    go None is v at vs e z n spared more = absurd cc
    go (Some ws) is v at vs e false n spared more = absurd cc
    go (Some ws) is v at vs e true n spared more =
        ap (list_all f) (sym (same_Some (v ∷ ws) vs e)) ∙ ap (λ q. q && list_all f ws) (passes k v (differs n) at) ∙ more spared ws is

pub made_many : (ts : BoundValues TypeTerm) (env : List Outcome) (n k : ℕ) (ws : List NewValue) (b c : BoundValues Value) (os : List Operation) → all_made ts env n k ws b ≡ Some (os, c) → length os ≡ length ws
made_many ts env n k [] b c os e = (let one : [] ≡ os = ap (λ (z : List Operation × BoundValues Value). z.0) (same_Some ([], b) (os, c) e) in ap length (sym one))
made_many ts env n k (w ∷ ws) b c os e =
    (let o = given_is (made_as b ts env w) _ (os, c) e in
    let d = given_is (bound same_value k (Result n 0) b) _ (os, c) o.2 in
    go (all_made ts env (n + 1) (k + 1) ws d.0) d.0 refl o.0 d.2 (λ qs e. made_many ts env (n + 1) (k + 1) ws d.0 c qs e))
  where
    go : (r : Option (List Operation × BoundValues Value)) (d : BoundValues Value) → all_made ts env (n + 1) (k + 1) ws d ≡ r → (o : Operation) → option_map {U = List Operation × BoundValues Value} (λ (r : List Operation × BoundValues Value). (o ∷ r.0, r.1)) r ≡ Some (os, c)
        → ((qs : List Operation) → all_made ts env (n + 1) (k + 1) ws d ≡ Some (qs, c) → length qs ≡ length ws) → length os ≡ length (w ∷ ws)
    go None d is o e more = absurd cc
    go (Some r) d is o e more =
        let two = same_Some (o ∷ r.0, r.1) (os, c) e in
        let m = more r.0 (is ∙ ap (λ z. Some (r.0, z)) (ap (λ (z : List Operation × BoundValues Value). z.1) two)) in
        let l : length os ≡ length (o ∷ r.0) = ap (λ (z : List Operation × BoundValues Value). length z.0) (sym two) in
        omega (arith, m, l)
