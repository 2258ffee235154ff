-- Bound values stay bound.
use Rattle.std.proofs.Common.{◌≡◌, ℕ, List, [], ◌∷◌, Bool, true, false, Option, Some, None, slice_get, slice_set, refl, sym, ◌∙◌, ◌⊎◌, inl, inr, ap, subst, arith, get_or-set_other, ◌&&◌}
use Rattle.std.proofs.lemmas.Option.{slice_get_within, slice_get-get_or, get_or_from_slice_get, none-some, same_Some}
use Rattle.std.proofs.lemmas.Bool.Decides.{eqb_tells}
use Rattle.std.proofs.lemmas.List.{length-set}
use Rattle.ir_tree.specs.declared.value.Value.{Value}
use Rattle.patterns_laws.specs.Words.{named}
use Rattle.ir_tree.specs.Uses.{same_value}
use Rattle.user_patterns_check.specs.Outcomes.{given}
use Rattle.user_patterns_data.specs.Names.{name_of, operands_of}
use Rattle.user_patterns_data.specs.Matching.{BoundValues, when, bound, bound_over, all_bound, binding_at, constraints_agree, defining_op_head, header_matched, value_matched, op_matches, ops_match, PatternOpsAreValid}
use Rattle.patterns_laws.proofs.KnownFolds.{given_some}
use Rattle.std.proofs.lemmas.Bool.{cases_eq}

pub when_some : {X : Type 0} (b : Bool) (r : Option X) (x : X) → when b r ≡ Some x → r ≡ Some x
when_some true r x e = e
when_some false r x e = absurd (none-some x e)

module _ {V : Type 0} (same : V → V → Bool) where
  abbrev Keeps : BoundValues V → BoundValues V → Type 0
  Keeps b c = (k : ℕ) (v : V) → slice_get b k ≡ Some (Some v) → slice_get c k ≡ Some (Some v)

  get_set_other : (b : BoundValues V) (k j : ℕ) (x z : Option V) → (j ≡ k → ⊥) → slice_get b j ≡ Some z → slice_get (slice_set b k x) j ≡ Some z
  get_set_other b k j x z n e =
      let l = slice_get_within b j z e in
      slice_get-get_or (slice_set b k x) j z (omega (arith, l, length-set b k x)) ∙ ap (λ r. Some r) (get_or-set_other b k j x z n ∙ get_or_from_slice_get b j z z e)

  set_keeps : (b : BoundValues V) (k : ℕ) (v : V) → slice_get b k ≡ Some None → Keeps b (slice_set b k (Some v))
  set_keeps b k v is j u e =
      elim (cases_eq j k) [
        | inl h ↦ absurd (none-some u (same_Some _ _ (sym is ∙ ap (λ (i : ℕ). slice_get b i) (sym h) ∙ e)))
        | inr n ↦ get_set_other b k j (Some v) (Some u) n e
      ]

  bound_keeps : (x : Option (Option V)) (k : ℕ) (v : V) (b c : BoundValues V) → slice_get b k ≡ x → bound_over same x k v b ≡ Some c → Keeps b c
  bound_keeps None k v b c is e = absurd (none-some c e)
  bound_keeps (Some None) k v b c is e = subst (λ (d : BoundValues V). Keeps b d) (same_Some _ _ e) (set_keeps b k v is)
  bound_keeps (Some (Some u)) k v b c is e = subst (λ (d : BoundValues V). Keeps b d) (same_Some _ _ (when_some (same u v) (Some b) c e)) (λ j z h. h)

  pub all_keep : (ks : List ℕ) (vs : List V) (b c : BoundValues V) → all_bound same ks vs b ≡ Some c → Keeps b c
  all_keep [] [] b c e = subst (λ (d : BoundValues V). Keeps b d) (same_Some _ _ e) (λ j z h. h)
  all_keep [] (v ∷ vs) b c e = absurd (none-some c e)
  all_keep (k ∷ ks) [] b c e = absurd (none-some c e)
  all_keep (k ∷ ks) (v ∷ vs) b c e =
      let g = given_some (bound same k v b) (all_bound same ks vs) c e in
      λ j z h. all_keep ks vs g.0 c g.2 j z (bound_keeps (slice_get b k) k v b g.0 refl g.1 j z h)

pub pattern_ops_stand : PatternOpsAreValid
pattern_ops_stand t verified [] b c e k v h = subst (λ (d : BoundValues Value). slice_get d k ≡ Some (Some v)) (same_Some _ _ e) h
pattern_ops_stand t verified (p ∷ ps) b c e k v h =
    let g = given_some (op_matches t verified p b) (ops_match t verified ps) c e in
    let u = given_some (binding_at p.0 b) (λ v. value_matched t verified p.1 v b) g.0 g.1 in
    let s = given_some (defining_op_head t verified u.0) (λ h. header_matched t verified p.1 h b) g.0 u.2 in
    let ks = operands_of p.1.form in
    let w = when_some (named (name_of p.1.form) s.0.name && constraints_agree t verified p.1 s.0) (all_bound same_value ks s.0.operands b) g.0 s.2 in
    pattern_ops_stand t verified ps g.0 c g.2 k v (all_keep same_value ks s.0.operands b g.0 w k v h)
