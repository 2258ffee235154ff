-- The values and types that a match binds.
use Rattle.std.proofs.Common.{◌≡◌, ℕ, ◌+◌, refl, ap, sym, ◌∙◌, subst, List, [], ◌∷◌, ◌++◌, Bool, true, ◌&&◌, Option, Some, None, slice_get, inl, inr}
use Rattle.std.specs.Prelude.{codes}
use Rattle.std.proofs.lemmas.Bool.{and_parts}
use Rattle.std.proofs.lemmas.Option.{none-some, same_Some}
use Rattle.ir_types.specs.Terms.{TypeTerm}
use Rattle.ir_types.specs.SameTypes.{same_type}
use Rattle.ir_types.proofs.SameTerms.{type_is}
use Rattle.ir_tree.specs.declared.value.Value.{Value}
use Rattle.ir_tree.specs.Uses.{same_value}
use Rattle.ir_tree.specs.Meaning.{Operation}
use Rattle.ir_tree.proofs.Replaced.{same_value_true}
use Rattle.ir_tree_laws.specs.Values.{type_of_value}
use Rattle.dialects_int.specs.Folds.{property_of}
use Rattle.patterns_laws.specs.Words.{named}
use Rattle.patterns_laws.proofs.KnownFolds.{given_some}
use Rattle.user_patterns_check.specs.Outcomes.{given}
use Rattle.user_patterns_data.specs.declared.pattern.PatternOp.{PatternOp}
use Rattle.user_patterns_data.specs.Names.{name_of, operands_of, predicate_of}
use Rattle.user_patterns_data.specs.Matching.{Header, BoundValues, all_bound, constraints_agree, bound, defining_op_head, header_matched, op_matches, ops_match, placed, predicate_is, binding_at, type_at, types_at, value_matched}
use Rattle.user_patterns_data.proofs.BoundValues.{all_keep}
use Rattle.user_patterns_apply.proofs.FoundBuilt.{bound_at, bound_from, when_is}

-- value v is bound at place k
abbrev pub Stands : {V : Type 0} → ℕ → V → BoundValues V → Type 0
Stands k v b = slice_get b k ≡ Some (Some v)

pub stands_standing : {V : Type 0} (k : ℕ) (v : V) (b : BoundValues V) → Stands k v b → binding_at k b ≡ Some v
stands_standing k v b e = ap (λ s. given s (λ x. x)) e

pub standing_stands : {V : Type 0} (k : ℕ) (v : V) (b : BoundValues V) → binding_at k b ≡ Some v → Stands k v b
standing_stands {V} k v b e = go (slice_get b k) refl e
  where
    go : (s : Option (Option V)) → slice_get b k ≡ s → given s (λ x. x) ≡ Some v → Stands k v b
    go None i e = absurd (none-some v e)
    go (Some o) i e = i ∙ ap Some e

pub one_stands : {V : Type 0} (k : ℕ) (v w : V) (b : BoundValues V) → Stands k v b → Stands k w b → v ≡ w
one_stands k v w b e f = same_Some _ _ (same_Some _ _ (sym e ∙ f))

-- all bindings of b are bindings of c
abbrev pub Keeps : {V : Type 0} → BoundValues V → BoundValues V → Type 0
Keeps {V} b c = (k : ℕ) (v : V) → Stands k v b → Stands k v c

pub keeps_same : {V : Type 0} (b c : BoundValues V) → Some b ≡ Some c → Keeps b c
keeps_same b c e k v s = subst (λ d. Stands k v d) (same_Some _ _ e) s

-- ---- a bound value is found at its place, and earlier bindings stay
module _ {V : Type 0} (same : V → V → Bool) (same_is : (u v : V) → same u v ≡ true → u ≡ v) where
  pub bound_holds : (k : ℕ) (v : V) (b c : BoundValues V) → bound same k v b ≡ Some c → Stands k v c × Keeps b c
  bound_holds k v b c e = (bound_at same same_is k v b c e, all_keep same (k ∷ []) (v ∷ []) b c (ap (λ r. given r (all_bound same [] [])) e))

  -- no other place gets a binding
  pub bound_elsewhere : (k : ℕ) (v : V) (b c : BoundValues V) → bound same k v b ≡ Some c → (j : ℕ) (w : V) → (j ≡ k → ⊥) → Stands j w c → Stands j w b
  bound_elsewhere k v b c e j w n s = elim (bound_from same same_is k v b c e j w s) [ inl h ↦ h | inr h ↦ absurd (n h.0) ]

  -- the values are bound at the places, one at each
  abbrev pub AllStand : List ℕ → List V → BoundValues V → Type 0
  AllStand [] [] b = Unit {0}
  AllStand [] (v ∷ vs) b = ⊥
  AllStand (k ∷ ks) [] b = ⊥
  AllStand (k ∷ ks) (v ∷ vs) b = Stands k v b × AllStand ks vs b

  pub all_stay : (ks : List ℕ) (vs : List V) (b c : BoundValues V) → Keeps b c → AllStand ks vs b → AllStand ks vs c
  all_stay [] [] b c h s = tt
  all_stay [] (v ∷ vs) b c h s = absurd s
  all_stay (k ∷ ks) [] b c h s = absurd s
  all_stay (k ∷ ks) (v ∷ vs) b c h s = (h k v s.0, all_stay ks vs b c h s.1)

  pub all_bound_hold : (ks : List ℕ) (vs : List V) (b c : BoundValues V) → all_bound same ks vs b ≡ Some c → AllStand ks vs c × Keeps b c
  all_bound_hold [] [] b c e = (tt, keeps_same b c e)
  all_bound_hold [] (v ∷ vs) b c e = absurd (none-some c e)
  all_bound_hold (k ∷ ks) [] b c e = absurd (none-some c e)
  all_bound_hold (k ∷ ks) (v ∷ vs) b c e =
      let g = given_some (bound same k v b) (all_bound same ks vs) c e in
      let r = bound_holds k v b g.0 g.1 in
      let s = all_bound_hold ks vs g.0 c g.2 in
      ((s.1 k v r.0, s.0), (λ j u h. s.1 j u (r.1 j u h)))

abbrev pub ValuesStand : List ℕ → List Value → BoundValues Value → Type 0
ValuesStand ks vs b = AllStand same_value same_value_true ks vs b

-- ---- pattern ops
module _ (t : Operation) (verified : Header → Bool) where
  -- the defining operation of the value at place k matches the pattern op
  pub record Holds (k : ℕ) (p : PatternOp) (b : BoundValues Value) : Type 0 where
    pub value : Value
    pub stands : Stands k value b
    pub header : Header
    pub gives : defining_op_head t verified value ≡ Some header
    pub name : named (name_of p.form) header.name ≡ true
    pub asks : predicate_is t verified (predicate_of p.form) (property_of (codes "predicate") header.properties) ≡ true
    pub operands : ValuesStand (operands_of p.form) header.operands b

  abbrev pub AllHold : ℕ → List PatternOp → BoundValues Value → Type 0
  AllHold k [] b = Unit {0}
  AllHold k (p ∷ ps) b = Holds k p b × AllHold (k + 1) ps b

  holds_still : (k : ℕ) (p : PatternOp) (b c : BoundValues Value) → Keeps b c → Holds k p b → Holds k p c
  holds_still k p b c h r = record {
    value = r.value;
    stands = h k r.value r.stands;
    header = r.header;
    gives = r.gives;
    name = r.name;
    asks = r.asks;
    operands = all_stay same_value same_value_true (operands_of p.form) r.header.operands b c h r.operands;
  }

  all_hold_still : (k : ℕ) (ps : List PatternOp) (b c : BoundValues Value) → Keeps b c → AllHold k ps b → AllHold k ps c
  all_hold_still k [] b c h r = tt
  all_hold_still k (p ∷ ps) b c h r = (holds_still k p b c h r.0, all_hold_still (k + 1) ps b c h r.1)

  pattern_op_holds : (k : ℕ) (p : PatternOp) (b c : BoundValues Value) → op_matches t verified (k, p) b ≡ Some c → Holds k p c × Keeps b c
  pattern_op_holds k p b c e =
      let u = given_some (binding_at k b) (λ v. value_matched t verified p v b) c e in
      let s = given_some (defining_op_head t verified u.0) (λ h. header_matched t verified p h b) c u.2 in
      let w = when_is (named (name_of p.form) s.0.name && constraints_agree t verified p s.0) (all_bound same_value (operands_of p.form) s.0.operands b) c s.2 in
      let asks = and_parts (named (name_of p.form) s.0.name) (constraints_agree t verified p s.0) w.0 in
      let of = all_bound_hold same_value same_value_true (operands_of p.form) s.0.operands b c w.1 in (
        record {
          value = u.0;
          stands = of.1 k u.0 (standing_stands k u.0 b u.1);
          header = s.0;
          gives = s.1;
          name = asks.0;
          asks = (and_parts (predicate_is t verified (predicate_of p.form) (property_of (codes "predicate") s.0.properties)) _ asks.1).0;
          operands = of.0;
        },
        of.1,
      )

  matched_after : (ps : List (ℕ × PatternOp)) (q : ℕ × PatternOp) (b : BoundValues Value) → ops_match t verified (ps ++ (q ∷ [])) b ≡ given (ops_match t verified ps b) (λ c. op_matches t verified q c)
  matched_after [] q b = one (op_matches t verified q b)
    where
      one : (o : Option (BoundValues Value)) → given o (λ c. Some c) ≡ o
      one None = refl
      one (Some c) = refl
  matched_after (p ∷ ps) q b = go (λ c. matched_after ps q c) (op_matches t verified p b)
    where
      go : ((c : BoundValues Value) → ops_match t verified (ps ++ (q ∷ [])) c ≡ given (ops_match t verified ps c) (λ d. op_matches t verified q d)) → (o : Option (BoundValues Value))
          → given o (ops_match t verified (ps ++ (q ∷ []))) ≡ given (given o (ops_match t verified ps)) (λ d. op_matches t verified q d)
      go ih None = refl
      go ih (Some c) = ih c

  pub all_hold : (k : ℕ) (ps : List PatternOp) (b c : BoundValues Value) → ops_match t verified (placed k ps) b ≡ Some c → AllHold k ps c × Keeps b c
  all_hold k [] b c e = (tt, keeps_same b c e)
  all_hold k (p ∷ ps) b c e =
      let g = given_some (ops_match t verified (placed (k + 1) ps) b) (λ d. op_matches t verified (k, p) d) c (sym (matched_after (placed (k + 1) ps) (k, p) b) ∙ e) in
      let r = all_hold (k + 1) ps b g.0 g.1 in
      let s = pattern_op_holds k p g.0 c g.2 in
      ((s.0, all_hold_still (k + 1) ps g.0 c s.1 r.0), (λ j v h. s.1 j v (r.1 j v h)))

  -- ---- types
  -- values are bound at the places from k on, and their types at their type numbers
  pub record IsTyped (k ty : ℕ) (b : BoundValues Value) (ts : BoundValues TypeTerm) : Type 0 where
    pub value : Value
    pub stands : Stands k value b
    pub term : TypeTerm
    pub of_value : type_of_value value t ≡ Some term
    pub type_stands : Stands ty term ts

  abbrev pub AllTyped : ℕ → List ℕ → BoundValues Value → BoundValues TypeTerm → Type 0
  AllTyped k [] b ts = Unit {0}
  AllTyped k (ty ∷ tys) b ts = IsTyped k ty b ts × AllTyped (k + 1) tys b ts

  typed_still : (k ty : ℕ) (b : BoundValues Value) (ts us : BoundValues TypeTerm) → Keeps ts us → IsTyped k ty b ts → IsTyped k ty b us
  typed_still k ty b ts us h r = record {
    value = r.value;
    stands = r.stands;
    term = r.term;
    of_value = r.of_value;
    type_stands = h ty r.term r.type_stands;
  }

  pub all_typed_still : (k : ℕ) (tys : List ℕ) (b : BoundValues Value) (ts us : BoundValues TypeTerm) → Keeps ts us → AllTyped k tys b ts → AllTyped k tys b us
  all_typed_still k [] b ts us h r = tt
  all_typed_still k (ty ∷ tys) b ts us h r = (typed_still k ty b ts us h r.0, all_typed_still (k + 1) tys b ts us h r.1)

  type_holds : (k ty : ℕ) (b : BoundValues Value) (ts us : BoundValues TypeTerm) → type_at t verified k ty b ts ≡ Some us → IsTyped k ty b us × Keeps ts us
  type_holds k ty b ts us e =
      let u = given_some (binding_at k b) (λ v. given (type_of_value v t) (λ term. bound same_type ty term ts)) us e in
      let s = given_some (type_of_value u.0 t) (λ term. bound same_type ty term ts) us u.2 in
      let r = bound_holds same_type type_is ty s.0 ts us s.2 in
      (record { value = u.0; stands = standing_stands k u.0 b u.1; term = s.0; of_value = s.1; type_stands = r.0 }, r.1)

  pub all_typed : (k : ℕ) (tys : List ℕ) (b : BoundValues Value) (ts us : BoundValues TypeTerm) → types_at t verified k tys b ts ≡ Some us → AllTyped k tys b us × Keeps ts us
  all_typed k [] b ts us e = (tt, keeps_same ts us e)
  all_typed k (ty ∷ tys) b ts us e =
      let g = given_some (type_at t verified k ty b ts) (types_at t verified (k + 1) tys b) us e in
      let r = type_holds k ty b ts g.0 g.1 in
      let s = all_typed (k + 1) tys b g.0 us g.2 in
      ((typed_still k ty b g.0 us s.1 r.0, s.0), (λ j v h. s.1 j v (r.1 j v h)))
