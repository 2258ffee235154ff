-- A shallow pattern has the same plan in both trees.
use Rattle.std.proofs.Common.{◌≡◌, ℕ, ◌+◌, ◌<◌, refl, ap, sym, ◌∙◌, subst, List, [], ◌∷◌, length, Bool, true, false, true≢false, ◌&&◌, eqb, eqb-true, map, Option, Some, None, inl, inr, arith}
use Rattle.std.specs.Prelude.{codes, is_some, slice_get, if◌then◌else◌}
use Rattle.std.specs.List.{list_all, list_any}
use Rattle.std.proofs.lemmas.Bool.{and_parts, cases_Bool, or_cases}
use Rattle.std.proofs.lemmas.Option.{none-some}
use Rattle.ir_types.specs.Terms.{TypeTerm}
use Rattle.ir_types.specs.SameTypes.{same_type}
use Rattle.ir_types.specs.declared.bits.BitsKind.{BitsKind}
use Rattle.ir_tree.specs.declared.value.Value.{Value}
use Rattle.ir_tree.specs.declared.value.Value.TheVariants.{Result}
use Rattle.ir_tree.specs.Uses.{same_value}
use Rattle.ir_tree.specs.Meaning.{Operation}
use Rattle.ir_tree_laws.specs.Values.{type_of_value}
use Rattle.dialects_int.specs.Folds.{fold_of}
use Rattle.patterns_laws.specs.Words.{named}
use Rattle.user_patterns_check.specs.Contents.{Content}
use Rattle.user_patterns_check.specs.Outcomes.{Outcome, given, run}
use Rattle.patterns_laws.proofs.KnownFolds.{given_some}
use Rattle.user_patterns_data.specs.declared.pattern.PatternOp.{PatternOp}
use Rattle.user_patterns_data.specs.declared.pattern.ExtraConstant.{ExtraConstant}
use Rattle.user_patterns_data.specs.Fitting.{content_with, fits}
use Rattle.user_patterns_data.specs.Matching.{Header, BoundValues, bound, defining_op_head, known, nothing, ops_match, placed, binding_at, type_at, types_at, when, written}
use Rattle.user_patterns_data.specs.Planning.{all_made, are_same, constants_known, extra_known, extra_place, is_numeric, bound_type, known_at, new_place, old_place, outcomes, places, planned, planned_by, planned_from, typed}
use Rattle.user_patterns_data.specs.Shapes.{PatternModel}
use Rattle.user_patterns_data.specs.Depth.{all_near_from, are_near, is_near, is_shallow, is_shallow_by, is_shallow_from, takes_below}
use Rattle.user_patterns_data.specs.Alike.{PlansAlike, ShowAlike, TypesAlike}
use Rattle.user_patterns_data.proofs.Made.{Both, all_alike, given_both, result_alike, when_both}
use Rattle.user_patterns_data.proofs.Near.{Found, IsLast, matched_alike, near_alike}
use Rattle.user_patterns_data.proofs.ShallowStanding.{Stands, standing_stands}

-- the root of a shallow pattern
root_of : (ps : List PatternOp) (p : PatternModel) → is_shallow_by ps p ≡ true → (r : PatternOp) × IsLast r ps × (is_shallow_from r p ≡ true)
root_of [] p e = absurd (true≢false (sym e))
root_of (q ∷ []) p e = (q, refl, e)
root_of (q ∷ r ∷ ps) p e = root_of (r ∷ ps) p e

module _ (t u : Operation) (verified cleans : Header → Bool) (x : ℕ) (s : ShowAlike t u verified cleans x) (p : PatternModel) (root : PatternOp) (b : BoundValues Value) (f : Found t u verified cleans x s p.root root (new_place p) (places p) (old_place p) p.old b) where
  -- ---- types
  typed_at : (k ty : ℕ) (ts : BoundValues TypeTerm) → type_at t verified k ty b ts ≡ type_at u cleans k ty b ts
  typed_at k ty ts = go (binding_at k b) refl
    where
      go : (o : Option Value) → binding_at k b ≡ o → type_at t verified k ty b ts ≡ type_at u cleans k ty b ts
      go None e = ap (λ o. given o (λ v. given (type_of_value v t) (λ term. bound same_type ty term ts))) e ∙ sym (ap (λ o. given o (λ v. given (type_of_value v u) (λ term. bound same_type ty term ts))) e)
      go (Some v) e =
          ap (λ o. given o (λ v. given (type_of_value v t) (λ term. bound same_type ty term ts))) e
          ∙ ap (λ z. given z (λ term. bound same_type ty term ts)) (f.types k v (standing_stands k v b e))
          ∙ sym (ap (λ o. given o (λ v. given (type_of_value v u) (λ term. bound same_type ty term ts))) e)

  types_alike : (k : ℕ) (tys : List ℕ) (ts : BoundValues TypeTerm) → types_at t verified k tys b ts ≡ types_at u cleans k tys b ts
  types_alike k [] ts = refl
  types_alike k (ty ∷ tys) ts = ap (λ z. given z (types_at t verified (k + 1) tys b)) (typed_at k ty ts) ∙ go (λ us. types_alike (k + 1) tys us) (type_at u cleans k ty b ts)
    where
      go : ((us : BoundValues TypeTerm) → types_at t verified (k + 1) tys b us ≡ types_at u cleans (k + 1) tys b us) → (o : Option (BoundValues TypeTerm)) → given o (types_at t verified (k + 1) tys b) ≡ given o (types_at u cleans (k + 1) tys b)
      go ih None = refl
      go ih (Some us) = ih us

  pub typed_alike : (n m : ℕ) → typed t verified n p b ≡ typed u cleans m p b
  typed_alike n m = ap (λ z. given z (types_at t verified (old_place p) (map PatternOp.ty p.old) b)) (types_alike 0 p.values (map written p.value_types)) ∙ go (types_at u cleans 0 p.values b (map written p.value_types))
    where
      go : (o : Option (BoundValues TypeTerm)) → given o (types_at t verified (old_place p) (map PatternOp.ty p.old) b) ≡ given o (types_at u cleans (old_place p) (map PatternOp.ty p.old) b)
      go None = refl
      go (Some us) = types_alike (old_place p) (map PatternOp.ty p.old) us

  -- ---- constants
  abbrev near : ℕ → Bool
  near k = is_near p.root root k (old_place p) p.old

  known_alike : (n m k : ℕ) → near k ≡ true → known_at t verified n p b k ≡ known_at u cleans m p b k
  known_alike n m k h = go (binding_at k b) refl
    where
      go : (o : Option Value) → binding_at k b ≡ o → given (binding_at k b) (known t verified) ≡ given (binding_at k b) (known u cleans)
      go None e = ap (λ o. given o (known t verified)) e ∙ sym (ap (λ o. given o (known u cleans)) e)
      go (Some v) e =
          ap (λ o. given o (known t verified)) e ∙ same v (near_alike t u verified cleans x s p.root root (new_place p) (places p) (old_place p) p.old b f k h v (standing_stands k v b e)).0
          ∙ sym (ap (λ o. given o (known u cleans)) e)
        where
          same : (v : Value) → defining_op_head t verified v ≡ defining_op_head u cleans v → known t verified v ≡ known u cleans v
          same v e = ap (λ g. given g (λ h. when (named (codes "arith.constant") h.name) (fold_of h.name h.properties [] h.results))) e

  member : (ks : List ℕ) → list_all near ks ≡ true → (k : ℕ) → list_any (eqb k) ks ≡ true → near k ≡ true
  member [] e k h = absurd (true≢false (sym h))
  member (j ∷ ks) e k h =
      let parts = and_parts (near j) (list_all near ks) e in
      elim (or_cases (eqb k j) (list_any (eqb k) ks) h) [
        | inl i ↦ ap near (eqb-true k j i) ∙ parts.0
        | inr i ↦ member ks parts.1 k i
      ]

  module _ (n m : ℕ) (constants : list_all near p.constants ≡ true) where
    pub outcomes_alike : (k : ℕ) (tys : List ℕ) → outcomes t verified n p k tys b ≡ outcomes u cleans m p k tys b
    outcomes_alike k [] = refl
    outcomes_alike k (ty ∷ tys) = λ i. one i ∷ outcomes_alike (k + 1) tys i
      where
        one : (if list_any (eqb k) p.constants then known_at t verified n p b k else None) ≡ (if list_any (eqb k) p.constants then known_at u cleans m p b k else None)
        one = elim (cases_Bool (list_any (eqb k) p.constants)) [
          | inl h ↦ ap (λ z. if list_any (eqb k) p.constants then z else None) (known_alike n m k (member p.constants constants k h))
          | inr h ↦ ap (λ c. if c then known_at t verified n p b k else None) h ∙ sym (ap (λ c. if c then known_at u cleans m p b k else None) h)
        ]

    all_known : (ks : List ℕ) → list_all near ks ≡ true → list_all (λ k. is_some (known_at t verified n p b k)) ks ≡ list_all (λ k. is_some (known_at u cleans m p b k)) ks
    all_known [] e = refl
    all_known (k ∷ ks) e =
        let parts = and_parts (near k) (list_all near ks) e in
        λ i. is_some (known_alike n m k parts.0 i) && all_known ks parts.1 i

    pub constants_alike : constants_known t verified n p b ≡ constants_known u cleans m p b
    constants_alike = all_known p.constants constants

    pub extra_alike : (k : ℕ) (fs : List ExtraConstant) (env : List Outcome) → all_near_from near k fs ≡ true → extra_known t verified n p k fs b env ≡ extra_known u cleans m p k fs b env
    extra_alike k [] env e = refl
    extra_alike k (g ∷ fs) env e =
        let parts = and_parts (near k) (all_near_from near (k + 1) fs) e in
        λ i. are_same (known_alike n m k parts.0 i) (slice_get env k) && extra_alike (k + 1) fs env parts.1 i

    -- ---- the plan
    module _ (extra : all_near_from near (extra_place p) p.extra ≡ true) where
      from_alike : (ts : BoundValues TypeTerm) (env : List Outcome) → Both (planned_from t verified n p b ts env) (planned_from u cleans m p b ts env)
      from_alike ts env =
          when_both (extra_known t verified n p (extra_place p) p.extra b env) (extra_known u cleans m p (extra_place p) p.extra b env) _ _ (extra_alike (extra_place p) p.extra env extra)
          (result_alike p.result (all_made ts env n (new_place p) p.new b) (all_made ts env m (new_place p) p.new b) (all_alike ts env p.new n m (new_place p) b b (record { places = λ k. refl }) f.below f.below))

      by_alike : (ts : BoundValues TypeTerm) (ks : List BitsKind)
          → Both (when (fits ks p && constants_known t verified n p b) (given (run (Content.given (content_with ks p)) (outcomes t verified n p 0 p.values b)) (planned_from t verified n p b ts)))
          (when (fits ks p && constants_known u cleans m p b) (given (run (Content.given (content_with ks p)) (outcomes u cleans m p 0 p.values b)) (planned_from u cleans m p b ts)))
      by_alike ts ks =
          when_both (fits ks p && constants_known t verified n p b) (fits ks p && constants_known u cleans m p b) _ _ (ap (λ z. fits ks p && z) constants_alike)
          (ap (λ env. is_some (given (run (Content.given (content_with ks p)) env) (planned_from t verified n p b ts))) (outcomes_alike 0 p.values)
          ∙ given_both (run (Content.given (content_with ks p)) (outcomes u cleans m p 0 p.values b)) (run (Content.given (content_with ks p)) (outcomes u cleans m p 0 p.values b)) (planned_from t verified n p b ts) (planned_from u cleans m p b ts) refl
          (λ env other e i. let same : env ≡ other = some_same e i in subst (λ o. Both (planned_from t verified n p b ts env) (planned_from u cleans m p b ts o)) same (from_alike ts env)))
        where
          some_same : {X : Type 0} {o : Option X} {a c : X} → o ≡ Some a → o ≡ Some c → a ≡ c
          some_same e i = cc

      pub planned_alike : (ts : BoundValues TypeTerm) → Both (planned_by t verified n p b ts) (planned_by u cleans m p b ts)
      planned_alike ts = when_both (list_all is_numeric ts) (list_all is_numeric ts) _ _ refl (by_alike ts (map bound_type ts))

pub plans_alike : PlansAlike
unfolding is_shallow planned
plans_alike p shallow t u verified cleans n m x s =
    let r = root_of p.old p shallow in
    let one = and_parts (are_near p.root r.0 (old_place p) p.old) _ r.2 in
    let two = and_parts (list_all (λ k. is_near p.root r.0 k (old_place p) p.old) p.constants) _ one.1 in
    let three = and_parts (all_near_from (λ k. is_near p.root r.0 k (old_place p) p.old) (extra_place p) p.extra) _ two.1 in
    given_both (bound same_value p.root (Result x 0) (nothing (places p))) (bound same_value p.root (Result x 0) (nothing (places p))) _ _ refl
    (λ b c e i. let same : b ≡ c = some_same e i in
    let both = matched_alike t u verified cleans x s p.root r.0 (new_place p) (places p) b e (old_place p) p.old one.0 r.1 (omega arith) three.1 in
    subst (λ z. Both (given (ops_match t verified (placed (old_place p) p.old) b) (λ c. given (typed t verified n p c) (planned_by t verified n p c))) (given (ops_match u cleans (placed (old_place p) p.old) z) (λ c. given (typed u cleans m p c) (planned_by u cleans m p c)))) same
    (given_both (ops_match t verified (placed (old_place p) p.old) b) (ops_match u cleans (placed (old_place p) p.old) b) _ _ (ap is_some both.0)
    (λ d g j h. let like : d ≡ g = some_same (sym both.0 ∙ j) h in
    let found = both.1 d j in
    subst (λ z. Both (given (typed t verified n p d) (planned_by t verified n p d)) (given (typed u cleans m p z) (planned_by u cleans m p z))) like
    (ap (λ o. is_some (given o (planned_by t verified n p d))) (typed_alike t u verified cleans x s p r.0 d found n m)
    ∙ given_both (typed u cleans m p d) (typed u cleans m p d) (planned_by t verified n p d) (planned_by u cleans m p d) refl
    (λ ts us k l. let types : ts ≡ us = some_same k l in subst (λ z. Both (planned_by t verified n p d ts) (planned_by u cleans m p d z)) types (planned_alike t u verified cleans x s p r.0 d found n m two.0 three.0 ts))))))
  where
    some_same : {X : Type 0} {o : Option X} {a c : X} → o ≡ Some a → o ≡ Some c → a ≡ c
    some_same e i = cc
