-- The outcomes of a pattern's variables and constants in a match.
use Rattle.std.proofs.Common.{◌≡◌, ℕ, zero, suc, ◌+◌, ◌<◌, ◌≤◌, ◌^◌, refl, ap, sym, ◌∙◌, subst, List, [], ◌∷◌, ◌++◌, length, map, Bool, true, true≢false, eqb, eqb-true, Option, Some, None, slice_get, inl, inr, arith}
use Rattle.std.specs.Prelude.{nat_lt, is_some, if◌then◌else◌}
use Rattle.std.specs.List.{list_all, list_any}
use Rattle.std.proofs.lemmas.Bool.{and_parts, or_cases, cases_eq, ltb-true}
use Rattle.std.proofs.lemmas.Bool.Decides.{nat_tests}
use Rattle.std.proofs.lemmas.List.{length_push}
use Rattle.std.proofs.lemmas.Option.{slice_get_past}
use Rattle.ir_types.specs.declared.bits.BitsKind.{BitsKind}
use Rattle.ir_types.specs.Bits.{bits_of, is_bits, width_of}
use Rattle.ir_types.specs.Terms.{TypeTerm}
use Rattle.ir_types.specs.Reasons.{is_width}
use Rattle.ir_tree.specs.declared.value.Value.{Value}
use Rattle.ir_tree.specs.Meaning.{Operation}
use Rattle.dialects_int.specs.Folds.{Known}
use Rattle.user_patterns_check.specs.Cases.{AreBelow}
use Rattle.user_patterns_check.specs.Outcomes.{Outcome}
use Rattle.user_patterns_check.specs.Checks.{bound}
use Rattle.user_patterns_check.proofs.Keeping.{one_known}
use Rattle.patterns_laws.proofs.KnownFolds.{given_some, given_at}
use Rattle.user_patterns_data.specs.declared.pattern.ExtraConstant.{ExtraConstant}
use Rattle.user_patterns_data.specs.Fitting.{kind_at}
use Rattle.user_patterns_data.specs.Matching.{Header, BoundValues, known, binding_at}
use Rattle.user_patterns_data.specs.Planning.{are_same, constants_known, extra_known, bound_type, known_at, outcomes}
use Rattle.user_patterns_data.specs.Shapes.{PatternModel}
use Rattle.user_patterns_data.specs.WellFormed.{is_variable}
use Rattle.ir_tree_laws.proofs.Reasoned.{some_there}
use Rattle.patterns_refinement.specs.Meaning.{Assignment, IsOfType}
use Rattle.patterns_refinement.proofs.BoundValues.{AllTyped, Stands, one_stands, standing_stands, stands_standing}
use Rattle.patterns_refinement.proofs.Trees.{TypesFound}
use Rattle.patterns_refinement.proofs.Steps.{push_last, push_other}
use Rattle.patterns_refinement.proofs.Forms.{FitThere, constant_there, kind_is}
use Rattle.patterns_refinement.proofs.Numbers.{Alike}

pub bits_below : (k : BitsKind) (n : ℕ) → is_bits k n ≡ true → n < 2 ^ width_of k
bits_below k n e = let h = and_parts (is_width (width_of k)) (nat_lt n (2 ^ width_of k)) e in ltb-true n (2 ^ width_of k) h.1

bits_are : (k : BitsKind) (n : ℕ) → is_bits k n ≡ true → bits_of k n ≡ Some (k, n)
bits_are k n e = ap (λ b. if b then Some (k, n) else None) e

module _ (t : Operation) (verified : Header → Bool) (a : Assignment) (b : BoundValues Value) (ts : BoundValues TypeTerm) where
  -- ---- the variables' values, from a place on
  pub record Begins (k : ℕ) (tys : List ℕ) (preceding : List Outcome) : Type 0 where
    pub values : List ℕ
    pub below : AreBelow (map (λ k. 2 ^ width_of k) (map (kind_at (map bound_type ts)) tys)) values
    pub env : List Outcome
    pub are : bound (map (kind_at (map bound_type ts)) tys) values preceding ≡ Some env
    pub long : length env ≡ k + length tys
    pub stays : (j : ℕ) (o : Outcome) → slice_get preceding j ≡ Some o → slice_get env j ≡ Some o
    pub shows : (j : ℕ) (v : Value) → k ≤ j → j < k + length tys → Stands j v b → slice_get env j ≡ Some (a v)

  pub begins : TypesFound a t → (k : ℕ) (tys : List ℕ) (preceding : List Outcome) → length preceding ≡ k → AllTyped t verified k tys b ts
      → ((i : ℕ) (v : Value) → i < k + length tys → binding_at i b ≡ Some v → is_some (a v) ≡ true) → Begins k tys preceding
  begins of k [] preceding l r known = record {
    values = [];
    below = tt;
    env = preceding;
    are = refl;
    long = omega (arith, l);
    stays = λ j o h. h;
    shows = λ j v low high h. absurd (omega (arith, low, high));
  }
  begins of k (ty ∷ tys) preceding l r known =
      let q = r.0 in
      let x = some_there (a q.value) (known k q.value (omega arith) (stands_standing k q.value b q.stands)) in
      let typed : IsOfType q.term (Some x.0) = subst (λ o. IsOfType q.term o) x.1 (of q.value q.term q.of_value) in
      let at : kind_at (map bound_type ts) ty ≡ x.0.0 = kind_is ts ty q.term x.0.0 q.type_stands typed.0 in
      let bits : bits_of (kind_at (map bound_type ts) ty) x.0.1 ≡ Some x.0 = ap (λ k. bits_of k x.0.1) at ∙ bits_are x.0.0 x.0.1 typed.1 in
      let ih = begins of (k + 1) tys (preceding ++ (Some x.0 ∷ [])) (length_push preceding (Some x.0) ∙ ap (λ n. n + 1) l) r.1 (λ i v m s. known i v (omega (arith, m)) s) in
      record {
        values = x.0.1 ∷ ih.values;
        below = (subst (λ k. x.0.1 < 2 ^ width_of k) (sym at) (bits_below x.0.0 x.0.1 typed.1), ih.below);
        env = ih.env;
        are =
            given_at (bits_of (kind_at (map bound_type ts) ty) x.0.1) x.0 (λ y. bound (map (kind_at (map bound_type ts)) tys) ih.values (preceding ++ (Some y ∷ []))) (Some ih.env) bits ih.are;
        long = omega (arith, ih.long);
        stays = λ j o h. ih.stays j o (push_other preceding (Some x.0) j o h);
        shows = λ j v low high s. elim (cases_eq j k) [
          | inl e ↦
              let same : v ≡ q.value = one_stands k v q.value b (subst (λ i. Stands i v b) e s) q.stands in
              ap (slice_get ih.env) (e ∙ sym l) ∙ ih.stays (length preceding) (Some x.0) (push_last preceding (Some x.0)) ∙ ap (λ o. Some o) (sym (ap a same ∙ x.1))
          | inr n ↦ ih.shows j v (omega (arith, low, n)) (omega (arith, high)) s
        ];
      }

  -- ---- the known number at a place
  -- a bound value that a verified constant defines has the constant's number as outcome
  abbrev pub AreKnown : Type 0
  AreKnown = (k : ℕ) (v : Value) (x : Known) → Stands k v b → known t verified v ≡ Some x → a v ≡ Some x

  pub are_known : FitThere t verified a b → AreKnown
  are_known fits k v x s e = constant_there t verified a v x (λ h i. fits k v h s i) e

  pub known_there : AreKnown → (n : ℕ) (p : PatternModel) (k : ℕ) (v : Value) (x : Known) → known_at t verified n p b k ≡ Some x → Stands k v b → a v ≡ Some x
  known_there knows n p k v x e s =
      let g = given_some (binding_at k b) (known t verified) x e in
      knows k v x s (ap (known t verified) (one_stands k v g.0 b s (standing_stands k g.0 b g.1)) ∙ g.2)

  module _ (n : ℕ) (p : PatternModel) where
    abbrev pub outcome_at : ℕ → Outcome
    outcome_at k = if list_any (eqb k) p.constants then known_at t verified n p b k else None

    pub outcomes_at : (k : ℕ) (tys : List ℕ) (i : ℕ) → i < length tys → slice_get (outcomes t verified n p k tys b) i ≡ Some (outcome_at (k + i))
    outcomes_at k [] i l = absurd (omega (arith, l))
    outcomes_at k (ty ∷ tys) zero l = ap (λ j. Some (outcome_at j)) (same k)
      where
        same : (k : ℕ) → k ≡ k + 0
        same k = omega arith
    outcomes_at k (ty ∷ tys) (suc i) l = outcomes_at (k + 1) tys i (omega (arith, l)) ∙ ap (λ j. Some (outcome_at j)) (same k i)
      where
        same : (k i : ℕ) → (k + 1) + i ≡ k + suc i
        same k i = omega arith

    pub outcomes_long : (k : ℕ) (tys : List ℕ) → length (outcomes t verified n p k tys b) ≡ length tys
    outcomes_long k [] = refl
    outcomes_long k (ty ∷ tys) = ap suc (outcomes_long (k + 1) tys)

    pub constants_below : (ks : List ℕ) → list_all (is_variable p) ks ≡ true → (k : ℕ) → list_any (eqb k) ks ≡ true → k < length p.values
    constants_below [] e k h = absurd (true≢false (sym h))
    constants_below (j ∷ ks) e k h =
        let parts = and_parts (is_variable p j) (list_all (is_variable p) ks) e in
        elim (or_cases (eqb k j) (list_any (eqb k) ks) h) [
          | inl i ↦ below k j (length p.values) (eqb-true k j i) parts.0
          | inr i ↦ constants_below ks parts.1 k i
        ]
      where
        below : (k j m : ℕ) → k ≡ j → nat_lt j m ≡ true → k < m
        below k j m i h = grind (arith, nat_tests)

    pub constants_are : (ks : List ℕ) → list_all (λ k. is_some (known_at t verified n p b k)) ks ≡ true → (k : ℕ) → list_any (eqb k) ks ≡ true → is_some (known_at t verified n p b k) ≡ true
    constants_are [] e k h = absurd (true≢false (sym h))
    constants_are (j ∷ ks) e k h =
        let parts = and_parts (is_some (known_at t verified n p b j)) (list_all (λ k. is_some (known_at t verified n p b k)) ks) e in
        elim (or_cases (eqb k j) (list_any (eqb k) ks) h) [
          | inl i ↦ ap (λ z. is_some (known_at t verified n p b z)) (eqb-true k j i) ∙ parts.0
          | inr i ↦ constants_are ks parts.1 k i
        ]

    -- the planner and the environment agree on the values at fixed places
    pub planner_alike : AreKnown → list_all (is_variable p) p.constants ≡ true → constants_known t verified n p b ≡ true
        → (env : List Outcome) → length env ≡ length p.values → ((j : ℕ) (v : Value) → j < length p.values → Stands j v b → slice_get env j ≡ Some (a v)) → Alike p (outcomes t verified n p 0 p.values b) env
    planner_alike knows below all env long shows = record {
      long = outcomes_long 0 p.values ∙ sym long;
      same = λ k h. elim h [
        | inl c ↦
            let l = constants_below p.constants below k c in
            let x = some_there (known_at t verified n p b k) (constants_are p.constants all k c) in
            let g = given_some (binding_at k b) (known t verified) x.0 x.1 in
            let s_at = standing_stands k g.0 b g.1 in
            outcomes_at 0 p.values k l ∙ ap (λ j. Some (outcome_at j)) (no_more k) ∙ ap (λ c. Some (if c then known_at t verified n p b k else None)) c ∙ ap (λ o. Some o) x.1
            ∙ sym (shows k g.0 l s_at ∙ ap (λ o. Some o) (known_there knows n p k g.0 x.0 x.1 s_at))
        | inr l ↦ slice_get_past (outcomes t verified n p 0 p.values b) k (omega (arith, l, outcomes_long 0 p.values)) ∙ sym (slice_get_past env k (omega (arith, l, long)))
      ];
    }
      where
        no_more : (k : ℕ) → 0 + k ≡ k
        no_more k = omega arith

    -- the extra constants have the numbers that the pattern requires
    same_there : (o : Option Known) (e : Option Outcome) → are_same o e ≡ true → (x : Known) × (o ≡ Some x) × (e ≡ Some (Some x))
    same_there None e h = absurd (true≢false (sym h))
    same_there (Some x) None h = absurd (true≢false (sym h))
    same_there (Some x) (Some None) h = absurd (true≢false (sym h))
    same_there (Some x) (Some (Some y)) h = (x, refl, ap (λ z. Some (Some z)) (sym (one_known x y h)))

    pub extra_shows : AreKnown → (env : List Outcome) (k : ℕ) (fs : List ExtraConstant) → extra_known t verified n p k fs b env ≡ true
        → (j : ℕ) (v : Value) → k ≤ j → j < k + length fs → Stands j v b → slice_get env j ≡ Some (a v)
    extra_shows knows env k [] e j v low high s = absurd (omega (arith, low, high))
    extra_shows knows env k (f ∷ fs) e j v low high s =
        let h = and_parts (are_same (known_at t verified n p b k) (slice_get env k)) (extra_known t verified n p (k + 1) fs b env) e in
        elim (cases_eq j k) [
          | inl i ↦
              let x = same_there (known_at t verified n p b k) (slice_get env k) h.0 in
              ap (slice_get env) i ∙ x.2 ∙ ap (λ o. Some o) (sym (known_there knows n p k v x.0 x.1 (subst (λ z. Stands z v b) i s)))
          | inr m ↦ extra_shows knows env (k + 1) fs h.1 j v (omega (arith, low, m)) (omega (arith, high)) s
        ]
