-- A shallow pattern matches in the same way in both trees.
use Rattle.std.proofs.Common.{◌≡◌, ℕ, ◌+◌, ◌<◌, ◌≤◌, refl, ap, sym, ◌∙◌, subst, List, [], ◌∷◌, ◌++◌, length, Bool, true, false, true≢false, ◌&&◌, ◌||◌, eqb, eqb-true, eq-eqb, map, Option, Some, None, inl, inr, ◌⊎◌, arith}
use Rattle.std.specs.Prelude.{nat_lt}
use Rattle.std.specs.List.{list_all, list_any}
use Rattle.std.proofs.lemmas.Bool.{and_parts, ltb-true, or_cases}
use Rattle.std.proofs.lemmas.Option.{none-some}
use Rattle.ir_tree.specs.declared.value.Value.{Value}
use Rattle.ir_tree.specs.declared.value.Value.TheVariants.{Result}
use Rattle.ir_tree.specs.Uses.{same_value}
use Rattle.ir_tree.specs.Meaning.{Operation}
use Rattle.ir_tree_laws.specs.Members.{In}
use Rattle.user_patterns_check.specs.Outcomes.{given}
use Rattle.patterns_laws.specs.Words.{named}
use Rattle.patterns_laws.proofs.KnownFolds.{given_some}
use Rattle.user_patterns_data.specs.declared.pattern.PatternOp.{PatternOp}
use Rattle.user_patterns_data.specs.Matching.{Header, BoundValues, all_bound, constraints_agree, bound, defining_op_head, header_matched, nothing, op_matches, ops_match, placed, binding_at, value_matched, when}
use Rattle.user_patterns_data.specs.Names.{name_of, operands_of}
use Rattle.user_patterns_data.proofs.BoundValues.{all_keep}
use Rattle.user_patterns_data.specs.Depth.{are_near, is_inner, is_near, takes, takes_below}
use Rattle.user_patterns_data.specs.Alike.{GivesAlike, ShowAlike, TypesAlike, Under}
use Rattle.user_patterns_data.proofs.ShallowStanding.{Among, Stands, all_from, all_in, all_stand, bound_from, bound_gives, nothing_stands, one_stands, stands_standing, standing_stands, when_some}

-- the last pattern op of a list
abbrev pub IsLast : PatternOp → List PatternOp → Type 0
IsLast r [] = ⊥
IsLast r (p ∷ []) = r ≡ p
IsLast r (p ∷ q ∷ ps) = IsLast r (q ∷ ps)

some_given : {X : Type 0} (o : Option X) → given o (λ x. Some x) ≡ o
some_given None = refl
some_given (Some x) = refl

given_given : {X Y Z : Type 0} (o : Option X) (f : X → Option Y) (g : Y → Option Z) → given o (λ x. given (f x) g) ≡ given (given o f) g
given_given None f g = refl
given_given (Some x) f g = refl

given_ap : {X Y : Type 0} (o : Option X) (f g : X → Option Y) → ((x : X) → f x ≡ g x) → given o f ≡ given o g
given_ap None f g h = refl
given_ap (Some x) f g h = h x

-- a match of one more pattern op after others
matched_after : (t : Operation) (verified : Header → Bool) (xs : List (ℕ × PatternOp)) (y : ℕ × PatternOp) (b : BoundValues Value) → ops_match t verified (xs ++ y ∷ []) b ≡ given (ops_match t verified xs b) (λ c. op_matches t verified y c)
matched_after t verified [] y b = some_given (op_matches t verified y b)
matched_after t verified (x ∷ xs) y b =
    given_ap (op_matches t verified x b) (λ c. ops_match t verified (xs ++ y ∷ []) c) (λ c. given (ops_match t verified xs c) (λ d. op_matches t verified y d)) (λ c. matched_after t verified xs y c)
    ∙ given_given (op_matches t verified x b) (λ c. ops_match t verified xs c) (λ d. op_matches t verified y d)

all_below : (n : ℕ) (ks : List ℕ) → list_all (λ j. nat_lt j n) ks ≡ true → (k : ℕ) → Among k ks → k < n
all_below n [] e k h = absurd (true≢false (sym h))
all_below n (j ∷ ks) e k h =
    let parts = and_parts (nat_lt j n) (list_all (λ i. nat_lt i n) ks) e in
    elim (or_cases (eqb j k) (list_any (λ i. eqb i k) ks) h) [
      | inl i ↦ subst (λ z. z < n) (eqb-true j k i) (ltb-true j n parts.0)
      | inr i ↦ all_below n ks parts.1 k i
    ]

module _ (t u : Operation) (verified cleans : Header → Bool) (x : ℕ) (s : ShowAlike t u verified cleans x) (place : ℕ) (root : PatternOp) (count total : ℕ) where
  abbrev X : Value
  X = Result x 0

  -- the bindings after a match of the pattern ops from a place on
  pub record Found (at : ℕ) (ps : List PatternOp) (b : BoundValues Value) : Type 0 where
    pub begins : Stands place X b
    pub first : (k : ℕ) (v : Value) → takes k root ≡ true → Stands k v b → Under t verified X v
    pub second : (k : ℕ) (v : Value) → is_inner root k at ps ≡ true → Stands k v b → (w : Value) × Under t verified X w × Under t verified w v
    pub types : (k : ℕ) (v : Value) → Stands k v b → TypesAlike t u verified cleans v
    pub first_stands : (k : ℕ) → takes k root ≡ true → (v : Value) × Stands k v b
    pub second_stands : (k : ℕ) → is_inner root k at ps ≡ true → (v : Value) × Stands k v b
    pub below : (k : ℕ) (v : Value) → Stands k v b → k < count

  -- near values have the same defining operations in both trees, and the operands of these have the same types
  pub near_alike : (at : ℕ) (ps : List PatternOp) (b : BoundValues Value) → Found at ps b → (k : ℕ) → is_near place root k at ps ≡ true → (v : Value) → Stands k v b
      → GivesAlike t u verified cleans v × ((w : Value) → Under t verified v w → TypesAlike t u verified cleans w)
  near_alike at ps b f k near v h = elim (or_cases (eqb place k) (takes k root || is_inner root k at ps) near) [
    | inl e ↦
        let is : X ≡ v = one_stands k X v b (subst (λ z. Stands z X b) (eqb-true place k e) f.begins) h in
        subst (λ z. GivesAlike t u verified cleans z × ((w : Value) → Under t verified z w → TypesAlike t u verified cleans w)) is (s.root.0, λ w i. (s.operands w i).1)
    | inr e ↦ elim (or_cases (takes k root) (is_inner root k at ps) e) [
      | inl i ↦ let a = f.first k v i h in ((s.operands v a).0, λ w j. (s.inner v w a j).1)
      | inr i ↦ let a = f.second k v i h in ((s.inner a.0 v a.1 a.2).0, λ w j. s.last a.0 v w a.1 a.2 j)
    ]
  ]

  -- one more pattern op is matched
  module _ (at : ℕ) (p : PatternOp) (b : BoundValues Value) (below : takes_below count p ≡ true)
      (alike : (v : Value) → Stands at v b → GivesAlike t u verified cleans v × ((w : Value) → Under t verified v w → TypesAlike t u verified cleans w)) where
    pub pattern_op_alike : op_matches t verified (at, p) b ≡ op_matches u cleans (at, p) b
    pattern_op_alike = go (binding_at at b) refl
      where
        go : (o : Option Value) → binding_at at b ≡ o → given (binding_at at b) (λ v. value_matched t verified p v b) ≡ given (binding_at at b) (λ v. value_matched u cleans p v b)
        go None e = ap (λ o. given o (λ v. value_matched t verified p v b)) e ∙ sym (ap (λ o. given o (λ v. value_matched u cleans p v b)) e)
        go (Some v) e =
            ap (λ o. given o (λ v. value_matched t verified p v b)) e
            ∙ ap (λ g. given g (λ h. header_matched t verified p h b)) (alike v (standing_stands at v b e)).0
            ∙ sym (ap (λ o. given o (λ v. value_matched u cleans p v b)) e)

    -- the bindings that it adds
    pub record Taken (c : BoundValues Value) : Type 0 where
      pub value : Value
      pub header : Header
      pub there : Stands at value b
      pub given_by : defining_op_head t verified value ≡ Some header
      pub binds : all_bound same_value (operands_of p.form) header.operands b ≡ Some c

    pub taken : (c : BoundValues Value) → op_matches t verified (at, p) b ≡ Some c → Taken c
    taken c e =
        let v = given_some (binding_at at b) (λ v. value_matched t verified p v b) c e in
        let h = given_some (defining_op_head t verified v.0) (λ h. header_matched t verified p h b) c v.2 in
        record {
          value = v.0;
          header = h.0;
          there = standing_stands at v.0 b v.1;
          given_by = h.1;
          binds = (when_some (named (name_of p.form) h.0.name && constraints_agree t verified p h.0) (all_bound same_value (operands_of p.form) h.0.operands b) c h.2).1;
        }

    module _ (c : BoundValues Value) (k : Taken c) where
      pub kept : (j : ℕ) (w : Value) → Stands j w b → Stands j w c
      kept j w h = all_keep same_value (operands_of p.form) k.header.operands b c k.binds j w h

      pub under : (j : ℕ) (w : Value) → takes j p ≡ true → Stands j w c → Under t verified k.value w
      under j w h i = (k.header, k.given_by, all_in (operands_of p.form) k.header.operands b c k.binds j h w i)

      pub stands : (j : ℕ) → takes j p ≡ true → (w : Value) × Stands j w c
      stands j h = let r = all_stand (operands_of p.form) k.header.operands b c k.binds j h in (r.0, r.1)

      pub typed : ((j : ℕ) (w : Value) → Stands j w b → TypesAlike t u verified cleans w) → (j : ℕ) (w : Value) → Stands j w c → TypesAlike t u verified cleans w
      typed old j w h = elim (all_from (operands_of p.form) k.header.operands b c k.binds j w h) [
        | inl i ↦ old j w i
        | inr i ↦ (alike k.value k.there).1 w (k.header, k.given_by, i.1)
      ]

      pub bounded : ((j : ℕ) (w : Value) → Stands j w b → j < count) → (j : ℕ) (w : Value) → Stands j w c → j < count
      bounded old j w h = elim (all_from (operands_of p.form) k.header.operands b c k.binds j w h) [
        | inl i ↦ old j w i
        | inr i ↦ all_below count (operands_of p.form) below j i.0
      ]

  -- ---- the root
  module _ (b : BoundValues Value) (binds : bound same_value place X (nothing total) ≡ Some b) where
    pub only : (j : ℕ) (w : Value) → Stands j w b → (j ≡ place) × (w ≡ X)
    only j w h = elim (bound_from place X (nothing total) b binds j w h) [
      | inl i ↦ absurd (nothing_stands total j w i)
      | inr i ↦ i
    ]

    pub root_alike : (v : Value) → Stands place v b → GivesAlike t u verified cleans v × ((w : Value) → Under t verified v w → TypesAlike t u verified cleans w)
    root_alike v h = subst (λ z. GivesAlike t u verified cleans z × ((w : Value) → Under t verified z w → TypesAlike t u verified cleans w)) (sym (only place v h).1) (s.root.0, λ w i. (s.operands w i).1)

    module _ (below : takes_below count root ≡ true) (few : place < count) (c : BoundValues Value) (k : Taken place root b below root_alike c) where
      is_root : k.value ≡ X
      is_root = (only place k.value k.there).1

      begins : Stands place X c
      begins = kept place root b below root_alike c k place X (bound_gives place X (nothing total) b binds)

      first : (j : ℕ) (w : Value) → takes j root ≡ true → Stands j w c → Under t verified X w
      first j w h i = subst (λ z. Under t verified z w) is_root (under place root b below root_alike c k j w h i)

      inner_parts : (j : ℕ) → is_inner root j place (root ∷ []) ≡ true → (takes place root ≡ true) × (takes j root ≡ true)
      inner_parts j h = elim (or_cases (takes place root && takes j root) false h) [
        | inl i ↦ and_parts (takes place root) (takes j root) i
        | inr i ↦ absurd (true≢false (sym i))
      ]

      pub root_found : Found place (root ∷ []) c
      root_found = record {
        begins = begins;
        first = first;
        second = λ j w h i. let parts = inner_parts j h in (X, first place X parts.0 begins, first j w parts.1 i);
        types = typed place root b below root_alike c k (λ j w h. subst (λ z. TypesAlike t u verified cleans z) (sym (only j w h).1) s.root.1);
        first_stands = stands place root b below root_alike c k;
        second_stands = λ j h. stands place root b below root_alike c k j (inner_parts j h).1;
        below = bounded place root b below root_alike c k (λ j w h. subst (λ z. z < count) (sym (only j w h).0) few);
      }

  -- ---- another
  module _ (at : ℕ) (p : PatternOp) (ps : List PatternOp) (b : BoundValues Value) (f : Found (at + 1) ps b) (near : is_near place root at (at + 1) ps ≡ true) (below : takes_below count p ≡ true) where
    pub other_alike : (v : Value) → Stands at v b → GivesAlike t u verified cleans v × ((w : Value) → Under t verified v w → TypesAlike t u verified cleans w)
    other_alike v h = near_alike (at + 1) ps b f at near v h

    module _ (c : BoundValues Value) (k : Taken at p b below other_alike c) where
      keeps : (j : ℕ) (w : Value) → Stands j w b → Stands j w c
      keeps = kept at p b below other_alike c k

      -- bound values stay bound, to the same values
      located : (j : ℕ) (w z : Value) → Stands j w b → Stands j z c → w ≡ z
      located j w z h i = one_stands j w z c (keeps j w h) i

      pub other_found : Found at (p ∷ ps) c
      other_found = record {
        begins = keeps place X f.begins;
        first = λ j v h i. let w = f.first_stands j h in subst (λ z. Under t verified X z) (located j w.0 v w.1 i) (f.first j w.0 h w.1);
        second = λ j v h i. elim (or_cases (takes at root && takes j p) (is_inner root j (at + 1) ps) h) [
          | inl e ↦ let parts = and_parts (takes at root) (takes j p) e in (k.value, f.first at k.value parts.0 k.there, under at p b below other_alike c k j v parts.1 i)
          | inr e ↦ let w = f.second_stands j e in subst (λ z. (y : Value) × Under t verified X y × Under t verified y z) (located j w.0 v w.1 i) (f.second j w.0 e w.1)
        ];
        types = typed at p b below other_alike c k f.types;
        first_stands = λ j h. let w = f.first_stands j h in (w.0, keeps j w.0 w.1);
        second_stands = λ j h. elim (or_cases (takes at root && takes j p) (is_inner root j (at + 1) ps) h) [
          | inl e ↦ stands at p b below other_alike c k j (and_parts (takes at root) (takes j p) e).1
          | inr e ↦ let w = f.second_stands j e in (w.0, keeps j w.0 w.1)
        ];
        below = bounded at p b below other_alike c k f.below;
      }

  -- ---- all of them
  module _ (b : BoundValues Value) (binds : bound same_value place X (nothing total) ≡ Some b) where
    pub matched_alike : (at : ℕ) (ps : List PatternOp) → are_near place root at ps ≡ true → IsLast root ps → at + length ps ≤ count → list_all (takes_below count) ps ≡ true
        → (ops_match t verified (placed at ps) b ≡ ops_match u cleans (placed at ps) b) × ((c : BoundValues Value) → ops_match t verified (placed at ps) b ≡ Some c → Found at ps c)
    matched_alike at [] near last few below = absurd (true≢false (sym near))
    matched_alike at (p ∷ []) near last few below =
        let is : place ≡ at = eqb-true place at near in
        let own : takes_below count root ≡ true = subst (λ z. takes_below count z ≡ true) (sym last) (and_parts (takes_below count p) true below).0 in
        let l : place < count = omega (arith, is, few) in
        let both : (ops_match t verified (placed place (root ∷ [])) b ≡ ops_match u cleans (placed place (root ∷ [])) b) × ((c : BoundValues Value) → ops_match t verified (placed place (root ∷ [])) b ≡ Some c → Found place (root ∷ []) c) = (
          some_given (op_matches t verified (place, root) b) ∙ pattern_op_alike place root b own (root_alike b binds) ∙ sym (some_given (op_matches u cleans (place, root) b)),
          λ c e. root_found b binds own l c (taken place root b own (root_alike b binds) c (sym (some_given (op_matches t verified (place, root) b)) ∙ e)),
        ) in
        subst (λ z. (ops_match t verified (placed z (p ∷ [])) b ≡ ops_match u cleans (placed z (p ∷ [])) b) × ((c : BoundValues Value) → ops_match t verified (placed z (p ∷ [])) b ≡ Some c → Found z (p ∷ []) c)) is
        (subst (λ q. (ops_match t verified (placed place (q ∷ [])) b ≡ ops_match u cleans (placed place (q ∷ [])) b) × ((c : BoundValues Value) → ops_match t verified (placed place (q ∷ [])) b ≡ Some c → Found place (q ∷ []) c)) last both)
    matched_alike at (p ∷ q ∷ ps) near last few below =
        let nears = and_parts (is_near place root at (at + 1) (q ∷ ps)) (are_near place root (at + 1) (q ∷ ps)) near in
        let belows = and_parts (takes_below count p) (list_all (takes_below count) (q ∷ ps)) below in
        let r = matched_alike (at + 1) (q ∷ ps) nears.1 last (omega (arith, few)) belows.1 in (
          matched_after t verified (placed (at + 1) (q ∷ ps)) (at, p) b ∙ same nears.0 belows.0 r ∙ sym (matched_after u cleans (placed (at + 1) (q ∷ ps)) (at, p) b),
          λ c e.
              let g = given_some (ops_match t verified (placed (at + 1) (q ∷ ps)) b) (λ d. op_matches t verified (at, p) d) c (sym (matched_after t verified (placed (at + 1) (q ∷ ps)) (at, p) b) ∙ e) in
              let f = r.1 g.0 g.1 in
              other_found at p (q ∷ ps) g.0 f nears.0 belows.0 c (taken at p g.0 belows.0 (other_alike at p (q ∷ ps) g.0 f nears.0 belows.0) c g.2),
        )
      where
        same : is_near place root at (at + 1) (q ∷ ps) ≡ true → takes_below count p ≡ true
            → (ops_match t verified (placed (at + 1) (q ∷ ps)) b ≡ ops_match u cleans (placed (at + 1) (q ∷ ps)) b) × ((c : BoundValues Value) → ops_match t verified (placed (at + 1) (q ∷ ps)) b ≡ Some c → Found (at + 1) (q ∷ ps) c)
            → given (ops_match t verified (placed (at + 1) (q ∷ ps)) b) (λ c. op_matches t verified (at, p) c) ≡ given (ops_match u cleans (placed (at + 1) (q ∷ ps)) b) (λ c. op_matches u cleans (at, p) c)
        same near below r = go (ops_match t verified (placed (at + 1) (q ∷ ps)) b) refl
          where
            go : (o : Option (BoundValues Value)) → ops_match t verified (placed (at + 1) (q ∷ ps)) b ≡ o
                → given (ops_match t verified (placed (at + 1) (q ∷ ps)) b) (λ c. op_matches t verified (at, p) c) ≡ given (ops_match u cleans (placed (at + 1) (q ∷ ps)) b) (λ c. op_matches u cleans (at, p) c)
            go None e = ap (λ o. given o (λ c. op_matches t verified (at, p) c)) e ∙ sym (ap (λ o. given o (λ c. op_matches u cleans (at, p) c)) (sym r.0 ∙ e))
            go (Some c) e =
                ap (λ o. given o (λ c. op_matches t verified (at, p) c)) e
                ∙ pattern_op_alike at p c below (other_alike at p (q ∷ ps) c (r.1 c e) near below)
                ∙ sym (ap (λ o. given o (λ c. op_matches u cleans (at, p) c)) (sym r.0 ∙ e))
