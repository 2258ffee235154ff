-- A match with all operations whose matched operations are verified is a match. The order of the tests doesn't
-- matter.
use Rattle.std.proofs.Common.{◌≡◌, ℕ, refl, ap, sym, ◌∙◌, List, [], ◌∷◌, Bool, true, false, ◌&&◌, true≢false, Option, Some, None, slice_get, map, option_map}
use Rattle.std.specs.Prelude.{codes, eqb, is_some}
use Rattle.std.specs.List.{list_all}
use Rattle.ir_event.specs.types.Terms.{TypeTerm}
use Rattle.ir_event.specs.trees.declared.value.Value.{Value}
use Rattle.ir_event.specs.trees.declared.value.Value.TheVariants.{Result, Arg}
use Rattle.ir_event.specs.trees.Tree.{head}
use Rattle.ir_event.specs.trees.Ids.{find}
use Rattle.ir_event.specs.trees.Uses.{same_value}
use Rattle.ir_event.specs.trees.Meaning.{Operation}
use Rattle.dialects_int.specs.Folds.{fold_of}
use Rattle.patterns_base.specs.Words.{named}
use Rattle.patterns_base.specs.Keeps.{given as given_base}
use Rattle.patterns_base.specs.Looks.{is_constant, is_of_constant}
use Rattle.patterns_base.specs.Looks as looks
use Rattle.patterns_matchers.specs.Reads.{verified_defining_op}
use Rattle.user_patterns_check.specs.Contents.{Content}
use Rattle.user_patterns_check.specs.Outcomes.{given, run}
use Rattle.user_patterns_data.specs.declared.pattern.PatternOp.{PatternOp}
use Rattle.user_patterns_data.specs.Fitting.{content_with, fits}
use Rattle.user_patterns_data.specs.Matching.{Header, BoundValues, bound, defining_op_head, header_matched, known, nothing, ops_match, placed, binding_at, value_matched, when}
use Rattle.user_patterns_data.specs.Planning.{Plan, is_numeric, bound_type, old_place, outcomes, places, planned, planned_by, planned_from, typed}
use Rattle.user_patterns_data.specs.Shapes.{PatternModel}
use Rattle.user_patterns_data.proofs.BoundValues.{pattern_ops_stand}
use Rattle.user_patterns_apply.specs.Built.{plan_of}
use Rattle.user_patterns_build.specs.CanBuild.{can_build}
use Rattle.user_patterns_apply.specs.Matched.{all_verified, any, is_verified_value, is_constant_value, is_first, matched}
use Rattle.ir_event.proofs.of_trees.Counts.{and_false}

pub when_none : {X : Type 0} (b : Bool) → when {X = X} b None ≡ None
when_none true = refl
when_none false = refl

module _ (t : Operation) (verified : Header → Bool) where
  -- the verified defining operation is the defining operation, if it is verified
  defining_op_split : (v : Value) → defining_op_head t verified v ≡ given (defining_op_head t any v) (λ h. when (verified h) (Some h))
  defining_op_split (Arg x r k) = refl
  defining_op_split (Result x k) = go (option_map (λ o. head o) (find x t)) (eqb k 0)
    where
      go : (o : Option Header) (first : Bool) → given o (λ h. when (verified h && first) (Some h)) ≡ given (given o (λ h. when (any h && first) (Some h))) (λ h. when (verified h) (Some h))
      go None first = refl
      go (Some h) true = ap (λ b. when b (Some h)) (and_true (verified h))
        where
          and_true : (b : Bool) → (b && true) ≡ b
          and_true true = refl
          and_true false = refl
      go (Some h) false = ap (λ b. when b (Some h)) (and_false (verified h))

  abbrev Cleaned : List (ℕ × PatternOp) → BoundValues Value → Type 0
  Cleaned ps b = given (ops_match t any ps b) (λ c. when (all_verified t verified c ps) (Some c)) ≡ ops_match t verified ps b

  module _ (p : ℕ × PatternOp) (ps : List (ℕ × PatternOp)) (more : (b : BoundValues Value) → Cleaned ps b) (b : BoundValues Value) where
    abbrev rest_with : Bool → BoundValues Value → Option (BoundValues Value)
    rest_with first c = when (first && all_verified t verified c ps) (Some c)

    -- if there is a defining operation
    module _ (v : Value) (h : Header) (c : BoundValues Value) (there : slice_get b p.0 ≡ Some (Some v)) (defining : defining_op_head t any v ≡ Some h) (is : header_matched t any p.1 h b ≡ Some c) where
      whole : ops_match t any (p ∷ ps) b ≡ ops_match t any ps c
      whole =
          ap (λ s. given (given (given s (λ x. x)) (λ v. value_matched t any p.1 v b)) (ops_match t any ps)) there
          ∙ ap (λ g. given (given g (λ h. header_matched t any p.1 h b)) (ops_match t any ps)) defining
          ∙ ap (λ r. given r (ops_match t any ps)) is

      own : (d : BoundValues Value) → ops_match t any ps c ≡ Some d → is_verified_value t verified (binding_at p.0 d) ≡ verified h
      own d e =
          ap (λ s. is_verified_value t verified (given s (λ x. x))) (pattern_ops_stand t any (p ∷ ps) b d (whole ∙ e) p.0 v there)
          ∙ ap is_some (defining_op_split v ∙ ap (λ g. given g (λ h. when (verified h) (Some h))) defining) ∙ test (verified h)
        where
          test : (z : Bool) → is_some (when z (Some h)) ≡ z
          test true = refl
          test false = refl

      ends : (r : Option (BoundValues Value)) → ops_match t any ps c ≡ r → (z : Bool) → verified h ≡ z
          → given r (λ d. when (all_verified t verified d (p ∷ ps)) (Some d)) ≡ given (when z (Some c)) (ops_match t verified ps)
      ends None e true f = ap (λ r. given r (λ d. when (all_verified t verified d ps) (Some d))) (sym e) ∙ more c
      ends None e false f = refl
      ends (Some d) e true f =
          ap (λ z. when (z && all_verified t verified d ps) (Some d)) (own d e ∙ f)
          ∙ ap (λ r. given r (λ d. when (all_verified t verified d ps) (Some d))) (sym e) ∙ more c
      ends (Some d) e false f = ap (λ z. when (z && all_verified t verified d ps) (Some d)) (own d e ∙ f)

    by_header : (v : Value) (h : Header) → slice_get b p.0 ≡ Some (Some v) → defining_op_head t any v ≡ Some h → (r : Option (BoundValues Value)) → header_matched t any p.1 h b ≡ r
        → given (given r (ops_match t any ps)) (λ d. when (all_verified t verified d (p ∷ ps)) (Some d)) ≡ given (given (when (verified h) (Some h)) (λ h. header_matched t verified p.1 h b)) (ops_match t verified ps)
    by_header v h there defining None e = sym (ends_none (verified h))
      where
        ends_none : (z : Bool) → given (given (when z (Some h)) (λ h. header_matched t verified p.1 h b)) (ops_match t verified ps) ≡ None
        ends_none true = ap (λ r. given r (ops_match t verified ps)) e
        ends_none false = refl
    by_header v h there defining (Some c) e = ends v h c there defining e (ops_match t any ps c) refl (verified h) refl ∙ sym (turned (verified h))
      where
        turned : (z : Bool) → given (given (when z (Some h)) (λ h. header_matched t verified p.1 h b)) (ops_match t verified ps) ≡ given (when z (Some c)) (ops_match t verified ps)
        turned true = ap (λ r. given r (ops_match t verified ps)) e
        turned false = refl

    by_defining_op : (v : Value) → slice_get b p.0 ≡ Some (Some v) → (g : Option Header) → defining_op_head t any v ≡ g
        → given (given (given g (λ h. header_matched t any p.1 h b)) (ops_match t any ps)) (λ d. when (all_verified t verified d (p ∷ ps)) (Some d))
        ≡ given (given (given g (λ h. when (verified h) (Some h))) (λ h. header_matched t verified p.1 h b)) (ops_match t verified ps)
    by_defining_op v there None e = refl
    by_defining_op v there (Some h) e = by_header v h there e (header_matched t any p.1 h b) refl

    by_value : (s : Option (Option Value)) → slice_get b p.0 ≡ s
        → given (given (given (given s (λ x. x)) (λ v. value_matched t any p.1 v b)) (ops_match t any ps)) (λ d. when (all_verified t verified d (p ∷ ps)) (Some d))
        ≡ given (given (given s (λ x. x)) (λ v. value_matched t verified p.1 v b)) (ops_match t verified ps)
    by_value None e = refl
    by_value (Some None) e = refl
    by_value (Some (Some v)) e =
        by_defining_op v e (defining_op_head t any v) refl
        ∙ ap (λ g. given (given g (λ h. header_matched t verified p.1 h b)) (ops_match t verified ps)) (sym (defining_op_split v))

    one_more : Cleaned (p ∷ ps) b
    one_more = by_value (slice_get b p.0) refl

  pattern_ops_verified : (ps : List (ℕ × PatternOp)) (b : BoundValues Value) → Cleaned ps b
  pattern_ops_verified [] b = refl
  pattern_ops_verified (p ∷ ps) b = one_more p ps (pattern_ops_verified ps) b

  -- ---- a plan

  module _ (n : ℕ) (p : PatternModel) (x : ℕ) where
    abbrev ps : List (ℕ × PatternOp)
    ps = placed (old_place p) p.old

    abbrev after_types : BoundValues Value → Option Plan
    after_types c = given (typed t verified n p c) (planned_by t verified n p c)

    pub planned_is : planned t verified n p x ≡ given (bound same_value p.root (Result x 0) (nothing (places p))) (λ b. given (ops_match t verified (placed (old_place p) p.old) b) (λ c. given (typed t verified n p c) (planned_by t verified n p c)))
    unfolding planned
    planned_is = refl

    -- first the match with all operations, and then the test that they are verified
    pub in_order : planned t verified n p x ≡ given (matched t any p x) (λ c. when (all_verified t verified c (placed (old_place p) p.old)) (given (typed t verified n p c) (planned_by t verified n p c)))
    in_order = planned_is ∙ go (bound same_value p.root (Result x 0) (nothing (places p)))
      where
        chosen : (c : BoundValues Value) (z : Bool) → given (when z (Some c)) after_types ≡ when z (after_types c)
        chosen c true = refl
        chosen c false = refl

        moved : (r : Option (BoundValues Value)) → given (given r (λ c. when (all_verified t verified c ps) (Some c))) after_types ≡ given r (λ c. when (all_verified t verified c ps) (after_types c))
        moved None = refl
        moved (Some c) = chosen c (all_verified t verified c ps)

        go : (b : Option (BoundValues Value)) → given b (λ b. given (ops_match t verified ps b) after_types) ≡ given (given b (λ b. ops_match t any ps b)) (λ c. when (all_verified t verified c ps) (after_types c))
        go None = refl
        go (Some b) = ap (λ r. given r after_types) (sym (pattern_ops_verified ps b)) ∙ moved (ops_match t any ps b)

    abbrev Of : Option Plan → Type 0
    Of r = r ≡ plan_of t verified n p x

    pub plan_of_none : planned t verified n p x ≡ None → None ≡ plan_of t verified n p x
    plan_of_none e = sym (ap (when (can_build p)) e ∙ when_none (can_build p))

    pub not_buildable : (b : Bool) → b ≡ can_build p → b ≡ false → None ≡ plan_of t verified n p x
    not_buildable b e f = sym (ap (λ z. when z (planned t verified n p x)) (sym e ∙ f))

    pub not_matched : None ≡ matched t any p x → None ≡ plan_of t verified n p x
    not_matched e = plan_of_none (in_order ∙ ap (λ r. given r (λ c. when (all_verified t verified c ps) (after_types c))) (sym e))

    module _ (c : BoundValues Value) (is : Some c ≡ matched t any p x) where
      here : planned t verified n p x ≡ when (all_verified t verified c ps) (after_types c)
      here = in_order ∙ ap (λ r. given r (λ c. when (all_verified t verified c ps) (after_types c))) (sym is)

      pub not_verified : (b : Bool) → b ≡ all_verified t verified c (placed (old_place p) p.old) → b ≡ false → None ≡ plan_of t verified n p x
      not_verified b e f = plan_of_none (here ∙ ap (λ z. when z (after_types c)) (sym e ∙ f))

      pub not_typed : None ≡ typed t verified n p c → None ≡ plan_of t verified n p x
      not_typed e = plan_of_none (here ∙ ap (λ r. when (all_verified t verified c ps) (given r (planned_by t verified n p c))) (sym e) ∙ when_none (all_verified t verified c ps))

      pub makes : (a : Bool) → a ≡ can_build p → a ≡ true → (b : Bool) → b ≡ all_verified t verified c (placed (old_place p) p.old) → b ≡ true → (ts : BoundValues TypeTerm) → Some ts ≡ typed t verified n p c
          → (r : Option Plan) → r ≡ planned_by t verified n p c ts → r ≡ plan_of t verified n p x
      makes a e f b g h ts typed_is r by =
          by ∙ ap (λ s. given s (planned_by t verified n p c)) typed_is ∙ sym (here ∙ ap (λ z. when z (after_types c)) (sym g ∙ h)) ∙ ap (λ z. when z (planned t verified n p x)) (sym (sym e ∙ f))

-- ---- constants by their names

module _ (t : Operation) (verified : Header → Bool) where
  unknown : (v : Value) → is_constant t v ≡ false → known t verified v ≡ None
  unknown (Arg x r k) e = refl
  unknown (Result x k) e = go (option_map (λ o. head o) (find x t)) e
    where
      hidden : (h : Header) (z : Bool) → named (codes "arith.constant") h.name ≡ false → given (when z (Some h)) (λ h. when (named (codes "arith.constant") h.name) (fold_of h.name h.properties [] h.results)) ≡ None
      hidden h true e = ap (λ b. when b (fold_of h.name h.properties [] h.results)) e
      hidden h false e = refl

      go : (o : Option Header) → is_of_constant o ≡ false → given (given o (λ h. when (verified h && eqb k 0) (Some h))) (λ h. when (named (codes "arith.constant") h.name) (fold_of h.name h.properties [] h.results)) ≡ None
      go None e = refl
      go (Some h) e = hidden h (verified h && eqb k 0) e

  unknown_at : (s : Option Value) → is_constant_value t s ≡ false → given s (known t verified) ≡ None
  unknown_at None e = refl
  unknown_at (Some v) e = unknown v e

  some_unknown : (c : BoundValues Value) (ks : List ℕ) → list_all (λ (k : ℕ). is_constant_value t (binding_at k c)) ks ≡ false → list_all (λ k. is_some (given (binding_at k c) (known t verified))) ks ≡ false
  some_unknown c [] e = absurd (true≢false e)
  some_unknown c (k ∷ ks) e = go (some_unknown c ks) (is_constant_value t (binding_at k c)) refl e
    where
      go : (list_all (λ (k : ℕ). is_constant_value t (binding_at k c)) ks ≡ false → list_all (λ k. is_some (given (binding_at k c) (known t verified))) ks ≡ false) → (z : Bool) → is_constant_value t (binding_at k c) ≡ z → (z && list_all (λ (k : ℕ). is_constant_value t (binding_at k c)) ks) ≡ false → list_all (λ k. is_some (given (binding_at k c) (known t verified))) (k ∷ ks) ≡ false
      go more true f e = ap (λ z. is_some (given (binding_at k c) (known t verified)) && z) (more e) ∙ and_false (is_some (given (binding_at k c) (known t verified)))
      go more false f e = ap (λ r. is_some r && list_all (λ k. is_some (given (binding_at k c) (known t verified))) ks) (unknown_at (binding_at k c) f)

  module _ (n : ℕ) (p : PatternModel) where
    unknown_plan : (c : BoundValues Value) → list_all (λ (k : ℕ). is_constant_value t (binding_at k c)) p.constants ≡ false → (ts : BoundValues TypeTerm) → planned_by t verified n p c ts ≡ None
    unknown_plan c e ts =
        ap (when (list_all is_numeric ts)) (ap (λ z. when (fits (map bound_type ts) p && z) (given (run (Content.given (content_with (map bound_type ts) p)) (outcomes t verified n p 0 p.values c)) (planned_from t verified n p c ts))) (some_unknown c p.constants e)
        ∙ ap (λ z. when z (given (run (Content.given (content_with (map bound_type ts) p)) (outcomes t verified n p 0 p.values c)) (planned_from t verified n p c ts))) (and_false (fits (map bound_type ts) p)))
        ∙ when_none (list_all is_numeric ts)

    pub not_constants : (x : ℕ) (c : BoundValues Value) → Some c ≡ matched t any p x → (b : Bool) → b ≡ list_all (λ (k : ℕ). is_constant_value t (binding_at k c)) p.constants → b ≡ false → None ≡ plan_of t verified n p x
    not_constants x c is b e f =
        plan_of_none t verified n p x (here t verified n p x c is ∙ ap (when (all_verified t verified c (placed (old_place p) p.old))) (go (typed t verified n p c)) ∙ when_none (all_verified t verified c (placed (old_place p) p.old)))
      where
        go : (r : Option (BoundValues TypeTerm)) → given r (planned_by t verified n p c) ≡ None
        go None = refl
        go (Some ts) = unknown_plan c (sym e ∙ f) ts

-- the known number of a first result
known_is : (t : Operation) (v : Value) → looks.known t v ≡ given_base (looks.source t (codes "arith.constant") v) looks.constant_value
unfolding looks.known
known_is t v = refl

pub known_first : (t : Operation) (v : Value) → is_first v ≡ true → looks.known t v ≡ known t (looks.is_verified t) v
known_first t (Arg x r k) e = absurd cc
known_first t (Result x k) e = known_is t (Result x k) ∙ go (option_map (λ o. head o) (find x t)) (eqb k 0) e
  where
    tests : (h : Header) (a b : Bool) → given_base (looks.when (a && b) (Some h)) looks.constant_value ≡ given (when (b && true) (Some h)) (λ h. when a (fold_of h.name h.properties [] h.results))
    tests h true true = refl
    tests h true false = refl
    tests h false true = refl
    tests h false false = refl

    named_again : (h : Header) (b : Bool) → given (when (b && true) (Some h)) (λ z. when (named (codes "arith.constant") h.name) (fold_of z.name z.properties [] z.results))
        ≡ given (when (b && true) (Some h)) (λ h. when (named (codes "arith.constant") h.name) (fold_of h.name h.properties [] h.results))
    named_again h true = refl
    named_again h false = refl

    go : (o : Option Header) (first : Bool) → first ≡ true → given_base (given_base o (λ h. looks.when (named (codes "arith.constant") h.name && looks.is_verified t h) (Some h))) looks.constant_value
        ≡ given (given o (λ h. when (looks.is_verified t h && first) (Some h))) (λ h. when (named (codes "arith.constant") h.name) (fold_of h.name h.properties [] h.results))
    go None first e = refl
    go (Some h) false e = absurd cc
    go (Some h) true e = tests h (named (codes "arith.constant") h.name) (looks.is_verified t h) ∙ named_again h (looks.is_verified t h)

-- whether a verified operation defines a first result
pub verified_first : (t : Operation) (v : Value) → is_first v ≡ true → is_some (verified_defining_op t v) ≡ is_some (defining_op_head t (looks.is_verified t) v)
verified_first t (Arg x r k) e = absurd cc
verified_first t (Result x k) e = go (option_map (λ o. head o) (find x t)) (eqb k 0) e
  where
    tests : (h : Header) (b : Bool) → is_some (looks.when b (Some h)) ≡ is_some (when (b && true) (Some h))
    tests h true = refl
    tests h false = refl

    go : (o : Option Header) (first : Bool) → first ≡ true → is_some (given_base o (λ h. looks.when (looks.is_verified t h) (Some h))) ≡ is_some (given o (λ h. when (looks.is_verified t h && first) (Some h)))
    go None first e = refl
    go (Some h) false e = absurd cc
    go (Some h) true e = tests h (looks.is_verified t h)
