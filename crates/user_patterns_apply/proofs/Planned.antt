-- The rewrite plan, computed from the bindings of a match.
use Rattle.std.proofs.Common.{append_assoc, ◌≡◌, ℕ, zero, suc, refl, ap, sym, ◌∙◌, subst, List, [], ◌∷◌, ◌++◌, length, take, drop, map, Bool, true, false, ◌&&◌, true≢false, Option, Some, None, arith}
use Rattle.std.specs.Prelude.{IfOk, Result, option_map}
use Rattle.std.specs.List.{list_all}
use Rattle.ir_event.specs.types.Things.{ContextModel}
use Rattle.ir_event.specs.types.Terms.{TypeTerm}
use Rattle.ir_event.specs.types.declared.bits.BitsKind.{BitsKind}
use Rattle.ir_event.specs.trees.declared.value.Value.{Value}
use Rattle.ir_event.specs.trees.Meaning.{Operation}
use Rattle.user_patterns_check.specs.Checks as check
use Rattle.user_patterns_check.specs.Contents.{Content}
use Rattle.user_patterns_check.specs.Outcomes.{Outcome, given, run}
use Rattle.user_patterns_check.specs.declared.step.Step.{Step}
use Rattle.user_patterns_data.specs.declared.pattern.PatternType.{PatternType}
use Rattle.user_patterns_data.specs.declared.pattern.PatternType.TheVariants as kind
use Rattle.user_patterns_data.specs.declared.pattern.NewValue.{NewValue}
use Rattle.user_patterns_data.specs.Fitting.{content_with, fits}
use Rattle.user_patterns_data.specs.Matching.{Header, BoundValues, binding_at, when, written}
use Rattle.user_patterns_data.specs.Planning.{Plan, all_made, constants_known, extra_known, extra_place, is_numeric, bound_type, new_place, outcomes, planned_by, planned_from, typed}
use Rattle.user_patterns_data.specs.Shapes.{PatternModel}
use Rattle.user_patterns_apply.specs.Built.{AreAllMade, as_operands, made_in, operand_in, operands_in}
use Rattle.user_patterns_apply.specs.Mismatches.{Test, typed_tests, typed_tests_over}
use Rattle.user_patterns_apply.specs.Stands.{Stands}
use Rattle.user_patterns_apply.specs.Types.{AreTypesOf, type_in, typed_over, types_in, written_of}
use Rattle.user_patterns_apply.specs.declared.rewrite_plan.NewOp.{NewOp}
use Rattle.user_patterns_apply.specs.declared.rewrite_plan.Operand.{Operand}
use Rattle.user_patterns_apply.specs.declared.types.BoundType.{BoundType}
use Rattle.user_patterns_apply.proofs.Additions.{as_values, value_standing}
use Rattle.user_patterns_apply.proofs.Binding.{stands_no, stands_yes}

-- a fully borrowed slice is the whole list after the call
pub whole_again : {X : Type 0} (len : ℕ) (new old : List X) → length new ≡ len → take len (new ++ drop (length new) old) ≡ new
whole_again len new old is = ap (λ n. take n (new ++ drop (length new) old)) (sym is) ∙ preceding new (drop (length new) old)
  where
    preceding : {X : Type 0} (xs ys : List X) → take (length xs) (xs ++ ys) ≡ xs
    preceding [] ys = refl
    preceding (x ∷ xs) ys = ap (λ z. x ∷ z) (preceding xs ys)

-- ---- kinds of types

module _ (c : ContextModel) (ts : List (Option BoundType)) (t : Option BoundType) (rest : List (Option BoundType)) (split : ts ≡ t ∷ rest) where
  pub types_left : AreTypesOf c ts → AreTypesOf c rest
  types_left all = λ k d l. (subst (AreTypesOf c) split all) (suc k) d (omega (arith, l))

  pub kinds_more : (ks after : List BitsKind) (k : BitsKind) → after ≡ ks ++ k ∷ [] → k ≡ bound_type (option_map (type_in c) t) → (total : List BitsKind) → ks ++ map bound_type (types_in c ts) ≡ total → after ++ map bound_type (types_in c rest) ≡ total
  kinds_more ks after k push is total same =
      ap (λ z. z ++ map bound_type (types_in c rest)) (push ∙ ap (λ z. ks ++ z ∷ []) is)
      ∙ append_assoc ks (bound_type (option_map (type_in c) t) ∷ []) (map bound_type (types_in c rest))
      ∙ ap (λ z. ks ++ map bound_type (types_in c z)) (sym split) ∙ same

  pub numeric_more : (b : Bool) → b ≡ is_numeric (option_map (type_in c) t) → b ≡ true → (total : Bool) → list_all is_numeric (types_in c ts) ≡ total → list_all is_numeric (types_in c rest) ≡ total
  numeric_more b is whole total same =
      ap (λ z. z && list_all is_numeric (types_in c rest)) (sym whole ∙ is)
      ∙ ap (λ z. list_all is_numeric (types_in c z)) (sym split) ∙ same

  pub one_not_numeric : (b : Bool) → b ≡ is_numeric (option_map (type_in c) t) → b ≡ false → (total : Bool) → list_all is_numeric (types_in c ts) ≡ total → false ≡ total
  one_not_numeric b is failed total same =
      ap (λ z. z && list_all is_numeric (types_in c rest)) (sym failed ∙ is)
      ∙ ap (λ z. list_all is_numeric (types_in c z)) (sym split) ∙ same

-- ---- concrete types

pub written_are : (c : ContextModel) (ks : List PatternType) → AreTypesOf c (map written_of ks)
written_are c [] = λ k d l. absurd (omega (arith, l))
written_are c (kind.Concrete b ∷ ks) = at_first (written_are c ks)
  where
    at_first : AreTypesOf c (map written_of ks) → AreTypesOf c (map written_of (kind.Concrete b ∷ ks))
    at_first more zero d l = tt
    at_first more (suc k) d l = more k d (omega (arith, l))
written_are c (kind.Variable v ∷ ks) = at_first (written_are c ks)
  where
    at_first : AreTypesOf c (map written_of ks) → AreTypesOf c (map written_of (kind.Variable v ∷ ks))
    at_first more zero d l = tt
    at_first more (suc k) d l = more k d (omega (arith, l))

pub written_in : (c : ContextModel) (ks : List PatternType) → types_in c (map written_of ks) ≡ map written ks
written_in c [] = refl
written_in c (kind.Concrete b ∷ ks) = ap (λ z. written (kind.Concrete b) ∷ z) (written_in c ks)
written_in c (kind.Variable v ∷ ks) = ap (λ z. written (kind.Variable v) ∷ z) (written_in c ks)

module _ (t : Operation) (verified : Header → Bool) (n : ℕ) (p : PatternModel) (b : BoundValues Value) (c : ContextModel) (old new : List (Option BoundType)) (is : old ≡ map written_of p.value_types) (r : Bool) (stands : Stands (typed_over t verified p b (types_in c old)) (types_in c new) r) where
  typed_is : typed_over t verified p b (types_in c old) ≡ typed t verified n p b
  typed_is = ap (typed_over t verified p b) (ap (types_in c) is ∙ written_in c p.value_types)

  pub typed_tests_are : typed_tests_over t verified p b (types_in c old) ≡ typed_tests t verified p b
  typed_tests_are = ap (typed_tests_over t verified p b) (ap (types_in c) is ∙ written_in c p.value_types)

  pub untyped_plan : r ≡ false → None ≡ typed t verified n p b
  untyped_plan e = sym (stands_no (typed_over t verified p b (types_in c old)) (types_in c new) r stands e) ∙ typed_is

  typed_plan : r ≡ true → Some (types_in c new) ≡ typed t verified n p b
  typed_plan e = sym (stands_yes (typed_over t verified p b (types_in c old)) (types_in c new) r stands e) ∙ typed_is

  pub typed_shown : (now : List (Option BoundType)) → now ≡ new → r ≡ true → Some (types_in c now) ≡ typed t verified n p b
  typed_shown now back e = ap (λ z. Some (types_in c z)) back ∙ typed_plan e

-- ---- numbers

pub ran : (r : Option (List Outcome)) (new : List Outcome) (b : Bool) → check.Stands r new b → b ≡ true → r ≡ Some new
ran None new b e f = absurd (true≢false (sym f ∙ e))
ran (Some c) new b e f = ap Some (sym e.1)

pub not_ran : (r : Option (List Outcome)) (new : List Outcome) (b : Bool) → check.Stands r new b → b ≡ false → r ≡ None
not_ran None new b e f = refl
not_ran (Some c) new b e f = absurd (true≢false (sym e.0 ∙ f))

abbrev nothing : Option Plan
nothing = None

never : (a : Bool) (x : Option Plan) → None ≡ when (a && false) x
never true x = refl
never false x = refl

nothing_then : (a : Bool) → nothing ≡ when a nothing
nothing_then true = refl
nothing_then false = refl

module _ (t : Operation) (verified : Header → Bool) (n : ℕ) (p : PatternModel) (b : BoundValues Value) (ts : BoundValues TypeTerm) where
  abbrev by_kinds : Option Plan
  by_kinds = when (fits (map bound_type ts) p && constants_known t verified n p b) (given (run (Content.given (content_with (map bound_type ts) p)) (outcomes t verified n p 0 p.values b)) (planned_from t verified n p b ts))

  numeric_none : None ≡ by_kinds → None ≡ planned_by t verified n p b ts
  numeric_none e = nothing_then (list_all is_numeric ts) ∙ ap (when (list_all is_numeric ts)) e

  pub not_numeric : (f : Bool) → f ≡ list_all is_numeric ts → f ≡ false → None ≡ planned_by t verified n p b ts
  not_numeric f is failed = ap (λ z. when z by_kinds) (sym failed ∙ is)

  pub plans : (a : Bool) → a ≡ list_all is_numeric ts → a ≡ true → (ks : List BitsKind) → ks ≡ map bound_type ts → (f : Bool) → f ≡ fits ks p → f ≡ true → (k : Bool) → k ≡ constants_known t verified n p b → k ≡ true
      → (steps : List Step) → steps ≡ Content.given (content_with ks p) → (env : List Outcome) → env ≡ outcomes t verified n p 0 p.values b → (after : List Outcome) (done : Bool) → check.Stands (run steps env) after done → done ≡ true
      → (r : Option Plan) → r ≡ planned_from t verified n p b ts after → r ≡ planned_by t verified n p b ts
  plans a numeric whole ks value_types f fits_in fine k known all steps given_is env outcomes_are after done stands yes_done r is =
      let first : fits (map bound_type ts) p ≡ true = ap (λ z. fits z p) (sym value_types) ∙ sym fits_in ∙ fine in
      let second : constants_known t verified n p b ≡ true = sym known ∙ all in
      let third : run (Content.given (content_with (map bound_type ts) p)) (outcomes t verified n p 0 p.values b) ≡ Some after =
      (λ i. run ((ap (λ z. Content.given (content_with z p)) (sym value_types) ∙ sym given_is) i) (sym outcomes_are i)) ∙ ran (run steps env) after done stands yes_done in
      is ∙ ap (λ z. given z (planned_from t verified n p b ts)) (sym third)
      ∙ ap (λ z. when z (given (run (Content.given (content_with (map bound_type ts) p)) (outcomes t verified n p 0 p.values b)) (planned_from t verified n p b ts))) (sym ((λ i. first i && second i)))
      ∙ ap (λ z. when z by_kinds) (sym whole ∙ numeric)

  pub not_fitting : (ks : List BitsKind) → ks ≡ map bound_type ts → (f : Bool) → f ≡ fits ks p → f ≡ false → None ≡ planned_by t verified n p b ts
  not_fitting ks value_types f fits_in failed =
      numeric_none (ap (λ y. when (y && constants_known t verified n p b) (given (run (Content.given (content_with (map bound_type ts) p)) (outcomes t verified n p 0 p.values b)) (planned_from t verified n p b ts)))
      (sym failed ∙ fits_in ∙ ap (λ z. fits z p) value_types))

  pub not_known : (k : Bool) → k ≡ constants_known t verified n p b → k ≡ false → None ≡ planned_by t verified n p b ts
  not_known k known failed =
      numeric_none (never (fits (map bound_type ts) p) (given (run (Content.given (content_with (map bound_type ts) p)) (outcomes t verified n p 0 p.values b)) (planned_from t verified n p b ts))
      ∙ ap (λ y. when (fits (map bound_type ts) p && y) (given (run (Content.given (content_with (map bound_type ts) p)) (outcomes t verified n p 0 p.values b)) (planned_from t verified n p b ts))) (sym failed ∙ known))

  pub not_computed : (ks : List BitsKind) → ks ≡ map bound_type ts → (env : List Outcome) → env ≡ outcomes t verified n p 0 p.values b → (after : List Outcome) (done : Bool)
      → check.Stands (run (Content.given (content_with ks p)) env) after done → done ≡ false → None ≡ planned_by t verified n p b ts
  not_computed ks value_types env outcomes_are after done stands failed =
      let none : run (Content.given (content_with (map bound_type ts) p)) (outcomes t verified n p 0 p.values b) ≡ None =
      (λ i. run (Content.given (content_with (sym value_types i) p)) (sym outcomes_are i)) ∙ not_ran (run (Content.given (content_with ks p)) env) after done stands failed in
      numeric_none (nothing_then (fits (map bound_type ts) p && constants_known t verified n p b)
      ∙ ap (λ z. when (fits (map bound_type ts) p && constants_known t verified n p b) (given z (planned_from t verified n p b ts))) (sym none))

  pub not_extra : (env : List Outcome) (f : Bool) → f ≡ extra_known t verified n p (extra_place p) p.extra b env → f ≡ false → None ≡ planned_from t verified n p b ts env
  not_extra env f extra failed =
      ap (λ z. when z (given (all_made ts env n (new_place p) p.new b) (λ (r : List Operation × BoundValues Value). given (binding_at p.result r.1) (λ v. Some (r.0, v))))) (sym failed ∙ extra)

  -- ---- new operations

  module _ (env : List Outcome) (f : Bool) (extra : f ≡ extra_known t verified n p (extra_place p) p.extra b env) (all : f ≡ true) where
    abbrev makes : Option (List Operation × BoundValues Value)
    makes = all_made ts env n (new_place p) p.new b

    abbrev giving : List Operation × BoundValues Value → Option Plan
    giving r = given (binding_at p.result r.1) (λ v. Some (r.0, v))

    opened : planned_from t verified n p b ts env ≡ given (all_made ts env n (new_place p) p.new b) (λ (r : List Operation × BoundValues Value). given (binding_at p.result r.1) (λ v. Some (r.0, v)))
    opened = ap (λ z. when z (given makes giving)) (sym extra ∙ all)

    module _ (made_is : Option (List Operation × BoundValues Value)) (same : made_is ≡ all_made ts env n (new_place p) p.new b) where
      pub not_made : made_is ≡ None → None ≡ planned_from t verified n p b ts env
      not_made e = sym (opened ∙ ap (λ z. given z giving) (sym same ∙ e))

      module _ (c : ContextModel) (ms : List NewOp) (os : List (Option Operand)) (is : made_is ≡ Some (map (made_in c n) ms, operands_in n os)) where
        gives : given (binding_at p.result (operands_in n os)) (λ v. Some (map (made_in c n) ms, v)) ≡ planned_from t verified n p b ts env
        gives = sym (opened ∙ ap (λ z. given z giving) (sym same ∙ is))

        pub not_given : None ≡ binding_at p.result os → None ≡ planned_from t verified n p b ts env
        not_given e = ap (λ s. given s (λ v. Some (map (made_in c n) ms, v))) (ap (option_map (operand_in n)) e ∙ value_standing n p.result os) ∙ gives

        pub is_given : (o : Operand) → Some o ≡ binding_at p.result os → Some (map (made_in c n) ms, operand_in n o) ≡ planned_from t verified n p b ts env
        is_given o e = ap (λ s. given s (λ v. Some (map (made_in c n) ms, v))) (ap (option_map (operand_in n)) e ∙ value_standing n p.result os) ∙ gives

-- the new operations, from the arguments that the code passes
pub same_makes : (ts : BoundValues TypeTerm) (env : List Outcome) (n m k j : ℕ) (ws us : List NewValue) (os : List (Option Operand)) (b : BoundValues Value) → n ≡ m → k ≡ j → ws ≡ us → os ≡ as_operands b → all_made ts env n k ws (operands_in n os) ≡ all_made ts env m j us b
same_makes ts env n m k j ws us os b next place news is = λ i. all_made ts env (next i) (place i) (news i) ((ap (operands_in n) is ∙ as_values n b) i)

pub made_none : (c : ContextModel) (n : ℕ) (all : Option (List Operation × BoundValues Value)) (ms : Option (List NewOp)) (os : List (Option Operand)) → AreAllMade c n all ms os → ms ≡ None → all ≡ None
made_none c n all None os e is = e
made_none c n all (Some ms) os e is = absurd cc

pub made_some : (c : ContextModel) (n : ℕ) (all : Option (List Operation × BoundValues Value)) (ms : Option (List NewOp)) (os : List (Option Operand)) → AreAllMade c n all ms os → (made : List NewOp) → ms ≡ Some made → all ≡ Some (map (made_in c n) made, operands_in n os)
made_some c n all None os e made is = absurd cc
made_some c n all (Some ms) os e made is = e ∙ ap (λ z. Some (map (made_in c n) z, operands_in n os)) (let one : ms ≡ made = cc in one)

-- a result equal to `a` is equal to `b`
pub answers_same : {X E : Type 0} (r : Result X E) (view : X → Option Plan) (a b : Option Plan) → a ≡ b → IfOk r (λ x. view x ≡ a) → IfOk r (λ x. view x ≡ b)
answers_same r view a b same h = rw (← same) h

pub tests_same : {X E : Type 0} (r : Result X E) (view : X → Test) (a b : Test) → a ≡ b → IfOk r (λ x. view x ≡ a) → IfOk r (λ x. view x ≡ b)
tests_same r view a b same h = rw (← same) h
