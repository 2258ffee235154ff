-- The tests of a pattern in their order, and the first that fails.
use Rattle.std.proofs.Common.{◌≡◌, ℕ, ◌+◌, ◌-◌, ◌≤◌, arith, refl, ap, sym, ◌∙◌, List, [], ◌∷◌, ◌++◌, length, take, drop, take_all, get_or, map, Bool, true, false, ◌&&◌, Option, Some, None, slice_get}
use Rattle.std.specs.Prelude.{is_none, is_some}
use Rattle.std.specs.List.{list_all}
use Rattle.ir_event.specs.types.Terms.{TypeTerm}
use Rattle.ir_event.specs.types.declared.bits.BitsKind.{BitsKind}
use Rattle.ir_event.specs.trees.declared.value.Value.{Value}
use Rattle.ir_event.specs.trees.Meaning.{Operation}
use Rattle.patterns_base.specs.Looks.{Header}
use Rattle.user_patterns_check.specs.Checks as check
use Rattle.user_patterns_check.specs.Contents.{Content}
use Rattle.user_patterns_check.specs.Outcomes.{Outcome, given, run, step_of}
use Rattle.user_patterns_check.specs.declared.step.Step.{Step}
use Rattle.user_patterns_data.specs.declared.pattern.ExtraConstant.{ExtraConstant}
use Rattle.user_patterns_data.specs.declared.pattern.PatternOp.{PatternOp}
use Rattle.user_patterns_data.specs.Fitting.{content_with, fits}
use Rattle.user_patterns_data.specs.Matching.{BoundValues, placed, binding_at}
use Rattle.user_patterns_data.specs.Planning.{all_made, are_same, constants_known, extra_known, extra_place, is_numeric, bound_type, known_at, new_place, old_place, outcomes, typed}
use Rattle.user_patterns_data.specs.Shapes.{PatternModel}
use Rattle.user_patterns_build.specs.CanBuild.{can_build}
use Rattle.user_patterns_apply.specs.Built.{AllMade}
use Rattle.user_patterns_apply.specs.Matched.{all_verified, any, is_constant_value, is_verified_value, matched}
use Rattle.user_patterns_apply.specs.Mismatches.{Test, constants_tests, each, extra_tests, first_failing, first_of, fitting_tests, fitting_tests_at, known_tests, matched_tests, on_value, plan_tests, planned_tests, steps_tests, typed_tests, unless, values_tests, verified_tests, with_value}
use Rattle.user_patterns_apply.proofs.Additions.{from_item}
use Rattle.user_patterns_apply.proofs.Planned.{ran}
use Rattle.user_patterns_apply.specs.declared.mismatch.Mismatch.{Mismatch}
use Rattle.user_patterns_apply.specs.declared.mismatch.Mismatch.TheVariants as fails

-- ---- lists of tests

pub passes : (t : Test) (ts : List Test) → None ≡ t → first_failing ts ≡ first_failing (t ∷ ts)
passes t ts e = ap (λ z. first_of z (first_failing ts)) e

pub stops : (t : Test) (ts : List Test) (m : Mismatch) → Some m ≡ t → Some m ≡ first_failing (t ∷ ts)
stops t ts m e = ap (λ z. first_of z (first_failing ts)) e

pub holds : (b : Bool) (m : Mismatch) → b ≡ true → None ≡ unless b m
holds b m e = sym (ap (λ z. unless z m) e)

pub breaks : (b : Bool) (m : Mismatch) → b ≡ false → Some m ≡ unless b m
breaks b m e = sym (ap (λ z. unless z m) e)

-- a test of each item passes if the test holds for all
pub each_all : {X : Type 0} (f : X → Bool) (m : X → Mismatch) (xs : List X) → is_none (each f m xs) ≡ list_all f xs
each_all f m [] = refl
each_all f m (x ∷ xs) = go (f x) (each_all f m xs)
  where
    go : (b : Bool) → is_none (each f m xs) ≡ list_all f xs → is_none (first_of (unless b (m x)) (each f m xs)) ≡ (b && list_all f xs)
    go true more = more
    go false more = refl

pub extra_all : (t : Operation) (verified : Header → Bool) (n : ℕ) (p : PatternModel) (k : ℕ) (fs : List ExtraConstant) (b : BoundValues Value) (env : List Outcome) → is_none (extra_tests t verified n p k fs b env) ≡ extra_known t verified n p k fs b env
extra_all t verified n p k [] b env = refl
extra_all t verified n p k (f ∷ fs) b env = go (are_same (known_at t verified n p b k) (slice_get env k)) (extra_all t verified n p (k + 1) fs b env)
  where
    go : (z : Bool) → is_none (extra_tests t verified n p (k + 1) fs b env) ≡ extra_known t verified n p (k + 1) fs b env → is_none (first_of (unless z (fails.Number k)) (extra_tests t verified n p (k + 1) fs b env)) ≡ (z && extra_known t verified n p (k + 1) fs b env)
    go true more = more
    go false more = refl

module _ (t : Operation) (verified : Header → Bool) (n : ℕ) (p : PatternModel) where
  pub extra_by : (b : BoundValues Value) (env : List Outcome) (m : Test) → m ≡ extra_tests t verified n p (extra_place p) p.extra b env → is_none m ≡ extra_known t verified n p (extra_place p) p.extra b env
  extra_by b env m e = ap is_none e ∙ extra_all t verified n p (extra_place p) p.extra b env

  pub known_by : (b : BoundValues Value) (m : Test) → m ≡ known_tests t verified n p b → is_none m ≡ constants_known t verified n p b
  known_by b m e = ap is_none e ∙ each_all (λ k. is_some (known_at t verified n p b k)) (λ k. fails.Unknown k) p.constants

  pub constants_by : (ks : List ℕ) (b : BoundValues Value) (m : Test) → m ≡ constants_tests t ks b → is_none m ≡ list_all (λ (k : ℕ). is_constant_value t (binding_at k b)) ks
  constants_by ks b m e = ap is_none e ∙ each_all (λ (k : ℕ). is_constant_value t (binding_at k b)) (λ k. fails.Constant k) ks

  pub verified_by : (ps : List (ℕ × PatternOp)) (b : BoundValues Value) (m : Test) → m ≡ verified_tests t verified ps b → is_none m ≡ all_verified t verified b ps
  verified_by ps b m e = ap is_none e ∙ each_all (λ (p : ℕ × PatternOp). is_verified_value t verified (binding_at p.0 b)) (λ p. fails.NotVerified p.0) ps

-- ---- steps, one at a time

module _ (s : Step) (ss : List Step) (env new : List Outcome) where
  pub ran_one : run (s ∷ []) env ≡ Some new → run ss new ≡ run (s ∷ ss) env
  ran_one e = go (step_of s env) e
    where
      go : (o : Option Outcome) → given o (λ v. Some (env ++ (v ∷ []))) ≡ Some new → run ss new ≡ given o (λ v. run ss (env ++ (v ∷ [])))
      go None e = absurd cc
      go (Some v) e = (let one : env ++ (v ∷ []) ≡ new = cc in sym (ap (run ss) one))

  pub tested_one : (i : ℕ) → run (s ∷ []) env ≡ Some new → steps_tests (i + 1) ss new ≡ steps_tests i (s ∷ ss) env
  tested_one i e = go (step_of s env) e
    where
      go : (o : Option Outcome) → given o (λ v. Some (env ++ (v ∷ []))) ≡ Some new → steps_tests (i + 1) ss new ≡ with_value o (fails.Constraint i) (λ v. steps_tests (i + 1) ss (env ++ (v ∷ [])))
      go None e = absurd cc
      go (Some v) e = (let one : env ++ (v ∷ []) ≡ new = cc in sym (ap (steps_tests (i + 1) ss) one))

  pub not_ran_one : run (s ∷ []) env ≡ None → None ≡ run (s ∷ ss) env
  not_ran_one e = go (step_of s env) e
    where
      go : (o : Option Outcome) → given o (λ v. Some (env ++ (v ∷ []))) ≡ None → None ≡ given o (λ v. run ss (env ++ (v ∷ [])))
      go None e = refl
      go (Some v) e = absurd cc

  pub undefined_one : (i : ℕ) → run (s ∷ []) env ≡ None → Some (fails.Constraint i) ≡ steps_tests i (s ∷ ss) env
  undefined_one i e = go (step_of s env) e
    where
      go : (o : Option Outcome) → given o (λ v. Some (env ++ (v ∷ []))) ≡ None → Some (fails.Constraint i) ≡ with_value o (fails.Constraint i) (λ v. steps_tests (i + 1) ss (env ++ (v ∷ [])))
      go None e = refl
      go (Some v) e = absurd cc

-- the first step of a list, and then the others
pub length_next : {X : Type 0} (xs : List X) → 1 ≤ length xs → length (take (length xs - 1) (drop 1 xs)) + 1 ≡ length xs
length_next [] l = absurd (omega (arith, l))
length_next (y ∷ ys) l = ap (λ zs. length zs + 1) (take_all (length (y ∷ ys) - 1) ys (omega arith)) ∙ omega arith

module _ (rest : List Step) (d : Step) (some : 1 ≤ length rest) (env new : List Outcome) where
  split : rest ≡ get_or rest 0 d ∷ take (length rest - 1) (drop 1 rest)
  split = from_item rest (get_or rest 0 d) d some refl

  pub next_not_ran : run (get_or rest 0 d ∷ []) env ≡ None → None ≡ run rest env
  next_not_ran e = not_ran_one (get_or rest 0 d) (take (length rest - 1) (drop 1 rest)) env env e ∙ ap (λ z. run z env) (sym split)

  pub next_undefined : (i : ℕ) → run (get_or rest 0 d ∷ []) env ≡ None → Some (fails.Constraint i) ≡ steps_tests i rest env
  next_undefined i e = undefined_one (get_or rest 0 d) (take (length rest - 1) (drop 1 rest)) env env i e ∙ ap (λ z. steps_tests i z env) (sym split)

  pub next_ran : run (get_or rest 0 d ∷ []) env ≡ Some new → run (take (length rest - 1) (drop 1 rest)) new ≡ run rest env
  next_ran e = ran_one (get_or rest 0 d) (take (length rest - 1) (drop 1 rest)) env new e ∙ ap (λ z. run z env) (sym split)

  pub next_tested : (i : ℕ) → run (get_or rest 0 d ∷ []) env ≡ Some new → steps_tests (i + 1) (take (length rest - 1) (drop 1 rest)) new ≡ steps_tests i rest env
  next_tested i e = tested_one (get_or rest 0 d) (take (length rest - 1) (drop 1 rest)) env new i e ∙ ap (λ z. steps_tests i z env) (sym split)

-- the steps ran from these outcomes
pub ran_is : (ss : List Step) (env total : List Outcome) → env ≡ total → (after : List Outcome) (done : Bool) → check.Stands (run ss env) after done → done ≡ true → run ss total ≡ Some after
ran_is ss env total is after done stands e = sym (ap (run ss) is) ∙ ran (run ss env) after done stands e

-- ---- the tests of a plan

module _ (t : Operation) (verified : Header → Bool) (n : ℕ) (p : PatternModel) where
  -- after the numbers are computed
  module _ (b : BoundValues Value) (ts : BoundValues TypeTerm) (env : List Outcome) where
    abbrev made : Option AllMade
    made = all_made ts env n (new_place p) p.new b

    abbrev result_at : AllMade → Option Value
    result_at r = binding_at p.result r.1

    abbrev last : List Test
    last = unless (is_some (given (all_made ts env n (new_place p) p.new b) (λ (r : AllMade). binding_at p.result r.1))) fails.Unbuildable ∷ []

    pub extra_stops : (m : Mismatch) → Some m ≡ extra_tests t verified n p (extra_place p) p.extra b env → Some m ≡ planned_tests t verified n p b ts env
    extra_stops m e = stops (extra_tests t verified n p (extra_place p) p.extra b env) last m e

    module _ (extra : None ≡ extra_tests t verified n p (extra_place p) p.extra b env) where
      pub made_stops : made ≡ None → Some fails.Unbuildable ≡ planned_tests t verified n p b ts env
      made_stops e =
          sym (ap (λ z. first_failing (unless (is_some (given z result_at)) fails.Unbuildable ∷ [])) e)
          ∙ passes (extra_tests t verified n p (extra_place p) p.extra b env) last extra

      pub result_stops : (r : AllMade) → made ≡ Some r → binding_at p.result r.1 ≡ None → Some fails.Unbuildable ≡ planned_tests t verified n p b ts env
      result_stops r e g =
          sym (ap (λ z. first_failing (unless (is_some (given z result_at)) fails.Unbuildable ∷ [])) e ∙ ap (λ z. first_failing (unless (is_some z) fails.Unbuildable ∷ [])) g)
          ∙ passes (extra_tests t verified n p (extra_place p) p.extra b env) last extra

      pub planned_passes : (r : AllMade) (v : Value) → made ≡ Some r → binding_at p.result r.1 ≡ Some v → None ≡ planned_tests t verified n p b ts env
      planned_passes r v e g =
          sym (ap (λ z. first_failing (unless (is_some (given z result_at)) fails.Unbuildable ∷ [])) e ∙ ap (λ z. first_failing (unless (is_some z) fails.Unbuildable ∷ [])) g)
          ∙ passes (extra_tests t verified n p (extra_place p) p.extra b env) last extra

  -- after the types are bound
  module _ (b : BoundValues Value) (ts : BoundValues TypeTerm) (ks : List BitsKind) (value_types : ks ≡ map bound_type ts) where
    abbrev steps : List Step
    steps = Content.given (content_with ks p)

    abbrev numbers : List Outcome
    numbers = outcomes t verified n p 0 p.values b

    abbrev planning : Test
    planning = on_value (run (Content.given (content_with ks p)) (outcomes t verified n p 0 p.values b)) (planned_tests t verified n p b ts)

    abbrev after_known : List Test
    after_known = steps_tests 0 (Content.given (content_with ks p)) (outcomes t verified n p 0 p.values b) ∷ planning ∷ []

    at : fitting_tests_at t verified n p ks b ts ≡ fitting_tests t verified n p b ts
    at = ap (λ z. fitting_tests_at t verified n p z b ts) value_types

    abbrev after_numeric : List Test
    after_numeric = unless (fits ks p) fails.Types ∷ known_tests t verified n p b ∷ after_known

    pub numeric_stops : (f : Bool) → f ≡ list_all is_numeric ts → f ≡ false → Some fails.NotNumeric ≡ fitting_tests t verified n p b ts
    numeric_stops f is failed =
        stops (unless (list_all is_numeric ts) fails.NotNumeric) after_numeric fails.NotNumeric (breaks (list_all is_numeric ts) fails.NotNumeric (sym is ∙ failed)) ∙ at

    module _ (a : Bool) (numeric : a ≡ list_all is_numeric ts) (passed : a ≡ true) where
      numbers_first : first_failing after_numeric ≡ fitting_tests t verified n p b ts
      numbers_first = passes (unless (list_all is_numeric ts) fails.NotNumeric) after_numeric (holds (list_all is_numeric ts) fails.NotNumeric (sym numeric ∙ passed)) ∙ at

      pub fits_stops : (f : Bool) → f ≡ fits ks p → f ≡ false → Some fails.Types ≡ fitting_tests t verified n p b ts
      fits_stops f fits_in failed =
          stops (unless (fits ks p) fails.Types) (known_tests t verified n p b ∷ after_known) fails.Types (breaks (fits ks p) fails.Types (sym fits_in ∙ failed)) ∙ numbers_first

      module _ (f : Bool) (fits_in : f ≡ fits ks p) (fine : f ≡ true) where
        first : first_failing (known_tests t verified n p b ∷ after_known) ≡ fitting_tests t verified n p b ts
        first = passes (unless (fits ks p) fails.Types) (known_tests t verified n p b ∷ after_known) (holds (fits ks p) fails.Types (sym fits_in ∙ fine)) ∙ numbers_first

        pub known_stops : (m : Mismatch) → Some m ≡ known_tests t verified n p b → Some m ≡ fitting_tests t verified n p b ts
        known_stops m e = stops (known_tests t verified n p b) after_known m e ∙ first

        module _ (known : None ≡ known_tests t verified n p b) where
          second : first_failing after_known ≡ fitting_tests t verified n p b ts
          second = passes (known_tests t verified n p b) after_known known ∙ first

          pub steps_stop : (m : Mismatch) → Some m ≡ steps_tests 0 (Content.given (content_with ks p)) (outcomes t verified n p 0 p.values b) → Some m ≡ fitting_tests t verified n p b ts
          steps_stop m e = stops (steps_tests 0 steps numbers) (planning ∷ []) m e ∙ second

          pub steps_pass : None ≡ steps_tests 0 (Content.given (content_with ks p)) (outcomes t verified n p 0 p.values b) → (after : List Outcome) → run (Content.given (content_with ks p)) (outcomes t verified n p 0 p.values b) ≡ Some after
              → planned_tests t verified n p b ts after ≡ fitting_tests t verified n p b ts
          steps_pass e after ran = whole (planned_tests t verified n p b ts after) ∙ sym (ap (λ z. first_failing (on_value z (planned_tests t verified n p b ts) ∷ [])) ran) ∙ passes (steps_tests 0 steps numbers) (planning ∷ []) e ∙ second
            where
              whole : (z : Test) → z ≡ first_failing (z ∷ [])
              whole None = refl
              whole (Some m) = refl

  -- after the match
  module _ (b : BoundValues Value) where
    abbrev verifying : Test
    verifying = verified_tests t verified (placed (old_place p) p.old) b

    abbrev typing : Test
    typing = on_value (typed t verified n p b) (fitting_tests t verified n p b)

    abbrev after_typed : List Test
    after_typed = on_value (typed t verified n p b) (fitting_tests t verified n p b) ∷ []

    abbrev after_verified : List Test
    after_verified = typed_tests t verified p b ∷ after_typed

    abbrev after_building : List Test
    after_building = verified_tests t verified (placed (old_place p) p.old) b ∷ after_verified

    abbrev after_constants : List Test
    after_constants = unless (can_build p) fails.Unbuildable ∷ after_building

    pub constants_stop : (m : Mismatch) → Some m ≡ constants_tests t p.constants b → Some m ≡ values_tests t verified n p b
    constants_stop m e = stops (constants_tests t p.constants b) after_constants m e

    module _ (constants : None ≡ constants_tests t p.constants b) where
      first_passes : first_failing after_constants ≡ values_tests t verified n p b
      first_passes = passes (constants_tests t p.constants b) after_constants constants

      pub building_stops : (a : Bool) → a ≡ can_build p → a ≡ false → Some fails.Unbuildable ≡ values_tests t verified n p b
      building_stops a e f = stops (unless (can_build p) fails.Unbuildable) after_building fails.Unbuildable (breaks (can_build p) fails.Unbuildable (sym e ∙ f)) ∙ first_passes

      module _ (a : Bool) (can : a ≡ can_build p) (builds : a ≡ true) where
        second_passes : first_failing after_building ≡ values_tests t verified n p b
        second_passes = passes (unless (can_build p) fails.Unbuildable) after_building (holds (can_build p) fails.Unbuildable (sym can ∙ builds)) ∙ first_passes

        pub verified_stop : (m : Mismatch) → Some m ≡ verified_tests t verified (placed (old_place p) p.old) b → Some m ≡ values_tests t verified n p b
        verified_stop m e = stops verifying after_verified m e ∙ second_passes

        module _ (none_fails : None ≡ verified_tests t verified (placed (old_place p) p.old) b) where
          third_passes : first_failing after_verified ≡ values_tests t verified n p b
          third_passes = passes verifying after_verified none_fails ∙ second_passes

          pub typed_stop : (m : Mismatch) → Some m ≡ typed_tests t verified p b → Some m ≡ values_tests t verified n p b
          typed_stop m e = stops (typed_tests t verified p b) after_typed m e ∙ third_passes

          pub typed_pass : None ≡ typed_tests t verified p b → (ts : BoundValues TypeTerm) → Some ts ≡ typed t verified n p b → fitting_tests t verified n p b ts ≡ values_tests t verified n p b
          typed_pass e ts is =
              whole (fitting_tests t verified n p b ts) ∙ ap (λ z. first_failing (on_value z (fitting_tests t verified n p b) ∷ [])) is
              ∙ passes (typed_tests t verified p b) after_typed e ∙ third_passes
            where
              whole : (z : Test) → z ≡ first_failing (z ∷ [])
              whole None = refl
              whole (Some m) = refl

  -- ---- the whole plan

  pub matched_stops : (x : ℕ) (m : Mismatch) → Some m ≡ matched_tests t p x → Some m ≡ plan_tests t verified n p x
  matched_stops x m e = ap (λ z. first_of z (on_value (matched t any p x) (values_tests t verified n p))) e

  pub matched_passes : (x : ℕ) (b : BoundValues Value) → None ≡ matched_tests t p x → Some b ≡ matched t any p x → values_tests t verified n p b ≡ plan_tests t verified n p x
  matched_passes x b e is =
      ap (λ z. on_value z (values_tests t verified n p)) is
      ∙ ap (λ z. first_of z (on_value (matched t any p x) (values_tests t verified n p))) e
