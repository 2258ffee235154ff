-- Why a pattern doesn't apply at an operation: its tests in their order, and the first that fails.
use Rattle.std.specs.Prelude.{ℕ, ◌+◌, List, [], ◌∷◌, ◌++◌, map, Bool, true, false, not, ◌||◌, Option, Some, None, codes, is_some, slice_get}
use Rattle.std.specs.List.{list_all}
use Rattle.ir_event.specs.types.Terms.{TypeTerm}
use Rattle.ir_event.specs.types.declared.bits.BitsKind.{BitsKind}
use Rattle.ir_event.specs.trees.declared.place.Place.{Place}
use Rattle.ir_event.specs.trees.declared.value.Value.{Value}
use Rattle.ir_event.specs.trees.declared.value.Value.TheVariants.{Result}
use Rattle.ir_event.specs.trees.Uses.{same_value}
use Rattle.ir_event.specs.trees.Tree.{head}
use Rattle.ir_event.specs.trees.Ids.{find}
use Rattle.ir_event.specs.trees.Meaning.{Operation}
use Rattle.ir_event.specs.Modules.{Module}
use Rattle.op_registry.specs.Registry.{next_to}
use Rattle.dialects_int.specs.Folds.{property_of}
use Rattle.patterns_base.specs.Looks.{insertion_of, is_verified}
use Rattle.patterns_base.specs.Words.{named}
use Rattle.user_patterns_check.specs.Contents.{Content}
use Rattle.user_patterns_check.specs.Outcomes.{Outcome, given, run, step_of}
use Rattle.user_patterns_check.specs.declared.step.Step.{Step}
use Rattle.user_patterns_data.specs.declared.pattern.ExtraConstant.{ExtraConstant}
use Rattle.user_patterns_data.specs.declared.pattern.PatternOp.{PatternOp}
use Rattle.user_patterns_data.specs.Fitting.{content_with, fits}
use Rattle.user_patterns_data.specs.Matching.{Header, BoundValues, bound, defining_op_head, nothing, op_matches, placed, predicate_is, binding_at, type_at, types_at, when, written}
use Rattle.user_patterns_data.specs.Names.{are_none, name_of, operands_of, predicate_of}
use Rattle.user_patterns_data.specs.Planning.{all_made, are_same, extra_place, is_numeric, bound_type, known_at, new_place, old_place, outcomes, places, typed}
use Rattle.user_patterns_data.specs.Shapes.{PatternModel}
use Rattle.user_patterns_build.specs.CanBuild.{can_build}
use Rattle.user_patterns_apply.specs.Built.{AllMade}
use Rattle.user_patterns_apply.specs.Matched.{any, is_constant_value, is_verified_value, matched}
use Rattle.user_patterns_apply.specs.Own.{is_one}
use Rattle.user_patterns_apply.specs.declared.mismatch.Mismatch.{Mismatch}
use Rattle.user_patterns_apply.specs.declared.mismatch.Mismatch.TheVariants as fails

-- a test: its mismatch if it fails, and nothing if it passes
abbrev pub Test : Type 0
Test = Option Mismatch

abbrev pub unless : Bool → Mismatch → Test
unless true m = None
unless false m = Some m

-- the first of two tests that fails
abbrev pub first_of : Test → Test → Test
first_of None other = other
first_of (Some m) other = Some m

-- the first test of a list that fails
abbrev pub first_failing : List Test → Test
first_failing [] = None
first_failing (t ∷ ts) = first_of t (first_failing ts)

-- a test that fails if there is no value, and tests on a value
abbrev pub with_value : {X : Type 0} → Option X → Mismatch → (X → Test) → Test
with_value None m f = Some m
with_value (Some x) m f = f x

-- tests on a value, if there is one
abbrev pub on_value : {X : Type 0} → Option X → (X → Test) → Test
on_value None f = None
on_value (Some x) f = f x

-- a test of each item
abbrev pub each : {X : Type 0} → (X → Bool) → (X → Mismatch) → List X → Test
each f m [] = None
each f m (x ∷ xs) = first_of (unless (f x) (m x)) (each f m xs)

-- ---- operations, the root first

-- the index, if a value can't be bound, or a later index
abbrev pub or_index : ℕ → Option (BoundValues Value) → (BoundValues Value → Option ℕ) → Option ℕ
or_index i None f = Some i
or_index i (Some c) f = f c

-- the index of the first operand that can't be bound at its place; the first operand has index i
abbrev pub first_unbound : ℕ → List ℕ → List Value → BoundValues Value → Option ℕ
first_unbound i [] [] b = None
first_unbound i [] (v ∷ vs) b = Some i
first_unbound i (k ∷ ks) [] b = Some i
first_unbound i (k ∷ ks) (v ∷ vs) b = or_index i (bound same_value k v b) (first_unbound (i + 1) ks vs)

abbrev pub operand_test : ℕ → Option ℕ → Test
operand_test k None = None
operand_test k (Some i) = Some (fails.Operand k i)

module _ (t : Operation) where
  -- an operation has the predicate of the pattern op at place k, no flags if the pattern op needs none, and its operands
  abbrev pub constraint_tests : ℕ → PatternOp → Header → BoundValues Value → Test
  constraint_tests k p h b = first_failing (
      unless (predicate_is t any (predicate_of p.form) (property_of (codes "predicate") h.properties)) (fails.Predicate k)
      ∷ unless (not p.bare || are_none (next_to (codes "overflowFlags") h.properties)) (fails.Flags k)
      ∷ operand_test k (first_unbound 0 (operands_of p.form) h.operands b)
      ∷ [])

  -- an operation has the name of the pattern op, and passes the other tests
  abbrev pub header_tests : ℕ → PatternOp → Header → BoundValues Value → Test
  header_tests k p h b = first_of (unless (named (name_of p.form) h.name) (fails.Operation k)) (constraint_tests k p h b)

  -- an operation defines the value at the place, and passes
  abbrev pub op_tests : ℕ × PatternOp → BoundValues Value → Test
  op_tests p b = with_value (given (binding_at p.0 b) (defining_op_head t any)) (fails.Operation p.0) (λ h. header_tests p.0 p.1 h b)

  abbrev pub ops_tests : List (ℕ × PatternOp) → BoundValues Value → Test
  ops_tests [] b = None
  ops_tests (p ∷ ps) b = first_of (op_tests p b) (on_value (op_matches t any p b) (ops_tests ps))

  -- the pattern ops match, the root at operation x
  abbrev pub matched_tests : PatternModel → ℕ → Test
  matched_tests p x =
      with_value (bound same_value p.root (Result x 0) (nothing (places p))) (fails.Operation p.root) (ops_tests (placed (old_place p) p.old))

-- ---- constants, verified operations and types

-- constants, verified or not, define the values at the places of the pattern's constants
abbrev pub constants_tests : Operation → List ℕ → BoundValues Value → Test
constants_tests t ks b = each (λ (k : ℕ). is_constant_value t (binding_at k b)) (λ k. fails.Constant k) ks

module _ (t : Operation) (verified : Header → Bool) where
  -- each pattern op is at a verified operation
  abbrev pub verified_tests : List (ℕ × PatternOp) → BoundValues Value → Test
  verified_tests ps b = each (λ (p : ℕ × PatternOp). is_verified_value t verified (binding_at p.0 b)) (λ p. fails.NotVerified p.0) ps

  -- the values from place k on have the types with these numbers
  abbrev pub types_tests : ℕ → List ℕ → BoundValues Value → BoundValues TypeTerm → Test
  types_tests k [] b ts = None
  types_tests k (ty ∷ tys) b ts = with_value (type_at t verified k ty b ts) (fails.Type k) (types_tests (k + 1) tys b)

  -- the types of the variables and of the matched operations
  abbrev pub typed_tests_over : PatternModel → BoundValues Value → BoundValues TypeTerm → Test
  typed_tests_over p b ts = first_of (types_tests 0 p.values b ts)
      (on_value (types_at t verified 0 p.values b ts) (types_tests (old_place p) (map PatternOp.ty p.old) b))

  abbrev pub typed_tests : PatternModel → BoundValues Value → Test
  typed_tests p b = typed_tests_over p b (map written p.value_types)

-- ---- numbers

-- each step is defined; the first step has index i
abbrev pub steps_tests : ℕ → List Step → List Outcome → Test
steps_tests i [] env = None
steps_tests i (s ∷ ss) env = with_value (step_of s env) (fails.Constraint i) (λ v. steps_tests (i + 1) ss (env ++ (v ∷ [])))

module _ (t : Operation) (verified : Header → Bool) (n : ℕ) (p : PatternModel) where
  -- the numbers of all constants are known
  abbrev pub known_tests : BoundValues Value → Test
  known_tests b = each (λ k. is_some (known_at t verified n p b k)) (λ k. fails.Unknown k) p.constants

  -- the extra constants from place k on have the computed numbers
  abbrev pub extra_tests : ℕ → List ExtraConstant → BoundValues Value → List Outcome → Test
  extra_tests k [] b env = None
  extra_tests k (f ∷ fs) b env =
      first_of (unless (are_same (known_at t verified n p b k) (slice_get env k)) (fails.Number k)) (extra_tests (k + 1) fs b env)

  -- the extra constants have their numbers, and the pattern can be built
  abbrev pub planned_tests : BoundValues Value → BoundValues TypeTerm → List Outcome → Test
  planned_tests b ts env = first_failing (
      extra_tests (extra_place p) p.extra b env
      ∷ unless (is_some (given (all_made ts env n (new_place p) p.new b) (λ (r : AllMade). binding_at p.result r.1))) fails.Unbuildable
      ∷ [])

  -- the types are numeric and fit, the constants have numbers, and the numbers that the pattern computes are defined
  abbrev pub fitting_tests_at : List BitsKind → BoundValues Value → BoundValues TypeTerm → Test
  fitting_tests_at ks b ts = first_failing (
      unless (list_all is_numeric ts) fails.NotNumeric
      ∷ unless (fits ks p) fails.Types
      ∷ known_tests b
      ∷ steps_tests 0 (Content.given (content_with ks p)) (outcomes t verified n p 0 p.values b)
      ∷ on_value (run (Content.given (content_with ks p)) (outcomes t verified n p 0 p.values b)) (planned_tests b ts)
      ∷ [])

  abbrev pub fitting_tests : BoundValues Value → BoundValues TypeTerm → Test
  fitting_tests b ts = fitting_tests_at (map bound_type ts) b ts

  -- ---- all tests

  -- the tests on the values that a match binds
  abbrev pub values_tests : BoundValues Value → Test
  values_tests b = first_failing (
      constants_tests t p.constants b
      ∷ unless (can_build p) fails.Unbuildable
      ∷ verified_tests t verified (placed (old_place p) p.old) b
      ∷ typed_tests t verified p b
      ∷ on_value (typed t verified n p b) (fitting_tests b)
      ∷ [])

  abbrev pub plan_tests : ℕ → Test
  plan_tests x = first_of (matched_tests t p x) (on_value (matched t any p x) values_tests)

abbrev pub tests_at : Bool → Option Place → Test
tests_at single point = first_failing (
    unless single fails.Results
    ∷ unless (is_some point) fails.IsRoot
    ∷ [])

-- the operation has one result and isn't the root
abbrev pub point_tests : ℕ → Operation → Test
point_tests x t = with_value (find x t) fails.Results (λ o. tests_at (is_one (head o).results) (insertion_of x t))

-- the place just before such an operation
abbrev pub point_of : ℕ → Operation → Option Place
point_of x t = given (find x t) (λ o. when (is_one (head o).results) (insertion_of x t))

-- the first test of a pattern that fails at operation x; none fails exactly if the pattern applies there
unfoldable pub user_pattern_mismatch : PatternModel → Module → ℕ → Test
user_pattern_mismatch p m x = first_of (plan_tests m.tree (is_verified m.tree) m.next p x) (point_tests x m.tree)
