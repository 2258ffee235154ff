-- The rewrite plan of a pattern after a match: the new operations, and the value that replaces the root's result.
use Rattle.std.specs.Prelude.{ℕ, ◌+◌, List, [], ◌∷◌, map, length, Bool, true, false, ◌&&◌, eqb, Option, Some, None, option_map, slice_get, if◌then◌else◌, is_some}
use Rattle.std.specs.List.{list_all, list_any}
use Rattle.ir_types.specs.Terms.{TypeTerm}
use Rattle.ir_types.specs.declared.bits.BitsKind.{BitsKind}
use Rattle.ir_types.specs.declared.bits.BitsKind.TheVariants as kind
use Rattle.ir_tree.specs.declared.value.Value.{Value}
use Rattle.ir_tree.specs.declared.value.Value.TheVariants.{Result}
use Rattle.ir_tree.specs.Uses.{same_value}
use Rattle.ir_tree.specs.Meaning.{Operation}
use Rattle.dialects_int.specs.Folds.{Known, kind_of}
use Rattle.patterns_laws.specs.Made.{Entries, made, constant, flags, predicate_entry}
use Rattle.user_patterns_check.specs.Checks.{same_known}
use Rattle.user_patterns_check.specs.Contents.{Content}
use Rattle.user_patterns_check.specs.Outcomes.{Outcome, given, run}
use Rattle.user_patterns_data.specs.declared.pattern.PatternOp.{PatternOp}
use Rattle.user_patterns_data.specs.declared.pattern.ExtraConstant.{ExtraConstant}
use Rattle.user_patterns_data.specs.declared.pattern.NewValue.{NewValue}
use Rattle.user_patterns_data.specs.declared.pattern.NewValue.TheVariants as new
use Rattle.user_patterns_data.specs.Shapes.{PatternModel}
use Rattle.user_patterns_data.specs.Names.{name_of, operands_of, predicate_of}
use Rattle.user_patterns_data.specs.Fitting.{content_with, fits}
use Rattle.user_patterns_data.specs.Matching.{Header, BoundValues, when, bound, binding_at, nothing, placed, ops_match, types_at, known, written}

-- one more item of a list
abbrev pub and_more : {X : Type 0} → X → Option (List X) → Option (List X)
and_more x None = None
and_more x (Some xs) = Some (x ∷ xs)

-- ---- new values

-- the values at places
abbrev pub values_at : List ℕ → BoundValues Value → Option (List Value)
values_at [] b = Some []
values_at (k ∷ ks) b = given (binding_at k b) (λ v. and_more v (values_at ks b))

-- the properties of a new operation: its predicate, or unset flags
abbrev pub entries_by : Option ℕ → List ℕ → Entries
entries_by None name = flags name
entries_by (Some n) name = predicate_entry n

abbrev pub made_as : BoundValues Value → BoundValues TypeTerm → List Outcome → NewValue → Option Operation
made_as b ts env (new.Operation p) =
    given (values_at (operands_of p.form) b) (λ vs. given (binding_at p.ty ts) (λ term. Some (made (name_of p.form) vs term (entries_by (predicate_of p.form) (name_of p.form)))))
made_as b ts env (new.Constant k t) =
    given (given (slice_get env k) (λ x. x)) (λ (x : Known). given (binding_at t ts) (λ term. Some (constant term x.1)))

-- the new operations, the first with id n and its result bound at place k, and the bindings after all are made
abbrev pub all_made : BoundValues TypeTerm → List Outcome → ℕ → ℕ → List NewValue → BoundValues Value → Option (List Operation × BoundValues Value)
all_made ts env n k [] b = Some ([], b)
all_made ts env n k (w ∷ ws) b =
    given (made_as b ts env w) (λ o. given (bound same_value k (Result n 0) b) (λ c.
    option_map (λ (r : List Operation × BoundValues Value). (o ∷ r.0, r.1)) (all_made ts env (n + 1) (k + 1) ws c)))

-- ---- places

-- the places of the extra constants, of the matched operations, and of the new values begin here
abbrev pub extra_place : PatternModel → ℕ
extra_place p = length p.values

abbrev pub old_place : PatternModel → ℕ
old_place p = length p.values + length p.extra + length p.given

abbrev pub new_place : PatternModel → ℕ
new_place p = old_place p + length p.old

abbrev pub places : PatternModel → ℕ
places p = new_place p + length p.new

-- the kinds of terms
abbrev pub bound_type : Option TypeTerm → BitsKind
bound_type None = kind.Int 0
bound_type (Some term) = or_none (kind_of term)
  where
    or_none : Option BitsKind → BitsKind
    or_none None = kind.Int 0
    or_none (Some k) = k

-- a type is a signless integer type or index, as is a type that isn't bound
abbrev pub is_numeric : Option TypeTerm → Bool
is_numeric None = true
is_numeric (Some term) = is_some (kind_of term)

-- ---- the plan

-- the new operations, and the value that replaces the root's result
abbrev pub Plan : Type 0
Plan = List Operation × Value

abbrev pub are_same : Option Known → Option Outcome → Bool
are_same (Some x) (Some (Some y)) = same_known x y
are_same _ _ = false

module _ (t : Operation) (verified : Header → Bool) (n : ℕ) (p : PatternModel) where
  abbrev pub known_at : BoundValues Value → ℕ → Option Known
  known_at b k = given (binding_at k b) (known t verified)

  -- the known numbers of the constants among the first places
  abbrev pub outcomes : ℕ → List ℕ → BoundValues Value → List Outcome
  outcomes k [] b = []
  outcomes k (ty ∷ tys) b = (if list_any (eqb k) p.constants then known_at b k else None) ∷ outcomes (k + 1) tys b

  -- the numbers of all constants are known, and the extra constants have the numbers that the pattern requires
  abbrev pub constants_known : BoundValues Value → Bool
  constants_known b = list_all (λ k. is_some (known_at b k)) p.constants

  abbrev pub extra_known : ℕ → List ExtraConstant → BoundValues Value → List Outcome → Bool
  extra_known k [] b env = true
  extra_known k (f ∷ fs) b env = are_same (known_at b k) (slice_get env k) && extra_known (k + 1) fs b env

  abbrev pub planned_from : BoundValues Value → BoundValues TypeTerm → List Outcome → Option Plan
  planned_from b ts env =
      when (extra_known (extra_place p) p.extra b env)
      (given (all_made ts env n (new_place p) p.new b) (λ (r : List Operation × BoundValues Value). given (binding_at p.result r.1) (λ v. Some (r.0, v))))

  abbrev pub planned_by : BoundValues Value → BoundValues TypeTerm → Option Plan
  planned_by b ts = when (list_all is_numeric ts) (by (map bound_type ts))
    where
      by : List BitsKind → Option Plan
      by ks =
          when (fits ks p && constants_known b)
          (given (run (Content.given (content_with ks p)) (outcomes 0 p.values b)) (planned_from b ts))

  -- binds the types of the variables, the extra constants and the matched operations
  abbrev pub typed : BoundValues Value → Option (BoundValues TypeTerm)
  typed b =
      given (types_at t verified 0 p.values b (map written p.value_types)) (types_at t verified (old_place p) (map PatternOp.ty p.old) b)

  -- the plan of the pattern with its root at operation x, in a tree whose next free id is n
  unfoldable pub planned : ℕ → Option Plan
  planned x =
      given (bound same_value p.root (Result x 0) (nothing (places p))) (λ b.
      given (ops_match t verified (placed (old_place p) p.old) b) (λ c.
      given (typed c) (planned_by c)))
