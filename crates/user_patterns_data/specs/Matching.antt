-- The match of a pattern in a tree: the values and types bound at places, from the root on.
use Rattle.std.specs.Prelude.{◌≡◌, ℕ, ◌+◌, List, [], ◌∷◌, ◌++◌, map, Bool, true, false, ◌&&◌, ◌||◌, not, eqb, Option, Some, None, option_map, slice_get, slice_set, codes, if◌then◌else◌}
use Rattle.std.specs.List.{range_with_len}
use Rattle.ir_types.specs.Terms.{TypeTerm, AttrTerm}
use Rattle.ir_types.specs.SameTypes.{same_type}
use Rattle.ir_types.specs.Bits.{type_of}
use Rattle.ir_tree.specs.declared.value.Value.{Value}
use Rattle.ir_tree.specs.declared.value.Value.TheVariants.{Result, Arg}
use Rattle.ir_tree.specs.Tree.{HeadOf, head}
use Rattle.ir_tree.specs.Ids.{find}
use Rattle.ir_tree.specs.Uses.{same_value}
use Rattle.ir_tree.specs.Meaning.{Operation}
use Rattle.ir_tree_laws.specs.Values.{type_of_value}
use Rattle.op_registry.specs.Registry.{next_to}
use Rattle.dialects_int.specs.Folds.{Known, fold_of, property_of}
use Rattle.patterns_laws.specs.Words.{named}
use Rattle.user_patterns_check.specs.Outcomes.{given}
use Rattle.user_patterns_data.specs.declared.pattern.PatternType.{PatternType}
use Rattle.user_patterns_data.specs.declared.pattern.PatternType.TheVariants as ty
use Rattle.user_patterns_data.specs.declared.pattern.PatternOp.{PatternOp}
use Rattle.user_patterns_data.specs.Names.{are_none, name_of, operands_of, predicate_of}

abbrev pub Header : Type 0
Header = HeadOf (List ℕ) TypeTerm AttrTerm

-- the option, if the test passes
abbrev pub when : {X : Type 0} → Bool → Option X → Option X
when b r = if b then r else None

-- ---- bindings of places

abbrev pub BoundValues : Type 0 → Type 0
BoundValues V = List (Option V)

-- k unbound places
abbrev pub nothing : {V : Type 0} → ℕ → BoundValues V
nothing k = map (λ i. None) (range_with_len 0 k)

-- binds a value at a place; a second binding must be to the same value
module _ {V : Type 0} (same : V → V → Bool) where
  abbrev pub bound_over : Option (Option V) → ℕ → V → BoundValues V → Option (BoundValues V)
  bound_over None k v b = None
  bound_over (Some None) k v b = Some (slice_set b k (Some v))
  bound_over (Some (Some u)) k v b = when (same u v) (Some b)

  abbrev pub bound : ℕ → V → BoundValues V → Option (BoundValues V)
  bound k v b = bound_over (slice_get b k) k v b

  abbrev pub all_bound : List ℕ → List V → BoundValues V → Option (BoundValues V)
  all_bound [] [] b = Some b
  all_bound [] (v ∷ vs) b = None
  all_bound (k ∷ ks) [] b = None
  all_bound (k ∷ ks) (v ∷ vs) b = given (bound k v b) (all_bound ks vs)

abbrev pub binding_at : {V : Type 0} → ℕ → BoundValues V → Option V
binding_at k b = given (slice_get b k) (λ x. x)

-- pattern ops with their places, from a place on, the last first
abbrev pub placed : ℕ → List PatternOp → List (ℕ × PatternOp)
placed k [] = []
placed k (p ∷ ps) = placed (k + 1) ps ++ ((k, p) ∷ [])

-- ---- in a tree, with a test for verified operations

module _ (t : Operation) (verified : Header → Bool) where
  -- the verified operation whose first result is the value
  abbrev pub defining_op_head : Value → Option Header
  defining_op_head (Result x k) = given (option_map head (find x t)) (λ h. when (verified h && eqb k 0) (Some h))
  defining_op_head (Arg x r k) = None

  -- it has the predicate of the pattern op, and no flags if the pattern op needs none
  abbrev pub predicate_is : Option ℕ → Option (TypeTerm × ℕ) → Bool
  predicate_is None i = true
  predicate_is (Some p) None = false
  predicate_is (Some p) (Some i) = eqb i.1 p

  abbrev pub constraints_agree : PatternOp → Header → Bool
  constraints_agree p h =
      predicate_is (predicate_of p.form) (property_of (codes "predicate") h.properties)
      && (not p.bare || are_none (next_to (codes "overflowFlags") h.properties))

  -- the operands of the operation are bound at the places of the pattern op
  abbrev pub header_matched : PatternOp → Header → BoundValues Value → Option (BoundValues Value)
  header_matched p h b = when (named (name_of p.form) h.name && constraints_agree p h) (all_bound same_value (operands_of p.form) h.operands b)

  abbrev pub value_matched : PatternOp → Value → BoundValues Value → Option (BoundValues Value)
  value_matched p v b = given (defining_op_head v) (λ h. header_matched p h b)

  -- the defining operation of the value at the pattern op's place is verified and matches the pattern op
  abbrev pub op_matches : ℕ × PatternOp → BoundValues Value → Option (BoundValues Value)
  op_matches p b = given (binding_at p.0 b) (λ v. value_matched p.1 v b)

  abbrev pub ops_match : List (ℕ × PatternOp) → BoundValues Value → Option (BoundValues Value)
  ops_match [] b = Some b
  ops_match (p ∷ ps) b = given (op_matches p b) (ops_match ps)

  -- binds the types of values, by the numbers of types
  abbrev pub type_at : ℕ → ℕ → BoundValues Value → BoundValues TypeTerm → Option (BoundValues TypeTerm)
  type_at k ty b ts = given (binding_at k b) (λ v. given (type_of_value v t) (λ term. bound same_type ty term ts))

  abbrev pub types_at : ℕ → List ℕ → BoundValues Value → BoundValues TypeTerm → Option (BoundValues TypeTerm)
  types_at k [] b ts = Some ts
  types_at k (ty ∷ tys) b ts = given (type_at k ty b ts) (types_at (k + 1) tys b)

  -- the known number of a value: the number of its defining operation, if that is a verified constant
  abbrev pub known : Value → Option Known
  known v = given (defining_op_head v) (λ h. when (named (codes "arith.constant") h.name) (fold_of h.name h.properties [] h.results))

-- the concrete types
abbrev pub written : PatternType → Option TypeTerm
written (ty.Concrete k) = Some (type_of k)
written (ty.Variable v) = None

-- a match keeps the values that were bound before
abbrev pub PatternOpsAreValid : Type 0
PatternOpsAreValid =
    (t : Operation) (verified : Header → Bool) (ps : List (ℕ × PatternOp)) (b c : BoundValues Value) → ops_match t verified ps b ≡ Some c
    → (k : ℕ) (v : Value) → slice_get b k ≡ Some (Some v) → slice_get c k ≡ Some (Some v)
