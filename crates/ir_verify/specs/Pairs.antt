-- The operations of a tree and their reported rules, as pairs.
use Rattle.std.specs.Prelude.{◌≡◌, ℕ, List, [], ◌∷◌, Some}
use Rattle.std.specs.declared.cmp.Ordering.{Ordering}
use Rattle.std.specs.Ordering.{ordering_then, nat_cmp}
use Rattle.std.specs.List.Sorted.{IsStrictlySortedBy}
use Rattle.ir_tree.specs.Meaning.{Operation}
use Rattle.ir_tree_laws.specs.Members.{In}
use Rattle.ir_verify_base.specs.events.Rows.{RowTerm, Op, Rule}
use Rattle.ir_verify.specs.Diagnostics.{reported_at}

-- operation x is in the tree, and rule r is reported for it
abbrev pub IsReported : ℕ → ℕ → Operation → Type 0
IsReported x r t = (rules : List ℕ) × (reported_at x t ≡ Some rules) × In r rules

-- the order of pairs: by operation, and then by rule
abbrev pub pair_cmp : ℕ × ℕ → ℕ × ℕ → Ordering
pair_cmp p q = ordering_then (nat_cmp p.0 q.0) (nat_cmp p.1 q.1)

-- exactly the pairs of an operation and a reported rule, in ascending order, so no pair occurs twice
pub record ArePairs (t : Operation) (ps : List (ℕ × ℕ)) : Type 0 where
  pub is_reported : (p : ℕ × ℕ) → In p ps → IsReported p.0 p.1 t
  pub all : (p : ℕ × ℕ) → IsReported p.0 p.1 t → In p ps
  pub rising : IsStrictlySortedBy pair_cmp ps

-- the row of a pair
abbrev pub pair_row : ℕ × ℕ → RowTerm
pair_row p = Op p.0 ∷ Rule p.1 ∷ []
