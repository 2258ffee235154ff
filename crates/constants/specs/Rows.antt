-- The report: each known value, ordered by id.
use Rattle.std.specs.Prelude.{ℕ, List, [], ◌∷◌, map, Option, Some, None}
use Rattle.ir_event.specs.trees.declared.value.Value.TheVariants.{Result}
use Rattle.ir_event.specs.trees.Ids.{ids}
use Rattle.ir_event.specs.trees.Meaning.{Operation}
use Rattle.ir_event.specs.tree_laws.Stands.{gather}
use Rattle.ir_event.specs.Rows.{RowTerm, Val, Bits, by_id}
use Rattle.dialects_int.specs.Folds.{Known}
use Rattle.constants.specs.Facts.{Facts}
use Rattle.constants.specs.Walk.{facts_of}

-- the operation and its known value, if it has one
abbrev pub pair_if : ℕ → Option Known → List (ℕ × Known)
pair_if x None = []
pair_if x (Some k) = (x, k) ∷ []

-- the operations of a list that have known values
abbrev pub known_among : Facts → List ℕ → List (ℕ × Known)
known_among t xs = gather (λ x. pair_if x (t x)) xs

-- the operations of a tree that have known values, with these values, ordered by id
abbrev pub constants_of : Operation → List (ℕ × Known)
constants_of t = by_id (known_among (facts_of t) (ids t))

-- the row of an operation: its result, and the known value
abbrev pub constant_row : ℕ × Known → RowTerm
constant_row p = Val (Result p.0 0) ∷ Bits p.1.0 p.1.1 ∷ []

-- the rows of a tree
abbrev pub constants_rows : Operation → List RowTerm
constants_rows t = map constant_row (constants_of t)
