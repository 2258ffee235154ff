-- The operations that rules make, and the results of operations for values of their operands.
use Rattle.std.specs.Prelude.{ℕ, List, [], ◌∷◌, codes, false, map, Option, Some, if◌then◌else◌}
use Rattle.ir_types.specs.declared.node.Sign.TheVariants.{Signless}
use Rattle.ir_types.specs.Terms.{TypeTerm, Integer, AttrTerm, IntegerOf, Overflow}
use Rattle.ir_tree.specs.declared.value.Value.{Value}
use Rattle.ir_tree.specs.Tree.{op, no_regions, head}
use Rattle.ir_tree.specs.Meaning.{Operation}
use Rattle.dialects_int.specs.Folds.{Known, fold_of}
use Rattle.patterns_laws.specs.Words.{among, flagged}

-- the type of truth values
abbrev pub i1 : TypeTerm
i1 = Integer Signless 1

-- the type of predicates, and the type that replaces index in lowerings
abbrev pub i64 : TypeTerm
i64 = Integer Signless 64

-- the properties of an operation
abbrev pub Entries : Type 0
Entries = List (List ℕ × AttrTerm)

-- an operation with one result and without regions and attributes; it gets its id when it is inserted
abbrev pub made : List ℕ → List Value → TypeTerm → Entries → Operation
made name operands ty properties =
    op
    (record {
      id = 0;
      name = name;
      operands = operands;
      results = ty ∷ [];
      properties = properties;
      attributes = [];
    })
    no_regions

-- the property of a constant: its bits
abbrev pub value_entry : TypeTerm → ℕ → Entries
value_entry ty bits = (codes "value", IntegerOf ty bits) ∷ []

-- a constant
abbrev pub constant : TypeTerm → ℕ → Operation
constant ty bits = made (codes "arith.constant") [] ty (value_entry ty bits)

-- the overflow flags of a new operation: none is set, if it has flags
abbrev pub flags : List ℕ → Entries
flags name = if among flagged name then (codes "overflowFlags", Overflow false false) ∷ [] else []

-- an operation on two values
abbrev pub binary : List ℕ → TypeTerm → Value → Value → Operation
binary name ty a b = made name (a ∷ b ∷ []) ty (flags name)

-- the property of a comparison: the number of its predicate
abbrev pub predicate_entry : ℕ → Entries
predicate_entry p = (codes "predicate", IntegerOf i64 p) ∷ []

-- a comparison
abbrev pub comparison : ℕ → Value → Value → Operation
comparison p a b = made (codes "arith.cmpi") (a ∷ b ∷ []) i1 (predicate_entry p)

-- a select by a truth value
abbrev pub choice : TypeTerm → Value → Value → Value → Operation
choice ty c a b = made (codes "arith.select") (c ∷ a ∷ b ∷ []) ty []

-- a cast of a value
abbrev pub cast : List ℕ → TypeTerm → Value → Operation
cast name ty v = made name (v ∷ []) ty []

-- an unrealized cast, which is erased again when the casts around it exist
abbrev pub bridge : TypeTerm → Value → Operation
bridge ty v = cast (codes "builtin.unrealized_conversion_cast") ty v

-- a cast without operands, the placeholder of a value that doesn't exist yet
abbrev pub placeholder : TypeTerm → Operation
placeholder ty = made (codes "builtin.unrealized_conversion_cast") [] ty []

-- the result of an operation with a name, properties and a result type, for values of its operands
abbrev pub given_by : List ℕ → Entries → TypeTerm → List Known → Option Known
given_by name properties ty values = fold_of name properties (map Some values) (ty ∷ [])

-- the result of an operation for values of its operands
abbrev pub gives : Operation → List Known → Option Known
gives o values = fold_of (head o).name (head o).properties (map Some values) (head o).results
