-- Compares types with the type rules of the operation table.
use Rattle.std.specs.Prelude.{if◌then◌else◌, ℕ, suc, ◌+◌, List, [], ◌∷◌, map, length, drop, codes, Bool, true, false}
use Rattle.std.specs.Prelude.{◌==◌, ◌&&◌, ◌||◌, nat_le, Option, Some, None, option_map, option_and_then, unwrap_or}
use Rattle.std.specs.Prelude.{slice_get}
use Rattle.std.specs.List.{list_all}
use Rattle.std.specs.Str.{bytes_eq}
use Rattle.std.specs.Option.{option_eq}
use Rattle.ir_types.specs.Terms.{TypeTerm, AttrTerm}
use Rattle.op_registry.specs.declared.definition.TypeRule.{TypeRule}
use Rattle.op_registry.specs.declared.definition.TypeRule.TheVariants as type
use Rattle.op_registry.specs.Rows.{TypesRow, RegionRow, Row}
use Rattle.op_registry.specs.Registry.{next_to}
use Rattle.op_registry.specs.Properties.{type_of}
use Rattle.listeners_support.specs.Nodes.{NodeOf}
use Rattle.listeners_support.specs.Surroundings.{SurroundingsOf, OuterOf}
use Rattle.ir_types.specs.SameTypes.{same_type, function_of}
use Rattle.ir_verify_base.specs.Types.{same_types, is_integer, is_index, is_number, is_boolean, is_memref}

-- the inputs of the rules, in terms of contents
abbrev pub Node : Type 0
Node = NodeOf (List ℕ) TypeTerm AttrTerm

abbrev pub Outer : Type 0
Outer = OuterOf (List ℕ) TypeTerm AttrTerm

abbrev pub Surroundings : Type 0
Surroundings = SurroundingsOf (List ℕ) TypeTerm AttrTerm

-- whether an operation has a name
abbrev pub is_named : Node → List ℕ → Bool
is_named node name = bytes_eq node.head.name name

-- the property of an operation at a key
abbrev pub property : List ℕ → Node → Option AttrTerm
property key node = next_to key node.head.properties

-- the inputs and outputs of the function type in an operation's properties
abbrev pub function_type : Node → Option (List TypeTerm × List TypeTerm)
function_type node = option_and_then function_of (option_and_then type_of (property (codes "function_type") node))

-- the types of the arguments of the block of region k, if it has one
abbrev pub block_at : ℕ → Node → Option (List TypeTerm)
block_at k node = option_and_then (λ args. args) (slice_get node.arguments k)

-- whether a region of the row, from number k on, passes the test with its number
abbrev pub any_from : (ℕ → RegionRow → Bool) → ℕ → List RegionRow → Bool
any_from test k [] = false
any_from test k (region ∷ more) = test k region || any_from test (suc k) more

-- whether a region of the row passes the test with its number
abbrev pub any_region : (ℕ → RegionRow → Bool) → List RegionRow → Bool
any_region test regions = any_from test 0 regions

-- a list of types, all present
abbrev pub there : List TypeTerm → List (Option TypeTerm)
there = map Some

-- the types with which a type rule may compare a type: those of the first operands whose rules are `Number` and
-- `Any`; those of the operands after the fixed ones; those of the results; and the inputs of the function type
pub record Known : Type 0 where
  pub number : Option TypeTerm
  pub same : Option TypeTerm
  pub initial : List (Option TypeTerm)
  pub results : List (Option TypeTerm)
  pub inputs : List (Option TypeTerm)

-- whether a rule is the wanted one; types are compared only with `Number` and `Any`
abbrev pub is_called : TypeRule → TypeRule → Bool
is_called type.Number type.Number = true
is_called type.Any type.Any = true
is_called _ _ = false

-- the type of the first operand with the wanted rule
abbrev pub first_called : TypeRule → List TypeRule → List (Option TypeTerm) → Option TypeTerm
first_called wanted (rule ∷ rules) (t ∷ ts) = if is_called wanted rule then t else first_called wanted rules ts
first_called wanted _ _ = None

-- the types of an operation with which a type rule may compare a type
abbrev pub known_of : Row → Surroundings → Known
known_of row s = record {
  number = first_called type.Number row.operands.first s.types;
  same = first_called type.Any row.operands.first s.types;
  initial = drop (length row.operands.first) s.types;
  results = there s.node.head.results;
  inputs = unwrap_or (option_map (λ f. there f.0) (function_type s.node)) [];
}

-- whether there is a type, and it passes the test
abbrev pub is_there : (TypeTerm → Bool) → Option TypeTerm → Bool
is_there test None = false
is_there test (Some t) = test t

-- whether a type equals that of the first operand whose rule is `Number`, or is any number if there is no such
-- operand
abbrev pub is_the_number : Option TypeTerm → Option TypeTerm → Bool
is_the_number None t = is_there is_number t
is_the_number (Some u) t = is_there (same_type u) t

-- whether a type satisfies the rule; the element types of memrefs are tested by rule 20
abbrev pub fits : Known → TypeRule → Option TypeTerm → Bool
fits known type.Any t = true
fits known type.Number t = is_the_number known.number t
fits known type.OtherNumber t = is_there is_number t
fits known type.Integer t = is_there is_integer t
fits known type.Boolean t = is_there is_boolean t
fits known type.Index t = is_there is_index t
fits known type.Memref t = is_there is_memref t
fits known type.Element t = true
fits known type.Same t = option_eq same_type known.same t
fits known type.Initial t = true
fits known type.Result t = true
fits known type.Input t = true

-- whether the types after the fixed ones satisfy the rule: there are none; they equal the types of the operands after
-- the fixed ones, of the results or of the inputs; or each satisfies the rule
abbrev pub more_fit : Known → Option TypeRule → List (Option TypeTerm) → Bool
more_fit known None ts = length ts == 0
more_fit known (Some type.Initial) ts = same_types known.initial ts
more_fit known (Some type.Result) ts = same_types known.results ts
more_fit known (Some type.Input) ts = same_types known.inputs ts
more_fit known (Some rule) ts = list_all (fits known rule) ts

-- whether the types satisfy the rules of the row
abbrev pub first_fit : Known → List TypeRule → Option TypeRule → List (Option TypeTerm) → Bool
first_fit known [] more ts = more_fit known more ts
first_fit known (rule ∷ rules) more [] = false
first_fit known (rule ∷ rules) more (t ∷ ts) = fits known rule t && first_fit known rules more ts

abbrev pub types_fit : Known → TypesRow → List (Option TypeTerm) → Bool
types_fit known row ts = first_fit known row.first row.more ts

-- whether the number of types fits the row's fixed types and its rule for more, given the number of operands after
-- the fixed ones
abbrev pub more_count : ℕ → ℕ → Option TypeRule → ℕ → Bool
more_count initial first None n = n == first
more_count initial first (Some type.Initial) n = n == first + initial
more_count initial first (Some rule) n = nat_le first n

abbrev pub count_fits : ℕ → TypesRow → ℕ → Bool
count_fits initial row n = more_count initial (length row.first) row.more n
