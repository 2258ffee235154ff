-- Small modules for proofs by computation.
use Rattle.std.specs.Prelude.{ℕ, List, [], ◌∷◌, codes}
use Rattle.ir_types.specs.declared.node.Sign.TheVariants.{Signless}
use Rattle.ir_types.specs.Terms.{TypeTerm, Integer, AttrTerm}
use Rattle.ir_tree.specs.declared.value.Value.{Value}
use Rattle.ir_tree.specs.Tree.{op, RegionsOf, no_regions, region, RegionOf, block, OpsOf, no_ops, next}
use Rattle.ir_tree.specs.Meaning.{Operation}
use Rattle.rewriter_machine.specs.events.Modules.{Module}
use Rattle.patterns_laws.specs.Made.{Entries, i1, value_entry, predicate_entry}
use Rattle.patterns_base.specs.declared.rule.Rule.{Rule}
use Rattle.patterns_base.specs.Rewrites.{Rewrite, rewrite_of}

-- types of integers
abbrev pub i8 : TypeTerm
i8 = Integer Signless 8

abbrev pub i16 : TypeTerm
i16 = Integer Signless 16

abbrev pub i32 : TypeTerm
i32 = Integer Signless 32

abbrev pub i63 : TypeTerm
i63 = Integer Signless 63

abbrev pub i65 : TypeTerm
i65 = Integer Signless 65

abbrev pub i128 : TypeTerm
i128 = Integer Signless 128

-- an operation, by its id, name, operands, results, properties, attributes and regions
abbrev pub whole : ℕ → List ℕ → List Value → List TypeTerm → Entries → Entries → RegionsOf (List ℕ) TypeTerm AttrTerm → Operation
whole id name operands results properties attributes rs = op (record { id = id; name = name; operands = operands; results = results; properties = properties; attributes = attributes }) rs

-- an operation with only properties
abbrev pub kept : ℕ → List ℕ → List Value → List TypeTerm → Entries → Operation
kept id name operands results properties = whole id name operands results properties [] no_regions

-- an operation without properties, attributes and regions
abbrev pub simple : ℕ → List ℕ → List Value → List TypeTerm → Operation
simple id name operands results = kept id name operands results []

-- an operation that defines an unknown value
abbrev pub source : ℕ → TypeTerm → Operation
source id ty = simple id (codes "t.source") [] (ty ∷ [])

-- a constant
abbrev pub number : ℕ → TypeTerm → ℕ → Operation
number id ty bits = kept id (codes "arith.constant") [] (ty ∷ []) (value_entry ty bits)

-- a comparison, by its predicate's number
abbrev pub compared : ℕ → ℕ → Value → Value → Operation
compared id predicate a b = kept id (codes "arith.cmpi") (a ∷ b ∷ []) (i1 ∷ []) (predicate_entry predicate)

-- an unrealized cast to a type
abbrev pub bridged : ℕ → TypeTerm → Value → Operation
bridged id ty v = simple id (codes "builtin.unrealized_conversion_cast") (v ∷ []) (ty ∷ [])

-- a use of a value
abbrev pub user : ℕ → Value → Operation
user id v = simple id (codes "t.use") (v ∷ []) []

-- operations in order
abbrev in_order : List Operation → OpsOf (List ℕ) TypeTerm AttrTerm
in_order [] = no_ops
in_order (o ∷ os) = next o (in_order os)

-- a region's block of arguments and operations
abbrev pub body : List TypeTerm → List Operation → RegionOf (List ℕ) TypeTerm AttrTerm
body args os = block args (in_order os)

-- a module of operations, with its next free id
abbrev pub holding : ℕ → List Operation → Module
holding free os = record { tree = whole 0 (codes "builtin.module") [] [] [] [] (region (body [] os) no_regions); next = free }

-- a rule at an operation of a module, with the expected result
pub record Case : Type 0 where
  pub rule : Rule
  pub at : ℕ
  pub before : Module
  pub after : Rewrite

abbrev pub at_rule : Rule → ℕ → Module → Rewrite → Case
at_rule r x before after = record { rule = r; at = x; before = before; after = after }

-- the result by the definitions
abbrev pub answer : Case → Rewrite
answer c = rewrite_of c.rule c.before c.at
