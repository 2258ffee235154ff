-- Operations and regions from their parts, with ids or terms.
use Rattle.std.specs.Prelude.{ℕ, Bool, List, [], ◌∷◌, Option, Some, None}
use Rattle.ir_tree.specs.declared.value.Value.{Value}
use Rattle.ir_tree.specs.Tree.{OpOf, op, RegionOf, empty, block, regions_of, ops_of}
use Rattle.ir_text_operations.specs.Entries.{properties_of, attributes_of}

module _ {N T A : Type 0} where
  -- a region without a label and without operations has no block
  abbrev pub region_of : Option (List T) → List (OpOf N T A) → RegionOf N T A
  region_of (Some args) os = block args (ops_of os)
  region_of None [] = empty
  region_of None (o ∷ os) = block [] (ops_of (o ∷ os))

  -- an operation with its dictionaries sorted; an attribute whose key is a property's becomes a property
  abbrev pub made : (N → Bool) → (N → N → Bool) → ℕ → N → List Value → List (N × A) → List (N × A) → List T → List (RegionOf N T A) → OpOf N T A
  made is_property before id name operands properties attributes outputs regions =
      op (record {
        id = id;
        name = name;
        operands = operands;
        results = outputs;
        properties = properties_of is_property before properties attributes;
        attributes = attributes_of is_property before attributes;
      }) (regions_of regions)
