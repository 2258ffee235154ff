-- Trees that are writable: the requirements of a text, in addition to the limits of a well-formed tree.
use Rattle.std.specs.Prelude.{◌≡◌, ℕ, Bool, false, true, ◌==◌, List, length, map}
use Rattle.std.specs.List.{AllByRecursion}
use Rattle.std.specs.Str.{IsUtf8}
use Rattle.ir_types.specs.Limits.{most_depth}
use Rattle.ir_types.specs.Terms.{TypeTerm, AttrTerm}
use Rattle.ir_tree.specs.Tree.{HeadOf, op, RegionsOf, no_regions, region, RegionOf, empty, block, OpsOf, no_ops, next}
use Rattle.ir_tree.specs.Meaning.{Operation}
use Rattle.ir_text.specs.AttrText.{attr_text}
use Rattle.ir_text.specs.TypeText.{type_text}
use Rattle.ir_text_modules.specs.Written.{FitsType}
use Rattle.ir_text_modules.specs.WrittenAttributes.{are_bytes, IsWritableDictionary, AreOthers}

-- with opaque types and attributes, the texts are UTF-8; without them, all texts are ASCII anyway
abbrev pub AreEncoded : Bool → List (List ℕ) → Type 0
AreEncoded false texts = Unit {0}
AreEncoded true texts = AllByRecursion IsUtf8 texts

-- the texts of the attributes of a dictionary
abbrev pub value_texts : List (List ℕ × AttrTerm) → List (List ℕ)
value_texts es = map (λ (e : List ℕ × AttrTerm). attr_text e.1) es

-- a writable operation without its regions: its name has at least one byte, its types are writable, and no attribute
-- has the key of a property; with opaque types and attributes, all their texts are UTF-8
pub record IsWritableHead (opaque : Bool) (h : HeadOf (List ℕ) TypeTerm AttrTerm) : Type 0 where
  pub named : (length h.name == 0) ≡ false
  pub bytes : are_bytes h.name ≡ true
  pub types : AllByRecursion (FitsType opaque most_depth) h.results
  pub properties : IsWritableDictionary opaque h.properties
  pub attributes : IsWritableDictionary opaque h.attributes
  pub others : AreOthers h.name h.properties h.attributes
  pub encoded : AreEncoded opaque (map type_text h.results) × AreEncoded opaque (value_texts h.properties) × AreEncoded opaque (value_texts h.attributes)

-- the same for every operation of a tree, and for the types of each block's arguments
abbrev mutual
  pub IsWritable : Bool → Operation → Type 0
  IsWritable opaque (op h rs) = IsWritableHead opaque h × AreWritableRegions opaque rs

  pub AreWritableRegions : Bool → RegionsOf (List ℕ) TypeTerm AttrTerm → Type 0
  AreWritableRegions opaque no_regions = Unit {0}
  AreWritableRegions opaque (region g rs) = IsWritableRegion opaque g × AreWritableRegions opaque rs

  pub IsWritableRegion : Bool → RegionOf (List ℕ) TypeTerm AttrTerm → Type 0
  IsWritableRegion opaque empty = Unit {0}
  IsWritableRegion opaque (block args os) = AllByRecursion (FitsType opaque most_depth) args × AreEncoded opaque (map type_text args) × AreWritableOps opaque os

  pub AreWritableOps : Bool → OpsOf (List ℕ) TypeTerm AttrTerm → Type 0
  AreWritableOps opaque no_ops = Unit {0}
  AreWritableOps opaque (next t ts) = IsWritable opaque t × AreWritableOps opaque ts
