-- The fields of a context.
use Rattle.std.specs.Prelude.{◌≡◌, ℕ, Bool, List, map}
use Rattle.std.specs.Map.{keys_of, values_of}
use Rattle.ir_types.specs.declared.node.TypeNode.{TypeNode}
use Rattle.ir_types.specs.declared.node.AttrNode.{AttrNode}
use Rattle.ir_types.specs.Things.{ContextModel}
use Rattle.ir_types.specs.Terms.{type_terms, attr_terms}
use Rattle.ir_types.specs.Depths.{type_depth, attr_depth}
use Rattle.ir_types.specs.Sound.{Holds}

-- the names, types and attributes of a context that stores each type and each attribute with its depth
abbrev pub things_of : Bool → List (List ℕ) → List (TypeNode × ℕ) → List (AttrNode × ℕ) → ContextModel
things_of opaque names types attrs = record { names = names; types = keys_of types; attrs = keys_of attrs; opaque = opaque }

-- the invariant of the context, and that the stored depths are correct
pub record IsKeptWithDepths (opaque : Bool) (names : List (List ℕ)) (types : List (TypeNode × ℕ)) (attrs : List (AttrNode × ℕ)) : Type 0 where
  pub holds : Holds (things_of opaque names types attrs)
  pub type_depths : values_of types ≡ map type_depth (type_terms (things_of opaque names types attrs))
  pub attr_depths : values_of attrs ≡ map attr_depth (attr_terms (things_of opaque names types attrs))
