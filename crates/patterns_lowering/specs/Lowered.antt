-- The interned entries of lowered operations.
use Rattle.std.specs.Prelude.{◌≡◌, ℕ, List, [], ◌∷◌, ◌++◌, true, Option, Some, None}
use Rattle.std.specs.List.{list_all}
use Rattle.ir_event.specs.types.Things.{ContextModel, IsType, IsAttr}
use Rattle.ir_event.specs.types.Terms.{Index, AttrTerm, IntegerOf, type_term, attr_term}
use Rattle.ir_event.specs.trees.Meaning.{is_attr, is_name}
use Rattle.ir_event.specs.trees.Passing.{entry_passes}
use Rattle.patterns_soundness.specs.base.Made.{i64}
use Rattle.patterns_soundness.specs.base.Lowering.{lowered_attr}

-- an entry with the same key, whose attribute has i64 for index
pub record IsLowered (c : ContextModel) (e f : ℕ × ℕ) : Type 0 where
  pub key : f.0 ≡ e.0
  pub known : IsAttr c f.1
  pub is : attr_term c f.1 ≡ lowered_attr (attr_term c e.1)

-- the entries of two lists, one by one
abbrev pub AreLowered : ContextModel → List (ℕ × ℕ) → List (ℕ × ℕ) → Type 0
AreLowered c [] [] = Unit {0}
AreLowered c (e ∷ es) (f ∷ fs) = IsLowered c e f × AreLowered c es fs
AreLowered c _ _ = ⊥

-- the numbers of i64 and of index
pub record AreTypes (c : ContextModel) (wide index : ℕ) : Type 0 where
  pub wide_known : IsType c wide
  pub wide_is : type_term c wide ≡ i64
  pub index_known : IsType c index
  pub index_is : type_term c index ≡ Index

-- the bits of an integer of type index
abbrev pub index_bits : AttrTerm → Option ℕ
index_bits (IntegerOf Index bits) = Some bits
index_bits _ = None

-- the keys and attributes of entries are interned
abbrev pub AreKnown : ContextModel → List (ℕ × ℕ) → Type 0
AreKnown c es = list_all (entry_passes (is_name c) (is_attr c)) es ≡ true

-- the first entries of a list were lowered, and the rest is left
pub record IsLowering (c : ContextModel) (all rest made : List (ℕ × ℕ)) : Type 0 where
  pub done : List (ℕ × ℕ)
  pub parts : done ++ rest ≡ all
  pub known : AreKnown c done
  pub left : AreKnown c rest
  pub are : AreLowered c done made
