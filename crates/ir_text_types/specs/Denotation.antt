-- Which contents the ids of a context denote.
use Rattle.std.specs.Prelude.{◌≡◌, ℕ, List}
use Rattle.ir_types.specs.Things.{ContextModel, IsName, IsType, IsAttr}
use Rattle.ir_types.specs.Terms.{TypeTerm, AttrTerm, name_term, type_term, attr_term}

-- the id of a name, and its bytes
abbrev pub NameDenotes : ContextModel → ℕ → List ℕ → Type 0
NameDenotes c n y = IsName c n × (name_term c n ≡ y)

-- the id of a type, and the type
abbrev pub TypeDenotes : ContextModel → ℕ → TypeTerm → Type 0
TypeDenotes c n y = IsType c n × (type_term c n ≡ y)

-- the id of an attribute, and the attribute
abbrev pub AttrDenotes : ContextModel → ℕ → AttrTerm → Type 0
AttrDenotes c n y = IsAttr c n × (attr_term c n ≡ y)
