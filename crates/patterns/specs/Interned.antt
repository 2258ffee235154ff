-- Interned numbers and their meaning.
use Rattle.std.specs.Prelude.{◌≡◌, ℕ, List, false, true, Option, Some, None}
use Rattle.ir_event.specs.types.Things.{ContextModel, IsName, IsType, IsAttr}
use Rattle.ir_event.specs.types.Terms.{TypeTerm, AttrTerm, IntegerOf, Overflow, name_term, type_term, attr_term}
use Rattle.ir_event.specs.types.declared.node.AttrNode.{AttrNode}
use Rattle.ir_event.specs.types.declared.node.AttrNode.TheVariants.{Dict}
use Rattle.patterns_laws.specs.Words.{among, flagged}

-- a number is that of a name, of a type, of an attribute
abbrev pub IsNameOf : ContextModel → ℕ → List ℕ → Type 0
IsNameOf c n bytes = IsName c n × (name_term c n ≡ bytes)

abbrev pub IsTypeOf : ContextModel → ℕ → TypeTerm → Type 0
IsTypeOf c n ty = IsType c n × (type_term c n ≡ ty)

abbrev pub IsAttrOf : ContextModel → ℕ → AttrTerm → Type 0
IsAttrOf c n a = IsAttr c n × (attr_term c n ≡ a)

-- the node of an attribute isn't a dictionary
abbrev pub IsPlain : AttrNode → Type 0
IsPlain (Dict entries) = ⊥
IsPlain _ = Unit {0}

-- the overflow flags of a new operation with a name: none is set, if it has flags
abbrev pub FlagsOf : ContextModel → List ℕ → Option ℕ → Type 0
FlagsOf c name None = among flagged name ≡ false
FlagsOf c name (Some a) = (among flagged name ≡ true) × IsAttrOf c a (Overflow false false)

-- the attributes of two constants of one type, with given bits and with 1, and of overflow flags without a set flag
abbrev pub DifferenceAttrs : ContextModel → TypeTerm → ℕ → ℕ × ℕ × ℕ → Type 0
DifferenceAttrs c ty ones a =
    IsAttrOf c a.0 (IntegerOf ty ones) × IsAttrOf c a.1 (IntegerOf ty 1) × IsAttrOf c a.2 (Overflow false false)
