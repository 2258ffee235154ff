-- Arithmetic on two operands that is verified by its own form and operand types, at any place.
use Rattle.std.specs.Prelude.{◌≡◌, ◌⊎◌, ℕ, List, [], ◌∷◌, Bool, true, codes, Some}
use Rattle.ir_event.specs.types.Terms.{TypeTerm, AttrTerm, Overflow}
use Rattle.ir_event.specs.trees.declared.value.Value.{Value}
use Rattle.ir_event.specs.trees.Meaning.{Operation}
use Rattle.ir_event.specs.tree_laws.Values.{type_of_value}
use Rattle.ir_verify_base.specs.Types.{is_number}
use Rattle.ir_verify_base.specs.Fits.{Node}
use Rattle.patterns_laws.specs.Words.{among}

-- the operations on two numbers of one type that give one of that type, the most frequent ones first
unfoldable pub pairs : List (List ℕ)
pairs =
    codes "arith.addi"
    ∷ codes "arith.muli"
    ∷ codes "arith.subi"
    ∷ codes "arith.andi"
    ∷ codes "arith.ori"
    ∷ codes "arith.xori"
    ∷ codes "arith.shli"
    ∷ codes "arith.shrsi"
    ∷ codes "arith.shrui"
    ∷ codes "arith.divsi"
    ∷ codes "arith.divui"
    ∷ codes "arith.remsi"
    ∷ codes "arith.remui"
    ∷ codes "arith.maxsi"
    ∷ codes "arith.maxui"
    ∷ codes "arith.minsi"
    ∷ codes "arith.minui"
    ∷ []

-- no properties, or only overflow flags
abbrev pub AreFlags : List (List ℕ × AttrTerm) → Type 0
AreFlags es = (es ≡ []) ⊎ ((nsw nuw : Bool) × (es ≡ (codes "overflowFlags", Overflow nsw nuw) ∷ []))

-- an operation of a tree is such arithmetic, without regions, on two operands of its result's type
pub record IsPair (t : Operation) (n : Node) : Type 0 where
  pub first : Value
  pub second : Value
  pub ty : TypeTerm
  pub name : among pairs n.head.name ≡ true
  pub operands : n.head.operands ≡ first ∷ second ∷ []
  pub results : n.head.results ≡ ty ∷ []
  pub flags : AreFlags n.head.properties
  pub arguments : n.arguments ≡ []
  pub number : is_number ty ≡ true
  pub of_first : type_of_value first t ≡ Some ty
  pub of_second : type_of_value second t ≡ Some ty
