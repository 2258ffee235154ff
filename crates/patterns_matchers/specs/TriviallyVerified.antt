-- Constants that are verified by their own form, at any place.
use Rattle.std.specs.Prelude.{◌≡◌, ℕ, List, [], ◌∷◌, true, codes, Some}
use Rattle.ir_event.specs.types.Terms.{TypeTerm, AttrTerm, IntegerOf}
use Rattle.ir_event.specs.types.declared.bits.BitsKind.{BitsKind}
use Rattle.dialects_int.specs.Folds.{kind_of}
use Rattle.ir_verify_base.specs.Types.{is_number}
use Rattle.ir_verify_base.specs.Fits.{Node}

-- a constant with these bits, without operands and regions, whose value is its only property
abbrev pub trivial_constant : ℕ → TypeTerm → ℕ → List (List ℕ × AttrTerm) → Node
trivial_constant x ty bits attributes = record {
  head = record {
    id = x;
    name = codes "arith.constant";
    operands = [];
    results = ty ∷ [];
    properties = (codes "value", IntegerOf ty bits) ∷ [];
    attributes = attributes;
  };
  arguments = [];
}

-- an operation is such a constant, of an integer type or index
abbrev pub IsConstantOf : Node → TypeTerm → ℕ → Type 0
IsConstantOf n ty bits = (is_number ty ≡ true) × (n ≡ trivial_constant n.head.id ty bits n.head.attributes)

abbrev pub IsTriviallyVerified : Node → Type 0
IsTriviallyVerified n = (ty : TypeTerm) × (bits : ℕ) × IsConstantOf n ty bits

-- and defines a value of a kind
abbrev pub GivesPlainly : Node → BitsKind → ℕ → Type 0
GivesPlainly n k bits = (ty : TypeTerm) × (kind_of ty ≡ Some k) × IsConstantOf n ty bits
