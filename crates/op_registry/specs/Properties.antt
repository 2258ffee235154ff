-- The constraint on the attribute of a property, by the property's key.
use Rattle.std.specs.Prelude.{ℕ, List, [], ◌∷◌, codes, Bool, true, false, ◌==◌, ◌&&◌, ◌||◌, nat_le, is_some, unwrap_or, Option, Some, None}
use Rattle.std.specs.Str.{bytes_eq}
use Rattle.ir_types.specs.declared.node.Sign.TheVariants.{Signless}
use Rattle.ir_types.specs.Terms.{TypeTerm, Integer, Function, AttrTerm, IntegerOf, String, TypeOf, Symbol, DenseArray}
use Rattle.ir_types.specs.Terms as term
use Rattle.op_registry.specs.declared.property.PropertyKind.{PropertyKind}
use Rattle.op_registry.specs.declared.property.PropertyKind.TheVariants as kind
use Rattle.op_registry.specs.Registry.{next_to}

-- each key with the kind of its attributes
unfoldable pub property_kinds : List (List ℕ × PropertyKind)
property_kinds =
    (codes "sym_name", kind.Text)
    ∷ (codes "sym_visibility", kind.Visibility)
    ∷ (codes "function_type", kind.Function)
    ∷ (codes "arg_attrs", kind.Any)
    ∷ (codes "res_attrs", kind.Any)
    ∷ (codes "callee", kind.Symbol)
    ∷ (codes "value", kind.Integer)
    ∷ (codes "overflowFlags", kind.Overflow)
    ∷ (codes "predicate", kind.Predicate)
    ∷ (codes "operandSegmentSizes", kind.Segments)
    ∷ (codes "alignment", kind.Any)
    ∷ (codes "nontemporal", kind.Any)
    ∷ []

-- the kind of a key; for a key of no row any attribute is allowed
unfoldable pub kind_of : List ℕ → PropertyKind
kind_of key = unwrap_or (next_to key property_kinds) kind.Any

-- the content of an attribute of one form: an integer's type and bits, a string, a type, a symbol's components, a dense
-- array's type
abbrev pub integer_of : AttrTerm → Option (TypeTerm × ℕ)
integer_of (IntegerOf ty bits) = Some (ty, bits)
integer_of _ = None

abbrev pub string_of : AttrTerm → Option (List ℕ)
string_of (String bytes) = Some bytes
string_of _ = None

abbrev pub type_of : AttrTerm → Option TypeTerm
type_of (TypeOf ty) = Some ty
type_of _ = None

abbrev pub element_of : AttrTerm → Option TypeTerm
element_of (DenseArray elem values) = Some elem
element_of _ = None

abbrev pub is_symbol_of_one_part : AttrTerm → Bool
is_symbol_of_one_part (Symbol (part ∷ [])) = true
is_symbol_of_one_part _ = false

abbrev pub is_overflow : AttrTerm → Bool
is_overflow (term.Overflow nsw nuw) = true
is_overflow _ = false

-- whether a type is the signless integer type of a width, or a function type
abbrev pub is_signless : ℕ → TypeTerm → Bool
is_signless width (Integer Signless w) = w == width
is_signless width _ = false

abbrev pub is_function : TypeTerm → Bool
is_function (Function inputs outputs) = true
is_function _ = false

-- `0 : i64` to `9 : i64`
abbrev pub is_predicate : Option (TypeTerm × ℕ) → Bool
is_predicate (Some integer) = is_signless 64 integer.0 && nat_le integer.1 9
is_predicate None = false

abbrev pub is_visibility : Option (List ℕ) → Bool
is_visibility (Some bytes) = bytes_eq bytes (codes "public") || (bytes_eq bytes (codes "private") || bytes_eq bytes (codes "nested"))
is_visibility None = false

abbrev pub is_and : {A : Type 0} → (A → Bool) → Option A → Bool
is_and test (Some x) = test x
is_and test None = false

-- whether an attribute is of a kind
unfoldable pub is_of_kind : PropertyKind → AttrTerm → Bool
is_of_kind kind.Any a = true
is_of_kind kind.Integer a = is_some (integer_of a)
is_of_kind kind.Predicate a = is_predicate (integer_of a)
is_of_kind kind.Overflow a = is_overflow a
is_of_kind kind.Function a = is_and is_function (type_of a)
is_of_kind kind.Text a = is_some (string_of a)
is_of_kind kind.Visibility a = is_visibility (string_of a)
is_of_kind kind.Symbol a = is_symbol_of_one_part a
is_of_kind kind.Segments a = is_and (is_signless 32) (element_of a)

-- whether an attribute is allowed as the property of a key
unfoldable pub is_allowed : List ℕ → AttrTerm → Bool
is_allowed key a = is_of_kind (kind_of key) a
