-- Constant folding: the result of an operation with constant operands (`arith` Dialect).
use Rattle.std.specs.Prelude.{◌≡◌, ℕ, List, [], ◌∷◌, codes, Bool, true, false, ◌==◌, ◌&&◌, if◌then◌else◌, Option, Some, None, map, slice_get}
use Rattle.std.specs.List.{list_all}
use Rattle.std.specs.Option.{option_map}
use Rattle.ir_types.specs.declared.node.Sign.TheVariants.{Signless}
use Rattle.ir_types.specs.declared.bits.Bits.{Bits}
use Rattle.ir_types.specs.declared.bits.BitsKind.{BitsKind}
use Rattle.ir_types.specs.declared.bits.BitsKind.TheVariants as kind
use Rattle.ir_types.specs.Things.{ContextModel}
use Rattle.ir_types.specs.Terms.{TypeTerm, AttrTerm, attr_term, name_term}
use Rattle.ir_types.specs.Terms as term
use Rattle.ir_types.specs.Bits.{width_of}
use Rattle.ir_types.specs.Words.{is_inherent}
use Rattle.op_registry.specs.Registry.{next_to}
use Rattle.op_registry.specs.Properties.{integer_of, is_allowed}
use Rattle.dialects_int.specs.declared.operations.Arithmetic.{Arithmetic}
use Rattle.dialects_int.specs.declared.operations.Arithmetic.TheVariants as op
use Rattle.dialects_int.specs.declared.operations.Predicate.{Predicate}
use Rattle.dialects_int.specs.declared.operations.Predicate.TheVariants as asks
use Rattle.dialects_int.specs.declared.operations.Cast.{Cast}
use Rattle.dialects_int.specs.declared.operations.Cast.TheVariants as cast
use Rattle.dialects_int.specs.declared.operations.Rule.{Rule}
use Rattle.dialects_int.specs.declared.operations.Rule.TheVariants as rule
use Rattle.dialects_int.specs.Arithmetic.{value_of, absorbs, cast_of, comparison_of, truth, choice_of}

-- the operations that fold, each with its rule
unfoldable pub rules : List (List ℕ × Rule)
rules =
    (codes "arith.constant", rule.Constant)
    ∷ (codes "arith.addi", rule.Binary op.Add)
    ∷ (codes "arith.subi", rule.Binary op.Subtract)
    ∷ (codes "arith.muli", rule.Binary op.Multiply)
    ∷ (codes "arith.shli", rule.Binary op.ShiftLeft)
    ∷ (codes "arith.divsi", rule.Binary op.DivideSigned)
    ∷ (codes "arith.divui", rule.Binary op.DivideUnsigned)
    ∷ (codes "arith.remsi", rule.Binary op.RemainderSigned)
    ∷ (codes "arith.remui", rule.Binary op.RemainderUnsigned)
    ∷ (codes "arith.andi", rule.Binary op.And)
    ∷ (codes "arith.ori", rule.Binary op.Or)
    ∷ (codes "arith.xori", rule.Binary op.ExclusiveOr)
    ∷ (codes "arith.shrsi", rule.Binary op.ShiftRightSigned)
    ∷ (codes "arith.shrui", rule.Binary op.ShiftRightUnsigned)
    ∷ (codes "arith.maxsi", rule.Binary op.MaximumSigned)
    ∷ (codes "arith.maxui", rule.Binary op.MaximumUnsigned)
    ∷ (codes "arith.minsi", rule.Binary op.MinimumSigned)
    ∷ (codes "arith.minui", rule.Binary op.MinimumUnsigned)
    ∷ (codes "arith.cmpi", rule.Compare)
    ∷ (codes "arith.select", rule.Select)
    ∷ (codes "arith.extsi", rule.IntegerCast cast.ExtendSigned)
    ∷ (codes "arith.extui", rule.IntegerCast cast.ExtendUnsigned)
    ∷ (codes "arith.trunci", rule.IntegerCast cast.Truncate)
    ∷ (codes "arith.index_cast", rule.IndexCast cast.ExtendSigned)
    ∷ (codes "arith.index_castui", rule.IndexCast cast.ExtendUnsigned)
    ∷ []

unfoldable pub rule_of : List ℕ → Option Rule
rule_of name = next_to name rules

-- the kind of a type's constants: signless integer types and index have one
abbrev pub kind_of : TypeTerm → Option BitsKind
kind_of (term.Integer Signless w) = Some (kind.Int w)
kind_of term.Index = Some kind.Index
kind_of _ = None

abbrev pub same_kind : BitsKind → BitsKind → Bool
same_kind (kind.Int v) (kind.Int w) = v == w
same_kind kind.Index kind.Index = true
same_kind _ _ = false

-- a constant by its kind and its bits, and the bits if it is of a kind
abbrev pub Known : Type 0
Known = BitsKind × ℕ

abbrev pub bits_at : BitsKind → Option Known → Option ℕ
bits_at k None = None
bits_at k (Some known) = if same_kind known.0 k then Some known.1 else None

-- an operand of the code as a `Known`
abbrev pub known_of : Option Bits → Option Known
known_of bits = option_map (λ (b : Bits). (b.kind, b.value)) bits

-- the first of two optional results that isn't none
abbrev pub or_else : {A : Type 0} → Option A → Option A → Option A
or_else (Some x) next = Some x
or_else None next = next

-- two operands of the result's kind: if one is absorbing, the other isn't read
abbrev pub alone : Arithmetic → ℕ → Option ℕ → Option ℕ
alone o w None = None
alone o w (Some a) = if absorbs o w a then Some a else None

abbrev pub together : Arithmetic → ℕ → Option ℕ → Option ℕ → Option ℕ
together o w (Some a) (Some b) = value_of o w a b
together o w _ _ = None

abbrev pub pair_value : Arithmetic → ℕ → Option ℕ → Option ℕ → Option ℕ
pair_value o w x y = or_else (alone o w x) (or_else (alone o w y) (together o w x y))

abbrev pub pair_fold : Arithmetic → BitsKind → List (Option Known) → Option ℕ
pair_fold o k (x ∷ y ∷ []) = pair_value o (width_of k) (bits_at k x) (bits_at k y)
pair_fold o k _ = None

-- the predicates, by their numbers
unfoldable pub predicates : List Predicate
predicates =
    asks.Equal
    ∷ asks.NotEqual
    ∷ asks.SignedLess
    ∷ asks.SignedLessOrEqual
    ∷ asks.SignedGreater
    ∷ asks.SignedGreaterOrEqual
    ∷ asks.UnsignedLess
    ∷ asks.UnsignedLessOrEqual
    ∷ asks.UnsignedGreater
    ∷ asks.UnsignedGreaterOrEqual
    ∷ []

-- an integer among the properties
abbrev pub property_of : List ℕ → List (List ℕ × AttrTerm) → Option (TypeTerm × ℕ)
property_of key props = integer_in (next_to key props)
  where
    integer_in : Option AttrTerm → Option (TypeTerm × ℕ)
    integer_in (Some a) = integer_of a
    integer_in None = None

-- two operands of one kind, for a result of i1
abbrev pub compared : Predicate → Known → Known → Option ℕ
compared p x y = if same_kind x.0 y.0 then Some (truth (comparison_of (width_of x.0) p x.1 y.1)) else None

abbrev pub both : {A : Type 0} → (Known → Known → Option A) → Option Known → Option Known → Option A
both f (Some x) (Some y) = f x y
both f _ _ = None

abbrev pub requested : Option (TypeTerm × ℕ) → Option Predicate
requested (Some integer) = slice_get predicates integer.1
requested None = None

abbrev pub with : {A B : Type 0} → (A → Option B) → Option A → Option B
with f (Some x) = f x
with f None = None

abbrev pub compare_fold : Option Predicate → BitsKind → List (Option Known) → Option ℕ
compare_fold p k (x ∷ y ∷ []) = if same_kind k (kind.Int 1) then with (λ q. both (compared q) x y) p else None
compare_fold p k _ = None

-- the operand that a constant condition of i1 selects; the other one isn't read
abbrev pub select_fold : BitsKind → List (Option Known) → Option ℕ
select_fold k (c ∷ x ∷ y ∷ []) = with (λ condition. bits_at k (choice_of condition x y)) (bits_at (kind.Int 1) c)
select_fold k _ = None

-- an operand of an integer type, for a result of an integer type
abbrev pub resized : Cast → BitsKind → Known → Option ℕ
resized c (kind.Int w) (kind.Int v, a) = cast_of c v w a
resized c _ _ = None

abbrev pub resize_fold : Cast → BitsKind → List (Option Known) → Option ℕ
resize_fold c k (x ∷ []) = with (resized c k) x
resize_fold c k _ = None

-- an operand of any kind
abbrev pub index_cast_fold : Cast → BitsKind → List (Option Known) → Option ℕ
index_cast_fold c k (x ∷ []) = with (λ (known : Known). cast_of c (width_of known.0) (width_of k) known.1) x
index_cast_fold c k _ = None

-- the property `value`, if it is of the result's type
abbrev pub constant_fold : Option (TypeTerm × ℕ) → BitsKind → List (Option Known) → Option ℕ
constant_fold value k [] = with (λ (integer : TypeTerm × ℕ). bits_at k (option_map (λ l. (l, integer.1)) (kind_of integer.0))) value
constant_fold value k _ = None

abbrev pub fold_by : Rule → List (List ℕ × AttrTerm) → BitsKind → List (Option Known) → Option ℕ
fold_by rule.Constant props k operands = constant_fold (property_of (codes "value") props) k operands
fold_by (rule.Binary o) props k operands = pair_fold o k operands
fold_by rule.Compare props k operands = compare_fold (requested (property_of (codes "predicate") props)) k operands
fold_by rule.Select props k operands = select_fold k operands
fold_by (rule.IntegerCast c) props k operands = resize_fold c k operands
fold_by (rule.IndexCast c) props k operands = index_cast_fold c k operands

-- an allowed property: its key is inherent to the operation, and its attribute is allowed for the key
abbrev pub is_property : List ℕ → List ℕ × AttrTerm → Bool
is_property name entry = is_inherent name entry.0 && is_allowed entry.0 entry.1

-- the fold of an operation, by its name, its properties, its operands as far as they are constants, and the types of
-- its results: a constant of the one result's kind
unfoldable pub fold_of : List ℕ → List (List ℕ × AttrTerm) → List (Option Known) → List TypeTerm → Option Known
fold_of name props operands (ty ∷ []) =
    if list_all (is_property name) props then
    with (λ r. with (λ k. option_map (λ bits. (k, bits)) (fold_by r props k operands)) (kind_of ty)) (rule_of name)
    else None
fold_of name props operands _ = None

-- a dictionary of ids as one of bytes and attributes
abbrev pub entries_of : ContextModel → List (ℕ × ℕ) → List (List ℕ × AttrTerm)
entries_of c entries = map (λ (e : ℕ × ℕ). (name_term c e.0, attr_term c e.1)) entries

-- the constants in one list of operands are the same constants in another
abbrev pub IsWithin : Option Known → Option Known → Type 0
IsWithin x y = (known : Known) → x ≡ Some known → y ≡ Some known

abbrev pub KnowsMore : List (Option Known) → List (Option Known) → Type 0
KnowsMore [] [] = Unit {0}
KnowsMore (x ∷ xs) (y ∷ ys) = IsWithin x y × KnowsMore xs ys
KnowsMore _ _ = ⊥
