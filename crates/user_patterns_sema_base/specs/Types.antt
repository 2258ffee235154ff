-- The unification of types. Each term has a type number. A type is concrete or a variable, by its number. Two types
-- become equal by replacing a variable with the other type.
use Rattle.std.specs.Prelude.{ℕ, ◌+◌, Bool, true, false, ◌&&◌, ◌||◌, eqb, if◌then◌else◌, List, [], ◌∷◌, ◌++◌, length, map, get_or, Option, Some, None, Ok, Err, is_some}
use Rattle.std.specs.Str.{bytes_eq}
use Rattle.std.specs.List.{list_any}
use Rattle.ir_text_tokens.specs.declared.refusal.TextRefusal.TheVariants.{TypeMismatch}
use Rattle.ir_types.specs.declared.bits.BitsKind.{BitsKind}
use Rattle.ir_types.specs.declared.bits.BitsKind.TheVariants as bits
use Rattle.user_patterns_text.specs.Heads.{Written, integer_type, index_type, variable_type, type_word}
use Rattle.user_patterns_text.specs.Refusing.{Outcome, ◌>>=◌, refused}
use Rattle.user_patterns_data.specs.declared.pattern.PatternType.{PatternType}
use Rattle.user_patterns_data.specs.declared.pattern.PatternType.TheVariants as ty

abbrev pub same_bits : BitsKind → BitsKind → Bool
same_bits (bits.Int v) (bits.Int w) = eqb v w
same_bits (bits.Int v) bits.Index = false
same_bits bits.Index (bits.Int w) = false
same_bits bits.Index bits.Index = true

abbrev pub same_kind : PatternType → PatternType → Bool
same_kind (ty.Concrete a) (ty.Concrete b) = same_bits a b
same_kind (ty.Concrete a) (ty.Variable j) = false
same_kind (ty.Variable i) (ty.Concrete b) = false
same_kind (ty.Variable i) (ty.Variable j) = eqb i j

abbrev pub Named : Type 0
Named = List (List ℕ × ℕ)

-- the types, and the names of types
pub record Types : Type 0 where
  pub value_types : List PatternType
  pub named : Named

abbrev pub kind_of : ℕ → List PatternType → PatternType
kind_of i ks = get_or ks i (ty.Concrete bits.Index)

-- the type with a variable replaced
abbrev pub in_place : ℕ → PatternType → PatternType → PatternType
in_place i new k = if same_kind k (ty.Variable i) then new else k

unfoldable pub all_in_place : ℕ → PatternType → List PatternType → List PatternType
all_in_place i new ks = map (in_place i new) ks

abbrev pub united : PatternType → PatternType → ℕ → List PatternType → Outcome (List PatternType)
united (ty.Variable i) b at ks = Ok (all_in_place i b ks)
united (ty.Concrete a) (ty.Variable j) at ks = Ok (all_in_place j (ty.Concrete a) ks)
united (ty.Concrete a) (ty.Concrete b) at ks = refused TypeMismatch at

-- the types after two types became equal, or a refusal
unfoldable pub unified : PatternType → PatternType → ℕ → List PatternType → Outcome (List PatternType)
unified a b at ks = if same_kind a b then Ok ks else united a b at ks

-- unifies the types of two numbers
abbrev pub one : ℕ → ℕ → ℕ → List PatternType → Outcome (List PatternType)
one i j at ks = unified (kind_of i ks) (kind_of j ks) at ks

-- unifies the type of a number with a concrete type
abbrev pub one_with : ℕ → BitsKind → ℕ → List PatternType → Outcome (List PatternType)
one_with i k at ks = unified (kind_of i ks) (ty.Concrete k) at ks

-- ---- the types of words

abbrev pub and_kind : List PatternType → PatternType → List PatternType
and_kind ks k = ks ++ k ∷ []

-- adds a type variable
abbrev pub and_variable : List PatternType → List PatternType
and_variable ks = and_kind ks (ty.Variable (length ks))

unfoldable pub slot_of : List ℕ → Named → Option ℕ
slot_of name [] = None
slot_of name (n ∷ ns) = if bytes_eq n.0 name then Some n.1 else slot_of name ns

abbrev pub named_from : List ℕ → Types → Option ℕ → ℕ × Types
named_from name s (Some slot) = (slot, s)
named_from name s None = (length s.value_types, record { value_types = and_variable s.value_types; named = s.named ++ (name, length s.value_types) ∷ [] })

abbrev pub written_from : Option Written → Types → ℕ × Types
written_from (Some (integer_type n)) s = (length s.value_types, record { value_types = and_kind s.value_types (ty.Concrete (bits.Int n)); named = s.named })
written_from (Some index_type) s = (length s.value_types, record { value_types = and_kind s.value_types (ty.Concrete bits.Index); named = s.named })
written_from (Some (variable_type name)) s = named_from name s (slot_of name s.named)
written_from None s = (length s.value_types, record { value_types = and_variable s.value_types; named = s.named })

-- the number of the type of a word
unfoldable pub written : List ℕ → Types → ℕ × Types
written w s = written_from (type_word w) s
