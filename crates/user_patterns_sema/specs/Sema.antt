-- Builds a pattern from its parts: resolves names to places, and infers types, operands first.
use Rattle.std.specs.Prelude.{ℕ, zero, suc, ◌+◌, ◌-◌, Bool, true, false, not, ◌&&◌, ◌||◌, eqb, if◌then◌else◌, List, [], ◌∷◌, ◌++◌, codes, length, map, Option, Some, None, is_some, Ok, Err}
use Rattle.std.specs.Str.{bytes_eq}
use Rattle.std.specs.List.{list_any, range_with_len}
use Rattle.ir_text_tokens.specs.declared.refusal.TextRefusal.TheVariants.{Unexpected, UnknownValue, TypeMismatch, BadValue, TooDeep, TooMany}
use Rattle.ir_types.specs.declared.bits.BitsKind.{BitsKind}
use Rattle.ir_types.specs.declared.bits.BitsKind.TheVariants as bits
use Rattle.dialects_int.specs.declared.operations.Arithmetic.TheVariants as op
use Rattle.dialects_int.specs.declared.operations.Cast.{Cast}
use Rattle.dialects_int.specs.declared.operations.Cast.TheVariants as cast
use Rattle.dialects_int.specs.declared.operations.Predicate.{Predicate}
use Rattle.user_patterns_text.specs.Grammar.{most}
use Rattle.user_patterns_text.specs.Heads.{Written, integer_type, index_type, type_word}
use Rattle.user_patterns_text.specs.Parts.{Part, operation_part, value_part, literal_part, name_part, function_part, condition_part, type_part, end_part, Placed, Pattern}
use Rattle.user_patterns_text.specs.Refusing.{Outcome, ◌>>=◌, refused}
use Rattle.user_patterns_data.specs.declared.pattern.PatternType.{PatternType}
use Rattle.user_patterns_data.specs.declared.pattern.PatternType.TheVariants as ty
use Rattle.user_patterns_data.specs.declared.pattern.Expression.{Expression}
use Rattle.user_patterns_data.specs.declared.pattern.Expression.TheVariants as form
use Rattle.user_patterns_data.specs.declared.pattern.PatternOp.{PatternOp}
use Rattle.user_patterns_data.specs.declared.pattern.Literal.{Literal}
use Rattle.user_patterns_data.specs.declared.pattern.ExtraConstant.{ExtraConstant}
use Rattle.user_patterns_data.specs.declared.pattern.ExtraConstant.TheVariants as extra
use Rattle.user_patterns_data.specs.declared.pattern.ConstantExpression.{ConstantExpression}
use Rattle.user_patterns_data.specs.declared.pattern.ConstantExpression.TheVariants as number
use Rattle.user_patterns_data.specs.declared.pattern.NewValue.{NewValue}
use Rattle.user_patterns_data.specs.declared.pattern.NewValue.TheVariants as new
use Rattle.user_patterns_data.specs.declared.pattern.TypeConstraint.{TypeConstraint}
use Rattle.user_patterns_data.specs.declared.pattern.TypeConstraint.TheVariants as type_constraints
use Rattle.user_patterns_data.specs.Fitting.{bits_with}
use Rattle.user_patterns_data.specs.Shapes.{PatternModel}
use Rattle.user_patterns_data.specs.WellFormed.{is_well_formed}
use Rattle.user_patterns_sema_base.specs.declared.words.Function.{Function}
use Rattle.user_patterns_sema_base.specs.declared.words.Function.TheVariants as function
use Rattle.user_patterns_sema_base.specs.declared.words.Operation.{Operation}
use Rattle.user_patterns_sema_base.specs.declared.words.Operation.TheVariants as operation
use Rattle.user_patterns_sema.specs.declared.state.TermRef.{TermRef}
use Rattle.user_patterns_sema.specs.declared.state.RequiredType.{RequiredType}
use Rattle.user_patterns_sema.specs.declared.state.CastConstraint.{CastConstraint}
use Rattle.user_patterns_sema.specs.declared.state.LiteralAt.{LiteralAt}
use Rattle.user_patterns_sema_base.specs.Words.{operation_named, predicate_named, function_named, is_narrower, is_power, is_truth, truth_named}
use Rattle.user_patterns_sema_base.specs.Views.{Variable}
use Rattle.user_patterns_sema_base.specs.Names.{Names, names_of, place_of}
use Rattle.user_patterns_sema_base.specs.Types.{Named, Types, same_kind, kind_of, one, one_with, and_variable, written}

-- the variables, and the first places of the extra constants, numbers and operations
pub record Places : Type 0 where
  pub variables : List Variable
  pub extra : ℕ
  pub given : ℕ
  pub old : ℕ
  pub new : ℕ

abbrev pub constants_of : ℕ → List Variable → List ℕ
constants_of k [] = []
constants_of k (v ∷ vs) = if v.0 then constants_of (k + 1) vs else k ∷ constants_of (k + 1) vs

-- the analysis so far: the types, the type numbers of terms in the order of the text, and the lists of the pattern
pub record Sema : Type 0 where
  pub value_types : List PatternType
  pub named : Named
  -- the types of terms on the left, and those of terms on the right and in conditions
  pub old_types : List ℕ
  pub new_types : List RequiredType
  pub casts : List CastConstraint
  -- the literals written in digits
  pub literals : List LiteralAt
  pub type_constraints : List TypeConstraint
  -- the constants that were used
  pub visited : List ℕ
  pub extra : List ExtraConstant
  pub given : List ConstantExpression
  pub old : List PatternOp
  pub new : List NewValue

-- the remaining parts, and the analysis so far
abbrev pub State : Type 0
State = List Placed × Sema

abbrev pub with_kinds : Sema → Outcome (List PatternType) → Outcome Sema
with_kinds f (Ok ks) = Ok (record f { value_types = ks })
with_kinds f (Err e) = Err e

-- unifies two types
unfoldable pub unite : ℕ → ℕ → ℕ → Sema → Outcome Sema
unite i j at f = with_kinds f (one i j at f.value_types)

unfoldable pub unite_with : ℕ → BitsKind → ℕ → Sema → Outcome Sema
unite_with i k at f = with_kinds f (one_with i k at f.value_types)

-- the number of the next type
abbrev pub next_type : Sema → ℕ
next_type f = length f.value_types

abbrev pub with_type : Sema → Sema
with_type f = record f { value_types = and_variable f.value_types }

-- records a term of this type
abbrev pub begun : Bool → ℕ → ℕ → Sema → Sema
begun true slot at f = record f { old_types = f.old_types ++ slot ∷ [] }
begun false slot at f = record f { new_types = f.new_types ++ record { slot = slot; left = at } ∷ [] }

abbrev pub types_of : Sema → Types
types_of f = record { value_types = f.value_types; named = f.named }

abbrev pub with_types : Sema → Types → Sema
with_types f s = record f { value_types = s.value_types; named = s.named }

-- the literal is in range of the written type
abbrev pub is_of : Option (Bool × ℕ) → Option Written → Bool
is_of (Some l) (Some (integer_type n)) = is_some (bits_with (bits.Int n ∷ []) (record { negative = l.0; magnitude = l.1; ty = 0 }))
is_of (Some l) (Some index_type) = is_some (bits_with (bits.Index ∷ []) (record { negative = l.0; magnitude = l.1; ty = 0 }))
is_of _ _ = true

abbrev pub with_slot : Sema → ℕ × Types → ℕ × Sema
with_slot f x = (x.0, with_types f x.1)

abbrev pub written_at : List ℕ → Sema → ℕ × Sema
written_at w f = with_slot f (written w (types_of f))

-- unifies a term's type with the written type; a literal must be in its range
abbrev pub typed_as : Option (Bool × ℕ) → ℕ → ℕ → List ℕ → Sema → Outcome Sema
typed_as l slot at w f = if is_of l (type_word w) then unite slot (written_at w f).0 at (written_at w f).1 else refused BadValue at

-- a term, and the type that may be written after it
unfoldable pub typed : Option (Bool × ℕ) → ℕ → ℕ → State → Outcome State
typed l slot at ((left, type_part w) ∷ ps, f) = typed_as l slot at w f >>= λ g. Ok (ps, g)
typed l slot at s = Ok s

-- ---- lists up to an end

abbrev pub after_end : List Placed → Option (List Placed)
after_end ((left, end_part) ∷ ps) = Some ps
after_end _ = None

module _ {X : Type 0} (T : State → Outcome (X × State)) where
  abbrev pub gathered_from : (List X → State → Outcome (List X × State)) → List X → State → Option (List Placed) → Outcome (List X × State)
  gathered_from go xs s (Some ps) = Ok (xs, (ps, s.1))
  gathered_from go xs s None = T s >>= λ x. go (xs ++ x.0 ∷ []) x.1

  -- the items up to an end; n items or more are refused
  unfoldable pub gathered : ℕ → List X → State → Outcome (List X × State)
  gathered zero xs s = refused TooMany 0
  gathered (suc n) xs s = gathered_from (gathered n) xs s (after_end s.0)

-- ---- numbers

abbrev pub literal_with : Bool → ℕ → ℕ → Literal
literal_with negative magnitude slot = record { negative = negative; magnitude = magnitude; ty = slot }

abbrev pub literal_number : Bool → ℕ → ℕ → ConstantExpression
literal_number negative magnitude slot = number.Literal (literal_with negative magnitude slot)

-- adds a literal that must be in range of its type
abbrev pub and_literal : Literal → ℕ → Sema → Sema
and_literal l at f = record f { literals = f.literals ++ record { literal = l; left = at } ∷ [] }

-- a named number
abbrev pub name_from : ℕ → ℕ → Option ℕ → Sema → Outcome (ℕ × Sema)
name_from slot at (Some i) f = unite slot i at f >>= λ g. Ok (i, g)
name_from slot at None f = refused UnknownValue at

abbrev pub headroom : ℕ
headroom = 17

abbrev pub trailing : {X : Type 0} → List Placed → X × Sema → X × State
trailing ps x = (x.0, (ps, x.1))

abbrev pub entry : ℕ → ℕ → ℕ → TermRef
entry place slot at = record { place = place; slot = slot; left = at }

-- a term, and the type that may be written after it
unfoldable pub typed_entry : Option (Bool × ℕ) → TermRef × State → Outcome (TermRef × State)
typed_entry l x = typed l x.0.slot x.0.left x.1 >>= λ s. Ok (x.0, s)

-- a value, or a named number on the right
abbrev pub value_from : Bool → ℕ → Option ℕ → Sema → Outcome (TermRef × Sema)
value_from left at (Some i) f = Ok (entry i i at, begun left i at f)
value_from left at None f = refused UnknownValue at

abbrev pub and_extra : ExtraConstant → Sema → Sema
and_extra k f = record f { extra = f.extra ++ k ∷ [] }

abbrev pub and_visited : ℕ → Sema → Sema
and_visited i f = record f { visited = f.visited ++ i ∷ [] }

abbrev pub and_new : NewValue → Sema → Sema
and_new k f = record f { new = f.new ++ k ∷ [] }

abbrev pub requested_predicate : Option (List ℕ) → Option Predicate
requested_predicate (Some w) = predicate_named w
requested_predicate None = None

abbrev pub compared : Option Predicate → TermRef → TermRef → ℕ → ℕ → Sema → Outcome (Expression × Sema)
compared (Some p) i j slot at f = do
  g ← unite i.slot j.slot j.left f
  h ← unite_with slot (bits.Int 1) at g
  Ok (form.Compare p i.place j.place, h)
compared None i j slot at f = refused Unexpected at

abbrev pub resized : Cast → ℕ → ℕ → TypeConstraint
resized cast.Truncate from to = type_constraints.Narrower to from
resized cast.ExtendSigned from to = type_constraints.Narrower from to
resized cast.ExtendUnsigned from to = type_constraints.Narrower from to

abbrev pub and_requested : TypeConstraint → Sema → Sema
and_requested k f = record f { type_constraints = f.type_constraints ++ k ∷ [] }

abbrev pub and_cast : ℕ → ℕ → ℕ → Sema → Sema
and_cast from to at f = record f { casts = f.casts ++ record { from = from; to = to; left = at } ∷ [] }

abbrev pub paired : TermRef → TermRef → ℕ → ℕ → Sema → Outcome Sema
paired i j slot at f = unite i.slot j.slot j.left f >>= unite i.slot slot at

abbrev pub chosen : TermRef → TermRef → TermRef → ℕ → ℕ → Sema → Outcome Sema
chosen c i j slot at f = unite_with c.slot (bits.Int 1) c.left f >>= paired i j slot at

abbrev pub shaped_by_one : Option Operation → TermRef → ℕ → ℕ → Sema → Outcome (Expression × Sema)
shaped_by_one (Some (operation.IntegerCast c)) i slot at f = Ok (form.IntegerCast c i.place, and_requested (resized c i.slot slot) f)
shaped_by_one (Some (operation.IndexCast c)) i slot at f = Ok (form.IndexCast c i.place, and_cast i.slot slot at f)
shaped_by_one _ i slot at f = refused TypeMismatch at

abbrev pub shaped_by_two : Option Operation → Option Predicate → TermRef → TermRef → ℕ → ℕ → Sema → Outcome (Expression × Sema)
shaped_by_two (Some (operation.Binary o)) p i j slot at f = paired i j slot at f >>= λ g. Ok (form.Binary o i.place j.place, g)
shaped_by_two (Some operation.Compare) p i j slot at f = compared p i j slot at f
shaped_by_two _ p i j slot at f = refused TypeMismatch at

abbrev pub shaped_by_three : Option Operation → TermRef → TermRef → TermRef → ℕ → ℕ → Sema → Outcome (Expression × Sema)
shaped_by_three (Some operation.Select) c i j slot at f = chosen c i j slot at f >>= λ g. Ok (form.Select c.place i.place j.place, g)
shaped_by_three _ c i j slot at f = refused TypeMismatch at

-- the operation with its operands, whose types are unified
unfoldable pub shaped : Option Operation → Option Predicate → List TermRef → ℕ → ℕ → Sema → Outcome (Expression × Sema)
shaped o p (i ∷ []) slot at f = shaped_by_one o i slot at f
shaped o p (i ∷ j ∷ []) slot at f = shaped_by_two o p i j slot at f
shaped o p (c ∷ i ∷ j ∷ []) slot at f = shaped_by_three o c i j slot at f
shaped o p _ slot at f = refused TypeMismatch at

-- whether the operation must have no flags
abbrev pub is_bare : Option Operation → Option (List ℕ) → Bool
is_bare (Some operation.Compare) asks = false
is_bare _ asks = is_some asks

abbrev pub literal_of : List Placed → Option (Bool × ℕ)
literal_of ((at, literal_part negative magnitude) ∷ ps) = Some (negative, magnitude)
literal_of _ = None

-- a type that is an operand of a condition
unfoldable pub type_at : State → Outcome (ℕ × State)
type_at ((at, type_part w) ∷ ps, f) = Ok ((written_at w f).0, (ps, begun false (written_at w f).0 at (written_at w f).1))
type_at s = refused Unexpected 0

abbrev pub narrowed : List ℕ → ℕ → Sema → Outcome Sema
narrowed (i ∷ j ∷ []) at f = Ok (and_requested (type_constraints.Narrower i j) f)
narrowed _ at f = refused TypeMismatch at

abbrev pub is_free : ℕ → Sema → Bool
is_free slot f = same_kind (kind_of slot f.value_types) (ty.Variable slot)

abbrev pub named_at : ℕ → ℕ → Sema → Outcome Sema
named_at slot at f = if is_free slot f then refused TypeMismatch at else Ok f

abbrev pub number_depth : ℕ
number_depth = 17

-- a condition on types, after its word
unfoldable pub types_requested : ℕ → State → Outcome State
types_requested at s = gathered type_at headroom [] s >>= λ x. narrowed x.0 at x.1.1 >>= λ f. Ok (x.1.0, f)

module _ (b : Places) where
  abbrev pub next_number : Sema → ℕ
  next_number f = b.given + length f.given

  -- adds a number and returns its place
  abbrev pub and_number : ConstantExpression → Sema → ℕ × Sema
  and_number n f = (next_number f, record f { given = f.given ++ n ∷ [] })

  -- negation as 0 - x, and complement as x xor -1: both add the literal and then the operation
  abbrev pub negated : ℕ → ℕ → Sema → ℕ × Sema
  negated i slot f = and_number (number.Binary op.Subtract (next_number f) i) (and_number (literal_number false 0 slot) f).1

  abbrev pub inverted : ℕ → ℕ → Sema → ℕ × Sema
  inverted i slot f = and_number (number.Binary op.ExclusiveOr i (next_number f)) (and_number (literal_number true 1 slot) f).1

  -- a function of the numbers at these places
  abbrev pub applied : Option Function → List ℕ → ℕ → ℕ → Sema → Outcome (ℕ × Sema)
  applied (Some (function.Binary o)) (i ∷ j ∷ []) slot at f = Ok (and_number (number.Binary o i j) f)
  applied (Some function.Negate) (i ∷ []) slot at f = Ok (negated i slot f)
  applied (Some function.Complement) (i ∷ []) slot at f = Ok (inverted i slot f)
  applied (Some function.Log2) (i ∷ []) slot at f = Ok (and_number (number.Log2 i) f)
  applied (Some function.Width) (i ∷ []) slot at f = Ok (and_number (number.Width slot) f)
  applied _ _ slot at f = refused TypeMismatch at

  -- a function of numbers, after its name
  unfoldable pub function_at : (State → Outcome (ℕ × State)) → List ℕ → ℕ → ℕ → State → Outcome (ℕ × State)
  function_at N name slot at s = gathered N headroom [] s >>= λ x. applied (function_named name) x.0 slot at x.1.1 >>= λ y. Ok (trailing x.1.0 y)

  -- a literal
  abbrev pub written_number : Bool → ℕ → ℕ → ℕ → Sema → ℕ × Sema
  written_number negative magnitude slot at f =
      and_number (literal_number negative magnitude slot) (and_literal (literal_with negative magnitude slot) at f)

  -- a word: `true` and `false` are literals of i1, another word names a number
  abbrev pub word_from : Option ℕ → List ℕ → ℕ → ℕ → Sema → Outcome (ℕ × Sema)
  word_from (Some v) name slot at f = unite_with slot (bits.Int 1) at f >>= λ g. Ok (and_number (literal_number false v slot) g)
  word_from None name slot at f = name_from slot at (place_of false name b.variables) f

  -- a number of at most that depth, with the given type
  unfoldable pub number_at : ℕ → ℕ → State → Outcome (ℕ × State)
  number_at zero slot s = refused TooDeep 0
  number_at (suc depth) slot ((at, literal_part negative magnitude) ∷ ps, f) = Ok (trailing ps (written_number negative magnitude slot at f))
  number_at (suc depth) slot ((at, name_part name) ∷ ps, f) = word_from (truth_named name) name slot at f >>= λ x. Ok (trailing ps x)
  number_at (suc depth) slot ((at, function_part name) ∷ ps, f) = function_at (number_at depth slot) name slot at (ps, f)
  number_at (suc depth) slot s = refused Unexpected 0

  -- ---- terms

  abbrev pub next_extra : Sema → ℕ
  next_extra f = b.extra + length f.extra

  -- a named constant on the left: a second use is an extra constant with the same number
  abbrev pub visited_from : Bool → ℕ → ℕ → Sema → TermRef × Sema
  visited_from true i at f = (entry (next_extra f) i at, and_extra (extra.SameAs i) (begun true i at f))
  visited_from false i at f = (entry i i at, and_visited i (begun true i at f))

  abbrev pub old_name_from : ℕ → Option ℕ → Sema → Outcome (TermRef × Sema)
  old_name_from at (Some i) f = Ok (visited_from (list_any (eqb i) f.visited) i at f)
  old_name_from at None f = refused UnknownValue at

  -- a literal on the left
  abbrev pub old_constant_of : ℕ → Bool → ℕ → Sema → TermRef × Sema
  old_constant_of at negative magnitude f = (
    entry (next_extra f) (next_type f) at,
    and_extra (extra.Literal (literal_with negative magnitude (next_type f))) (begun true (next_type f) at (with_type f)),
  )

  -- a literal in digits, or `true` or `false`, whose type is i1
  abbrev pub old_literal : ℕ → Bool → ℕ → Sema → TermRef × Sema
  old_literal at negative magnitude f =
      old_constant_of at negative magnitude (and_literal (literal_with negative magnitude (next_type f)) at f)

  abbrev pub old_truth : ℕ → ℕ → Sema → Outcome (TermRef × Sema)
  old_truth at v f =
      unite_with (next_type f) (bits.Int 1) at (old_constant_of at false v f).1 >>= λ g. Ok ((old_constant_of at false v f).0, g)

  abbrev pub old_word_from : Option ℕ → List ℕ → ℕ → Sema → Outcome (TermRef × Sema)
  old_word_from (Some v) name at f = old_truth at v f
  old_word_from None name at f = old_name_from at (place_of false name b.variables) f

  abbrev pub next_new : Sema → ℕ
  next_new f = b.new + length f.new

  -- a new constant, whose number is at the start of the parts
  unfoldable pub made_at : ℕ → ℕ → State → Outcome (TermRef × State)
  made_at depth at s =
      number_at depth (next_type s.1) (s.0, begun false (next_type s.1) at (with_type s.1)) >>= λ x.
      Ok (entry (next_new x.1.1) (next_type s.1) at, (x.1.0, and_new (new.Constant x.0 (next_type s.1)) x.1.1))

  abbrev pub with_pattern_op : Bool → PatternOp → ℕ → ℕ → Sema → TermRef × Sema
  with_pattern_op true p slot at f = (entry (b.old + length f.old) slot at, record f { old = f.old ++ p ∷ [] })
  with_pattern_op false p slot at f = (entry (next_new f) slot at, and_new (new.Operation p) f)

  -- an operation with its operands
  abbrev pub closed_at : Bool → List ℕ → Option (List ℕ) → List TermRef → ℕ → ℕ → Sema → Outcome (TermRef × Sema)
  closed_at left name asks entries slot at f =
      shaped (operation_named name) (requested_predicate asks) entries slot at f >>= λ y.
      Ok (with_pattern_op left (record { form = y.0; bare = is_bare (operation_named name) asks; ty = slot }) slot at y.1)

  -- an operation, after its name
  unfoldable pub operation_at : (State → Outcome (TermRef × State)) → Bool → ℕ → List ℕ → Option (List ℕ) → State → Outcome (TermRef × State)
  operation_at T left at name asks s = do
    x ← gathered T headroom [] (s.0, begun left (next_type s.1) at (with_type s.1))
    e ← closed_at left name asks x.0 (next_type s.1) at x.1.1
    Ok (trailing x.1.0 e)

  -- a constant: a literal or a name on the left, any number on the right
  unfoldable pub old_constant : State → Outcome (TermRef × State)
  old_constant ((at, literal_part negative magnitude) ∷ ps, f) = Ok (trailing ps (old_literal at negative magnitude f))
  old_constant ((at, name_part name) ∷ ps, f) = old_word_from (truth_named name) name at f >>= λ e. Ok (trailing ps e)
  old_constant s = refused Unexpected 0

  unfoldable pub new_constant : ℕ → State → Outcome (TermRef × State)
  new_constant depth ([], f) = refused Unexpected 0
  new_constant depth ((at, name_part name) ∷ ps, f) =
      if is_truth name then made_at depth at ((at, name_part name) ∷ ps, f)
      else (value_from false at (place_of false name b.variables) f >>= λ e. Ok (trailing ps e))
  new_constant depth ((at, p) ∷ ps, f) = made_at depth at ((at, p) ∷ ps, f)

  abbrev pub constant_at : Bool → ℕ → State → Outcome (TermRef × State)
  constant_at true depth s = old_constant s
  constant_at false depth s = new_constant depth s

  -- a value, after its name
  unfoldable pub value_at : Bool → ℕ → List ℕ → State → Outcome (TermRef × State)
  value_at left at name s = value_from left at (place_of true name b.variables) s.1 >>= λ e. typed_entry None (trailing s.0 e)

  -- an operation after its name, and its type
  unfoldable pub typed_operation : (State → Outcome (TermRef × State)) → Bool → ℕ → List ℕ → Option (List ℕ) → State → Outcome (TermRef × State)
  typed_operation T left at name asks s = operation_at T left at name asks s >>= typed_entry None

  unfoldable pub typed_constant : Bool → ℕ → State → Outcome (TermRef × State)
  typed_constant left depth s = constant_at left depth s >>= typed_entry (literal_of s.0)

  -- a term of at most that depth
  unfoldable pub term_at : Bool → ℕ → State → Outcome (TermRef × State)
  term_at left zero s = refused TooDeep 0
  term_at left (suc depth) ([], f) = refused Unexpected 0
  term_at left (suc depth) ((at, value_part name) ∷ ps, f) = value_at left at name (ps, f)
  term_at left (suc depth) ((at, operation_part name asks) ∷ ps, f) = typed_operation (term_at left depth) left at name asks (ps, f)
  term_at left (suc depth) (p ∷ ps, f) = typed_constant left (suc depth) (p ∷ ps, f)

  abbrev pub required : ℕ × Sema → Sema
  required x = (and_number (number.Require x.0) x.1).1

  abbrev pub comparing : Option Predicate → List ℕ → ℕ → Sema → Outcome Sema
  comparing (Some p) (i ∷ j ∷ []) at f = Ok (required (and_number (number.Compare p i j) f))
  comparing _ _ at f = refused TypeMismatch at

  abbrev pub a_power : List ℕ → ℕ → Sema → Outcome Sema
  a_power (i ∷ []) at f = Ok (and_number (number.Log2 i) f).1
  a_power _ at f = refused TypeMismatch at

  -- the condition on the numbers at these places
  abbrev pub visited_by : List ℕ → List ℕ → ℕ → Sema → Outcome Sema
  visited_by w places at f = if is_power w then a_power places at f else comparing (predicate_named w) places at f

  -- a condition on numbers; a name, `true` or `false` among its operands must determine their type
  unfoldable pub numbers_requested : ℕ → List ℕ → State → Outcome State
  numbers_requested at w s =
      gathered (number_at number_depth (next_type s.1)) headroom [] (s.0, with_type s.1) >>= λ x.
      visited_by w x.0 at x.1.1 >>= λ f. named_at (next_type s.1) at f >>= λ g. Ok (x.1.0, g)

  abbrev pub condition_at : ℕ → List ℕ → State → Outcome State
  condition_at at w s = if is_narrower w then types_requested at s else numbers_requested at w s

  unfoldable pub conditions_at : ℕ → State → Outcome Sema
  conditions_at zero s = refused TooMany 0
  conditions_at (suc n) ([], f) = Ok f
  conditions_at (suc n) ((at, condition_part w) ∷ ps, f) = condition_at at w (ps, f) >>= conditions_at n
  conditions_at (suc n) (p ∷ ps, f) = refused Unexpected 0

-- ---- the end of the analysis

abbrev pub is_determined : List PatternType → List ℕ → PatternType → Bool
is_determined ks olds (ty.Concrete k) = true
is_determined ks olds (ty.Variable r) = list_any (λ i. same_kind (kind_of i ks) (ty.Variable r)) olds

-- the types of terms on the right and in conditions are concrete, or occur on the left
unfoldable pub all_determined : List PatternType → List ℕ → List RequiredType → Outcome (Unit {0})
all_determined ks olds [] = Ok tt
all_determined ks olds (t ∷ ts) = if is_determined ks olds (kind_of t.slot ks) then all_determined ks olds ts else refused TypeMismatch t.left

-- the literals are in range of their concrete types
abbrev pub fits : PatternType → Literal → Bool
fits (ty.Concrete k) l = is_some (bits_with (k ∷ []) (record l { ty = 0 }))
fits (ty.Variable r) l = true

unfoldable pub all_fit : List PatternType → List LiteralAt → Outcome (Unit {0})
all_fit ks [] = Ok tt
all_fit ks (l ∷ ls) = if fits (kind_of l.literal.ty ks) l.literal then all_fit ks ls else refused BadValue l.left

abbrev pub is_index : PatternType → Bool
is_index k = same_kind k (ty.Concrete bits.Index)

-- an index cast has `index` at one end and an integer type at the other
abbrev pub cast_requested : List PatternType → CastConstraint → Outcome TypeConstraint
cast_requested ks c =
    if is_index (kind_of c.from ks) then (if is_index (kind_of c.to ks) then refused TypeMismatch c.left else Ok (type_constraints.Integer c.to))
    else (if is_index (kind_of c.to ks) then Ok (type_constraints.Integer c.from) else refused TypeMismatch c.left)

unfoldable pub all_cast : List PatternType → List TypeConstraint → List CastConstraint → Outcome (List TypeConstraint)
all_cast ks found [] = Ok found
all_cast ks found (c ∷ cs) = cast_requested ks c >>= λ k. all_cast ks (found ++ k ∷ []) cs

-- the type variables among the types, in the order of terms
abbrev pub with_kind : List ℕ → PatternType → List ℕ
with_kind found (ty.Concrete k) = found
with_kind found (ty.Variable r) = if list_any (eqb r) found then found else found ++ r ∷ []

unfoldable pub found_in : List PatternType → List ℕ → List ℕ → List ℕ
found_in ks found [] = found
found_in ks found (i ∷ is) = found_in ks (with_kind found (kind_of i ks)) is

unfoldable pub place_in : ℕ → ℕ → List ℕ → Option ℕ
place_in k r [] = None
place_in k r (s ∷ ss) = if eqb r s then Some k else place_in (k + 1) r ss

abbrev pub determined_slots : List RequiredType → List ℕ
determined_slots ts = map (λ t. t.slot) ts

-- a type variable, renumbered by its index; a type without an index doesn't occur
abbrev pub numbered_from : Option ℕ → PatternType
numbered_from (Some v) = ty.Variable v
numbered_from None = ty.Concrete (bits.Int 0)

abbrev pub numbered : List ℕ → PatternType → PatternType
numbered found (ty.Concrete k) = ty.Concrete k
numbered found (ty.Variable r) = numbered_from (place_in 0 r found)

unfoldable pub all_numbered : List ℕ → List PatternType → List PatternType
all_numbered found ks = map (numbered found) ks

abbrev pub checked : PatternModel → Outcome PatternModel
checked p = if is_well_formed p then Ok p else refused Unexpected 0

-- ---- a pattern

abbrev pub begins_with : ℕ → Sema
begins_with n =
    record { value_types = map ty.Variable (range_with_len 0 n); named = []; old_types = []; new_types = []; casts = []; literals = []; type_constraints = []; visited = []; extra = []; given = []; old = []; new = [] }

abbrev pub count_constants : List Variable → ℕ
count_constants [] = 0
count_constants (v ∷ vs) = if v.0 then count_constants vs else 1 + count_constants vs

-- the first places: the extra constants are the constants on the left that aren't the first use of a name
abbrev pub places_of : Names → Places
places_of n =
    record {
      variables = n.variables;
      extra = length n.variables;
      given = length n.variables + (n.constants - count_constants n.variables);
      old = length n.variables + (n.constants - count_constants n.variables) + n.numbers;
      new = length n.variables + (n.constants - count_constants n.variables) + n.numbers + n.old;
    }

abbrev pub old_depth : ℕ
old_depth = 5

abbrev pub finished_with : Places → ℕ → ℕ → Sema → ℕ × List PatternType → Outcome PatternModel
finished_with b root result f found =
    checked (record {
      types = found.0;
      value_types = found.1;
      values = range_with_len 0 (length b.variables);
      constants = constants_of 0 b.variables;
      extra = f.extra;
      type_constraints = f.type_constraints;
      given = f.given;
      old = f.old;
      root = root;
      new = f.new;
      result = result;
    })

abbrev pub with_all : Sema → Outcome (List TypeConstraint) → Outcome Sema
with_all f (Ok list) = Ok (record f { type_constraints = list })
with_all f (Err e) = Err e

abbrev pub with_casts : Sema → Outcome Sema
with_casts f = with_all f (all_cast f.value_types f.type_constraints f.casts)

-- all types are known, literals are in range, and index casts are valid
abbrev pub settled : Sema → Outcome Sema
settled f = all_determined f.value_types f.old_types f.new_types >>= λ reported. all_fit f.value_types f.literals >>= λ fits_in. with_casts f

abbrev pub variables_found : Sema → List ℕ
variables_found f = found_in f.value_types (found_in f.value_types [] f.old_types) (determined_slots f.new_types)

-- the number of type variables, and the types
abbrev pub kinds_found : List ℕ → List PatternType → ℕ × List PatternType
kinds_found found ks = (length found, all_numbered found ks)

unfoldable pub finished : Places → ℕ → ℕ → Sema → Outcome PatternModel
finished b root result f = settled f >>= λ g. finished_with b root result g (kinds_found (variables_found g) g.value_types)

unfoldable pub sides_wellformed : Places → Pattern → Outcome PatternModel
sides_wellformed b p = do
  old ← term_at b true old_depth (p.old, begins_with (length b.variables))
  new ← term_at b false 17 (p.new, old.1.1)
  f ← unite old.0.slot new.0.slot new.0.left new.1.1
  g ← conditions_at b 17 (p.conditions, f)
  finished b old.0.place new.0.place g

-- the pattern of these parts
unfoldable pub wellformed : Pattern → Outcome PatternModel
wellformed p = names_of p >>= λ n. sides_wellformed (places_of n) p
