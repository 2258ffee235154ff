-- What rules read in a tree of operations: the defining operation of a value, whether it is verified, and the constant
-- that it defines.
use Rattle.std.specs.Prelude.{ℕ, List, [], ◌∷◌, Bool, true, false, ◌&&◌, eqb, codes, is_some, Option, Some, None}
use Rattle.std.specs.Prelude.{option_map}
use Rattle.std.specs.List.{list_all}
use Rattle.std.specs.Option.{option_eq}
use Rattle.ir_types.specs.Words.{is_inherent}
use Rattle.ir_types.specs.Terms.{TypeTerm, Index, AttrTerm}
use Rattle.ir_tree.specs.declared.value.Value.{Value}
use Rattle.ir_tree.specs.declared.value.Value.TheVariants.{Result, Arg}
use Rattle.ir_tree.specs.declared.place.Place.{Place}
use Rattle.ir_tree.specs.Tree.{HeadOf, OpsOf, no_ops, next, RegionOf, empty, block, head, regions}
use Rattle.ir_tree.specs.Ids.{find}
use Rattle.ir_tree.specs.Places.{place_of}
use Rattle.ir_tree.specs.Meaning.{Operation}
use Rattle.ir_tree_laws.specs.Values.{region_at, type_of_value}
use Rattle.patterns_laws.specs.integers.Folds.{Known, fold_of, property_of}
use Rattle.ir_types.specs.SameTypes.{same_type}
use Rattle.ir_verify.specs.Diagnostics.{broken_at, reported_at}
use Rattle.effects.specs.Dead.{is_dead}
use Rattle.patterns_laws.specs.Keeps.{given}
use Rattle.patterns_laws.specs.Words.{named, among}

-- the head of an operation, with terms: everything but its regions
abbrev pub Header : Type 0
Header = HeadOf (List ℕ) TypeTerm AttrTerm

-- a result, if a test passes
abbrev pub when : {X : Type 0} → Bool → Option X → Option X
when true r = r
when false r = None

-- whether an operation is in the tree and the list of verifier rules, those that it breaks or that are reported, is
-- empty
abbrev pub breaks_none : Option (List ℕ) → Bool
breaks_none (Some []) = true
breaks_none _ = false

-- whether each property of a header is inherent to its name
abbrev pub has_own_properties : Header → Bool
has_own_properties h = list_all (λ (e : List ℕ × AttrTerm). is_inherent h.name e.0) h.properties

-- whether an operation is verified: it breaks no rule of the verifier, and each of its properties is inherent to its
-- name
unfoldable pub is_verified : Operation → Header → Bool
is_verified t h = breaks_none (broken_at h.id t) && has_own_properties h

-- whether an operation is in order: the verifier reports no rule for it, and each of its properties is inherent to its
-- name. Each verified operation is in order. An operation outside the table may be in order without being verified
unfoldable pub is_in_order : Operation → Header → Bool
is_in_order t h = breaks_none (reported_at h.id t) && has_own_properties h

-- whether an operation may be erased: none of its results is used, and it has no effect that others observe
-- (`isOpTriviallyDead`)
unfoldable pub is_erasable : Operation → Operation → Bool
is_erasable t o = is_dead t o

-- the place before operation x, which has a place
abbrev pub insertion_point : ℕ → Place → Place
insertion_point x p = record { parent = p.parent; region = p.region; before = Some x }

-- the place before an operation; the root has none
abbrev pub insertion_of : ℕ → Operation → Option Place
insertion_of x t = option_map (insertion_point x) (place_of x t)

-- the defining operation of a value (`Value::getDefiningOp`)
abbrev pub defining_op : Operation → Value → Option Header
defining_op t (Result x k) = option_map head (find x t)
defining_op t (Arg x r k) = None

-- the defining operation, if it has one of some names and is verified
abbrev pub source_among : Operation → List (List ℕ) → Value → Option Header
source_among t names v = given (defining_op t v) (λ h. when (among names h.name && is_verified t h) (Some h))

-- the defining operation, if it has a given name and is verified
abbrev pub source : Operation → List ℕ → Value → Option Header
source t name v = given (defining_op t v) (λ h. when (named name h.name && is_verified t h) (Some h))

-- whether there is a header, and it is that of a constant
abbrev pub is_of_constant : Option Header → Bool
is_of_constant None = false
is_of_constant (Some h) = named (codes "arith.constant") h.name

-- whether a value is the result of a constant, verified or not
abbrev pub is_constant : Operation → Value → Bool
is_constant t v = is_of_constant (defining_op t v)

-- the value of a constant
abbrev pub constant_value : Header → Option Known
constant_value h = fold_of h.name h.properties [] h.results

-- the value of the verified constant that defines a value (`m_ConstantInt`)
unfoldable pub known : Operation → Value → Option Known
known t v = given (source t (codes "arith.constant") v) constant_value

-- whether a value is a known constant
abbrev pub is_known : Operation → Value → Bool
is_known t v = is_some (known t v)

-- whether an optional value is known and passes a test
abbrev pub passes : (Known → Bool) → Option Known → Bool
passes test None = false
passes test (Some k) = test k

-- whether a value is known to be a given number, by its bits
abbrev pub is_number : Operation → ℕ → Value → Bool
is_number t n v = passes (λ k. eqb k.1 n) (known t v)

-- the type of a value
abbrev pub type_of : Operation → Value → Option TypeTerm
type_of t v = type_of_value v t

-- whether a value has a given type
abbrev pub is_of_type : Operation → TypeTerm → Value → Bool
is_of_type t ty v = option_eq same_type (type_of t v) (Some ty)

-- whether a type is index
abbrev pub is_index : TypeTerm → Bool
is_index ty = same_type ty Index

-- whether a value has type index
abbrev pub is_index_value : Operation → Value → Bool
is_index_value t v = is_of_type t Index v

-- an operation with one operand and one result
pub record One : Type 0 where
  pub name : List ℕ
  pub first : Value
  pub ty : TypeTerm

-- an operation with two operands and one result
pub record Two : Type 0 where
  pub name : List ℕ
  pub first : Value
  pub second : Value
  pub ty : TypeTerm

-- an operation with three operands and one result
pub record Three : Type 0 where
  pub name : List ℕ
  pub first : Value
  pub second : Value
  pub third : Value
  pub ty : TypeTerm

-- the operation with one operand that a name, operands and results form, if they do
abbrev pub one_from : List ℕ → List Value → List TypeTerm → Option One
one_from name (a ∷ []) (ty ∷ []) = Some (record { name = name; first = a; ty = ty })
one_from name _ _ = None

-- the same for two operands
abbrev pub two_from : List ℕ → List Value → List TypeTerm → Option Two
two_from name (a ∷ b ∷ []) (ty ∷ []) = Some (record { name = name; first = a; second = b; ty = ty })
two_from name _ _ = None

-- the same for three operands
abbrev pub three_from : List ℕ → List Value → List TypeTerm → Option Three
three_from name (a ∷ b ∷ c ∷ []) (ty ∷ []) = Some (record { name = name; first = a; second = b; third = c; ty = ty })
three_from name _ _ = None

-- the header as an operation with one operand, with two, and with three
abbrev pub one : Header → Option One
one h = one_from h.name h.operands h.results

abbrev pub two : Header → Option Two
two h = two_from h.name h.operands h.results

abbrev pub three : Header → Option Three
three h = three_from h.name h.operands h.results

-- the number of a comparison's predicate
abbrev pub predicate : Header → Option ℕ
predicate h = option_map (λ (i : TypeTerm × ℕ). i.1) (property_of (codes "predicate") h.properties)

-- a block that isn't empty: the ids of its operations but the last, and the last one
pub record Ended : Type 0 where
  pub before : List ℕ
  pub last : Header

-- one more operation before the others
abbrev after : ℕ → Ended → Ended
after x e = record e { before = x ∷ e.before }

-- a block that consists of an operation and others after it
abbrev pub ended_by : Operation → OpsOf (List ℕ) TypeTerm AttrTerm → Ended
ended_by o no_ops = record { before = []; last = head o }
ended_by o (next p os) = after (head o).id (ended_by p os)

-- the block of a region, if it isn't empty
abbrev pub ended : RegionOf (List ℕ) TypeTerm AttrTerm → Option Ended
ended empty = None
ended (block args no_ops) = None
ended (block args (next o os)) = Some (ended_by o os)

-- the block of a region, if its last operation is verified
abbrev pub body : Operation → Operation → ℕ → Option Ended
body t o r = given (given (region_at r (regions o)) ended) (λ e. when (is_verified t e.last) (Some e))
