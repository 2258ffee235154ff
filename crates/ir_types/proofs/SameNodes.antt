-- The equality tests of nodes are true only for equal nodes, and agree with the derived `==`.
use denote.Enum.Bare.{sameb}
use Rattle.std.specs.Prelude.{◌==◌}
use Rattle.std.specs.Bool.{beq}
use Rattle.std.specs.Cmp.{first_so, second_so, unsigned_Decides, signed_Decides, booleans_Decides}
use Rattle.std.specs.Cmp.Lexicographic.{pointwise}
use Rattle.std.specs.Option.{option_eq}
use Rattle.std.specs.Ordering.{int_eq}
use Rattle.std.proofs.Common.{◌≡◌, refl, sym, ap, Bool, true, true≢false, ◌&&◌, [], ◌∷◌, Some, None}
use Rattle.ir_types.specs.declared.node.Sign.{Sign}
use Rattle.ir_types.specs.declared.node.Sign.TheVariants.{Signless, Signed, Unsigned}
use Rattle.ir_types.specs.declared.node.TypeNode.{TypeNode}
use Rattle.ir_types.specs.declared.node.TypeNode.TheVariants as type
use Rattle.ir_types.specs.declared.node.AttrNode.{AttrNode}
use Rattle.ir_types.specs.declared.node.AttrNode.TheVariants as attr
use Rattle.ir_types.specs.contracts.node.Sign.{the_type}
use Rattle.ir_types.specs.contracts.node.TypeNodePartialEq.TheImpl as type_node_eq
use Rattle.ir_types.specs.contracts.node.AttrNodePartialEq.TheImpl as attr_node_eq
use Rattle.ir_types.specs.Same.{same_sign, same_entry, same_type, same_attr}
use Rattle.std.proofs.lemmas.Bool.{and_from}

-- a test that is true only for one value, and is true for the value itself
abbrev pub IsExact : {A : Type 0} → (A → A → Bool) → Type 0
IsExact {A} same = (x y : A) → same x y ≡ true → x ≡ y

abbrev pub IsReflexive : {A : Type 0} → (A → A → Bool) → Type 0
IsReflexive {A} same = (x : A) → same x x ≡ true

-- numbers, integers and truth values
pub number_is : IsExact ◌==◌
number_is x y h = (unsigned_Decides x y).0 h

pub number_refl : IsReflexive ◌==◌
number_refl x = (unsigned_Decides x x).1 refl

integer_is : IsExact int_eq
integer_is x y h = (signed_Decides x y).0 h

integer_refl : IsReflexive int_eq
integer_refl x = (signed_Decides x x).1 refl

boolean_is : IsExact beq
boolean_is x y h = (booleans_Decides x y).0 h

boolean_refl : IsReflexive beq
boolean_refl x = (booleans_Decides x x).1 refl

sign_is : IsExact same_sign
sign_is Signless Signless h = refl
sign_is Signed Signed h = refl
sign_is Unsigned Unsigned h = refl
sign_is _ _ h = absurd (true≢false (sym h))

sign_refl : IsReflexive same_sign
sign_refl Signless = refl
sign_refl Signed = refl
sign_refl Unsigned = refl

-- entries, lists and options
entry_is : IsExact same_entry
entry_is x y h = λ i. (number_is x.0 y.0 (first_so (x.0 == y.0) (x.1 == y.1) h) i, number_is x.1 y.1 (second_so (x.0 == y.0) (x.1 == y.1) h) i)

entry_refl : IsReflexive same_entry
entry_refl x = and_from (x.0 == x.0) (x.1 == x.1) (number_refl x.0) (number_refl x.1)

pub list_is : {A : Type 0} {same : A → A → Bool} → IsExact same → IsExact (pointwise same)
list_is is [] [] h = refl
list_is is [] (y ∷ ys) h = absurd (true≢false (sym h))
list_is is (x ∷ xs) [] h = absurd (true≢false (sym h))
list_is {A} {same} is (x ∷ xs) (y ∷ ys) h = λ i. is x y (first_so (same x y) (pointwise same xs ys) h) i ∷ list_is is xs ys (second_so (same x y) (pointwise same xs ys) h) i

pub list_refl : {A : Type 0} (same : A → A → Bool) → IsReflexive same → IsReflexive (pointwise same)
list_refl same same_refl [] = refl
list_refl same same_refl (x ∷ xs) = and_from (same x x) (pointwise same xs xs) (same_refl x) (list_refl same same_refl xs)

option_is : {A : Type 0} {same : A → A → Bool} → IsExact same → IsExact (option_eq same)
option_is is None None h = refl
option_is is None (Some y) h = absurd (true≢false (sym h))
option_is is (Some x) None h = absurd (true≢false (sym h))
option_is is (Some x) (Some y) h = ap Some (is x y h)

option_refl : {A : Type 0} (same : A → A → Bool) → IsReflexive same → IsReflexive (option_eq same)
option_refl same same_refl None = refl
option_refl same same_refl (Some x) = same_refl x

-- types
pub same_type_is : (x y : TypeNode) → same_type x y ≡ true → x ≡ y
unfolding same_type
same_type_is (type.Int s v) (type.Int t w) h = λ i. type.Int (sign_is s t (first_so (same_sign s t) (v == w) h) i) (number_is v w (second_so (same_sign s t) (v == w) h) i)
same_type_is type.Index type.Index h = refl
same_type_is (type.Func is os) (type.Func js ps) h =
    λ i. type.Func (list_is number_is is js (first_so (pointwise ◌==◌ is js) (pointwise ◌==◌ os ps) h) i) (list_is number_is os ps (second_so (pointwise ◌==◌ is js) (pointwise ◌==◌ os ps) h) i)
same_type_is (type.Memref ds e) (type.Memref es f) h =
    λ i. type.Memref (list_is (option_is number_is) ds es (first_so (pointwise (option_eq ◌==◌) ds es) (e == f) h) i) (number_is e f (second_so (pointwise (option_eq ◌==◌) ds es) (e == f) h) i)
same_type_is (type.Opaque s) (type.Opaque t) h = ap type.Opaque (list_is number_is s t h)
same_type_is _ _ h = absurd (true≢false (sym h))

pub same_type_refl : (x : TypeNode) → same_type x x ≡ true
unfolding same_type
same_type_refl (type.Int s v) = and_from (same_sign s s) (v == v) (sign_refl s) (number_refl v)
same_type_refl type.Index = refl
same_type_refl (type.Func is os) = and_from (pointwise ◌==◌ is is) (pointwise ◌==◌ os os) (list_refl ◌==◌ number_refl is) (list_refl ◌==◌ number_refl os)
same_type_refl (type.Memref ds e) = and_from (pointwise (option_eq ◌==◌) ds ds) (e == e) (list_refl (option_eq ◌==◌) (option_refl ◌==◌ number_refl) ds) (number_refl e)
same_type_refl (type.Opaque s) = list_refl ◌==◌ number_refl s

-- attributes
pub same_attr_is : (x y : AttrNode) → same_attr x y ≡ true → x ≡ y
unfolding same_attr
same_attr_is (attr.Int s v) (attr.Int t w) h = λ i. attr.Int (number_is s t (first_so (s == t) (v == w) h) i) (number_is v w (second_so (s == t) (v == w) h) i)
same_attr_is (attr.Str m) (attr.Str n) h = ap attr.Str (number_is m n h)
same_attr_is (attr.Ty s) (attr.Ty t) h = ap attr.Ty (number_is s t h)
same_attr_is attr.Unit attr.Unit h = refl
same_attr_is (attr.Array xs) (attr.Array ys) h = ap attr.Array (list_is number_is xs ys h)
same_attr_is (attr.Dict xs) (attr.Dict ys) h = ap attr.Dict (list_is entry_is xs ys h)
same_attr_is (attr.Sym xs) (attr.Sym ys) h = ap attr.Sym (list_is number_is xs ys h)
same_attr_is (attr.Dense s xs) (attr.Dense t ys) h =
    λ i. attr.Dense (number_is s t (first_so (s == t) (pointwise int_eq xs ys) h) i) (list_is integer_is xs ys (second_so (s == t) (pointwise int_eq xs ys) h) i)
same_attr_is (attr.Overflow a b) (attr.Overflow c d) h = λ i. attr.Overflow (boolean_is a c (first_so (beq a c) (beq b d) h) i) (boolean_is b d (second_so (beq a c) (beq b d) h) i)
same_attr_is (attr.Opaque s t) (attr.Opaque r u) h =
    λ i. attr.Opaque (list_is number_is s r (first_so (pointwise ◌==◌ s r) (option_eq ◌==◌ t u) h) i) (option_is number_is t u (second_so (pointwise ◌==◌ s r) (option_eq ◌==◌ t u) h) i)
same_attr_is _ _ h = absurd (true≢false (sym h))

pub same_attr_refl : (x : AttrNode) → same_attr x x ≡ true
unfolding same_attr
same_attr_refl (attr.Int s v) = and_from (s == s) (v == v) (number_refl s) (number_refl v)
same_attr_refl (attr.Str n) = number_refl n
same_attr_refl (attr.Ty t) = number_refl t
same_attr_refl attr.Unit = refl
same_attr_refl (attr.Array xs) = list_refl ◌==◌ number_refl xs
same_attr_refl (attr.Dict xs) = list_refl same_entry entry_refl xs
same_attr_refl (attr.Sym xs) = list_refl ◌==◌ number_refl xs
same_attr_refl (attr.Dense s xs) = and_from (s == s) (pointwise int_eq xs xs) (number_refl s) (list_refl int_eq integer_refl xs)
same_attr_refl (attr.Overflow a b) = and_from (beq a a) (beq b b) (boolean_refl a) (boolean_refl b)
same_attr_refl (attr.Opaque s t) = and_from (pointwise ◌==◌ s s) (option_eq ◌==◌ t t) (list_refl ◌==◌ number_refl s) (option_refl ◌==◌ number_refl t)

-- the derived `==` is the equality test
derived_sign : (s t : Sign) → sameb the_type s t ≡ same_sign s t
derived_sign Signless Signless = refl
derived_sign Signed Signed = refl
derived_sign Unsigned Unsigned = refl
derived_sign _ _ = refl

pub derived_type : (x y : TypeNode) → (type_node_eq.ghosts).eq x y ≡ same_type x y
unfolding same_type
derived_type (type.Int s v) (type.Int t w) = ap (λ b. b && (v == w)) (derived_sign s t)
derived_type type.Index type.Index = refl
derived_type (type.Func is os) (type.Func js ps) = refl
derived_type (type.Memref ds e) (type.Memref es f) = refl
derived_type (type.Opaque s) (type.Opaque t) = refl
derived_type _ _ = refl

pub derived_attr : (x y : AttrNode) → (attr_node_eq.ghosts).eq x y ≡ same_attr x y
unfolding same_attr
derived_attr (attr.Int s v) (attr.Int t w) = refl
derived_attr (attr.Str m) (attr.Str n) = refl
derived_attr (attr.Ty s) (attr.Ty t) = refl
derived_attr attr.Unit attr.Unit = refl
derived_attr (attr.Array xs) (attr.Array ys) = refl
derived_attr (attr.Dict xs) (attr.Dict ys) = refl
derived_attr (attr.Sym xs) (attr.Sym ys) = refl
derived_attr (attr.Dense s xs) (attr.Dense t ys) = refl
derived_attr (attr.Overflow a b) (attr.Overflow c d) = refl
derived_attr (attr.Opaque s t) (attr.Opaque r u) = refl
derived_attr _ _ = refl
