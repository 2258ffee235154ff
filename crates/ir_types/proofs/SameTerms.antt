-- The equality test of types is correct, and agrees with the equality of their ids.
use Rattle.std.proofs.Common.{◌≡◌, refl, sym, ap, ◌∙◌, ℕ, Bool, true, false, true≢false, ◌&&◌, List, [], ◌∷◌, Some, None, inl, inr}
use Rattle.std.specs.Prelude.{◌==◌, Option}
use Rattle.std.specs.Cmp.{first_so, second_so, unsigned_Decides}
use Rattle.std.specs.Cmp.Lexicographic.{pointwise}
use Rattle.std.specs.Option.{option_eq}
use Rattle.ir_types.specs.declared.node.Sign.{Sign}
use Rattle.ir_types.specs.declared.node.Sign.TheVariants.{Signless, Signed, Unsigned}
use Rattle.ir_types.specs.Same.{same_sign}
use Rattle.ir_types.specs.Things.{ContextModel, IsType}
use Rattle.ir_types.specs.Terms.{TypeTerm, Integer, Index, Function, Memref, OpaqueType, TypeTerms, no_types, next_type, type_term}
use Rattle.ir_types.specs.Sound.{IsSound}
use Rattle.ir_types.proofs.Terms.{type_term_one}
use Rattle.std.proofs.lemmas.Bool.{cases_Bool, and_from}
use Rattle.ir_types.specs.SameTypes.{same_type, same_terms}

sign_is : (x y : Sign) → same_sign x y ≡ true → x ≡ y
sign_is Signless Signless h = refl
sign_is Signed Signed h = refl
sign_is Unsigned Unsigned h = refl
sign_is _ _ h = absurd (true≢false (sym h))

pub sign_refl : (x : Sign) → same_sign x x ≡ true
sign_refl Signless = refl
sign_refl Signed = refl
sign_refl Unsigned = refl

pub number_is : (x y : ℕ) → (x == y) ≡ true → x ≡ y
number_is x y h = (unsigned_Decides x y).0 h

number_refl : (x : ℕ) → (x == x) ≡ true
number_refl x = (unsigned_Decides x x).1 refl

dim_is : (x y : Option ℕ) → option_eq ◌==◌ x y ≡ true → x ≡ y
dim_is None None h = refl
dim_is None (Some y) h = absurd (true≢false (sym h))
dim_is (Some x) None h = absurd (true≢false (sym h))
dim_is (Some x) (Some y) h = ap Some (number_is x y h)

dim_refl : (x : Option ℕ) → option_eq ◌==◌ x x ≡ true
dim_refl None = refl
dim_refl (Some x) = number_refl x

dims_are : (xs ys : List (Option ℕ)) → pointwise (option_eq ◌==◌) xs ys ≡ true → xs ≡ ys
dims_are [] [] h = refl
dims_are [] (y ∷ ys) h = absurd (true≢false (sym h))
dims_are (x ∷ xs) [] h = absurd (true≢false (sym h))
dims_are (x ∷ xs) (y ∷ ys) h = λ i. dim_is x y (first_so (option_eq ◌==◌ x y) (pointwise (option_eq ◌==◌) xs ys) h) i ∷ dims_are xs ys (second_so (option_eq ◌==◌ x y) (pointwise (option_eq ◌==◌) xs ys) h) i

pub dims_refl : (xs : List (Option ℕ)) → pointwise (option_eq ◌==◌) xs xs ≡ true
dims_refl [] = refl
dims_refl (x ∷ xs) = and_from (option_eq ◌==◌ x x) (pointwise (option_eq ◌==◌) xs xs) (dim_refl x) (dims_refl xs)

text_is : (xs ys : List ℕ) → pointwise ◌==◌ xs ys ≡ true → xs ≡ ys
text_is [] [] h = refl
text_is [] (y ∷ ys) h = absurd (true≢false (sym h))
text_is (x ∷ xs) [] h = absurd (true≢false (sym h))
text_is (x ∷ xs) (y ∷ ys) h = λ i. number_is x y (first_so (x == y) (pointwise ◌==◌ xs ys) h) i ∷ text_is xs ys (second_so (x == y) (pointwise ◌==◌ xs ys) h) i

text_refl : (xs : List ℕ) → pointwise ◌==◌ xs xs ≡ true
text_refl [] = refl
text_refl (x ∷ xs) = and_from (x == x) (pointwise ◌==◌ xs xs) (number_refl x) (text_refl xs)

mutual
  pub type_is : (t u : TypeTerm) → same_type t u ≡ true → t ≡ u
  type_is (Integer s v) (Integer r w) h = λ i. Integer (sign_is s r (first_so (same_sign s r) (v == w) h) i) (number_is v w (second_so (same_sign s r) (v == w) h) i)
  type_is Index Index h = refl
  type_is (Function is os) (Function js ps) h = λ i. Function (terms_are is js (first_so (same_terms is js) (same_terms os ps) h) i) (terms_are os ps (second_so (same_terms is js) (same_terms os ps) h) i)
  type_is (Memref ds e) (Memref es f) h =
      λ i. Memref (dims_are ds es (first_so (pointwise (option_eq ◌==◌) ds es) (same_type e f) h) i) (type_is e f (second_so (pointwise (option_eq ◌==◌) ds es) (same_type e f) h) i)
  type_is (Integer s v) Index h = absurd (true≢false (sym h))
  type_is (Integer s v) (Function js ps) h = absurd (true≢false (sym h))
  type_is (Integer s v) (Memref es f) h = absurd (true≢false (sym h))
  type_is Index (Integer r w) h = absurd (true≢false (sym h))
  type_is Index (Function js ps) h = absurd (true≢false (sym h))
  type_is Index (Memref es f) h = absurd (true≢false (sym h))
  type_is (Function is os) (Integer r w) h = absurd (true≢false (sym h))
  type_is (Function is os) Index h = absurd (true≢false (sym h))
  type_is (Function is os) (Memref es f) h = absurd (true≢false (sym h))
  type_is (Memref ds e) (Integer r w) h = absurd (true≢false (sym h))
  type_is (Memref ds e) Index h = absurd (true≢false (sym h))
  type_is (Memref ds e) (Function js ps) h = absurd (true≢false (sym h))
  type_is (OpaqueType s) (OpaqueType t) h = ap OpaqueType (text_is s t h)
  type_is (Integer s v) (OpaqueType t) h = absurd (true≢false (sym h))
  type_is Index (OpaqueType t) h = absurd (true≢false (sym h))
  type_is (Function is os) (OpaqueType t) h = absurd (true≢false (sym h))
  type_is (Memref ds e) (OpaqueType t) h = absurd (true≢false (sym h))
  type_is (OpaqueType s) (Integer r w) h = absurd (true≢false (sym h))
  type_is (OpaqueType s) Index h = absurd (true≢false (sym h))
  type_is (OpaqueType s) (Function js ps) h = absurd (true≢false (sym h))
  type_is (OpaqueType s) (Memref es f) h = absurd (true≢false (sym h))

  terms_are : (ts us : TypeTerms) → same_terms ts us ≡ true → ts ≡ us
  terms_are no_types no_types h = refl
  terms_are no_types (next_type u us) h = absurd (true≢false (sym h))
  terms_are (next_type t ts) no_types h = absurd (true≢false (sym h))
  terms_are (next_type t ts) (next_type u us) h = λ i. next_type (type_is t u (first_so (same_type t u) (same_terms ts us) h) i) (terms_are ts us (second_so (same_type t u) (same_terms ts us) h) i)

mutual
  pub type_refl : (t : TypeTerm) → same_type t t ≡ true
  type_refl (Integer s v) = and_from (same_sign s s) (v == v) (sign_refl s) (number_refl v)
  type_refl Index = refl
  type_refl (Function is os) = and_from (same_terms is is) (same_terms os os) (terms_refl is) (terms_refl os)
  type_refl (Memref ds e) = and_from (pointwise (option_eq ◌==◌) ds ds) (same_type e e) (dims_refl ds) (type_refl e)
  type_refl (OpaqueType s) = text_refl s

  pub terms_refl : (ts : TypeTerms) → same_terms ts ts ≡ true
  terms_refl no_types = refl
  terms_refl (next_type t ts) = and_from (same_type t t) (same_terms ts ts) (type_refl t) (terms_refl ts)

-- by ids of a context
pub same_numbers : (c : ContextModel) (m n : ℕ) → IsSound c → IsType c m → IsType c n → (m == n) ≡ same_type (type_term c m) (type_term c n)
same_numbers c m n sound h k = go (same_type (type_term c m) (type_term c n)) refl
  where
    go : (b : Bool) → same_type (type_term c m) (type_term c n) ≡ b → (m == n) ≡ same_type (type_term c m) (type_term c n)
    go true e = (unsigned_Decides m n).1 (type_term_one c m n sound h k (type_is (type_term c m) (type_term c n) e)) ∙ sym e
    go false e = elim (cases_Bool (m == n)) [
      | inr f ↦ f ∙ sym e
      | inl f ↦ absurd (true≢false (sym (type_refl (type_term c m)) ∙ ap (λ z. same_type (type_term c m) (type_term c z)) (number_is m n f) ∙ e))
    ]
