-- The rules on casts of casts.
use Rattle.std.proofs.Common.{◌≡◌, ℕ, ◌<◌, ◌≤◌, ◌^◌, List, [], ◌∷◌, true, Some, refl, sym, ap, ◌∙◌, subst, arith}
use Rattle.std.specs.Prelude.{codes}
use Rattle.std.specs.List.{list_all}
use Rattle.std.specs.Option.{option_map}
use Rattle.std.proofs.lemmas.Bool.Decides.{nat_tests}
use Rattle.ir_types.specs.declared.bits.BitsKind.{BitsKind}
use Rattle.ir_types.specs.declared.bits.BitsKind.TheVariants as kind
use Rattle.ir_types.specs.Bits.{width_of, type_of}
use Rattle.dialects_int.specs.declared.operations.Cast.{Cast}
use Rattle.dialects_int.specs.declared.operations.Cast.TheVariants as cast
use Rattle.dialects_int.specs.declared.operations.Rule.TheVariants as rule
use Rattle.dialects_int.specs.Arithmetic.{cast_of, sign_extended, zero_extended, truncated}
use Rattle.dialects_int.specs.Folds.{Known, rule_of, rules, is_property}
use Rattle.dialects_int.proofs.KnownOperands.{resize_folds, index_cast_folds}
use Rattle.dialects_int.proofs.CastLaws.{extended_twice, zeros_twice, sign_of_zeros, truncated_twice, truncated_back, truncated_zeros_back, extended_back, zeros_back}
use Rattle.patterns_laws.specs.Words.{index_casts}
use Rattle.patterns_laws.specs.Made.{Entries, given_by}
use Rattle.patterns_laws.specs.Keeps.{Each, given, Extending, CuttingTwice, CuttingBack, ComingBack}
use Rattle.patterns_laws.proofs.KnownFolds.{some_bits, below, kind_back, fine_of, mapped_some, given_some}
use Rattle.std.proofs.lemmas.Option.{same_Some}

-- the result of a cast between integers, and its operand
resize_gives : (name : List ℕ) (c : Cast) (p : Entries) (v w a n : ℕ) → rule_of name ≡ Some (rule.IntegerCast c) → list_all (is_property name) p ≡ true → cast_of c v w a ≡ Some n
    → given_by name p (type_of (kind.Int w)) ((kind.Int v, a) ∷ []) ≡ Some (kind.Int w, n)
resize_gives name c p v w a n r fine e =
    resize_folds name c p (type_of (kind.Int w)) w (record { by = r; fine = fine; kind = refl }) v a ∙ ap (option_map (λ bits. (kind.Int w, bits))) e

record Resized (c : Cast) (name : List ℕ) (p : Entries) (v w a : ℕ) (z : Known) : Type 0 where
  number : ℕ
  is : cast_of c v w a ≡ Some number
  whole : (kind.Int w, number) ≡ z
  fine : list_all (is_property name) p ≡ true

resize_gave : (name : List ℕ) (c : Cast) (p : Entries) (v w a : ℕ) (z : Known) → rule_of name ≡ Some (rule.IntegerCast c) → given_by name p (type_of (kind.Int w)) ((kind.Int v, a) ∷ []) ≡ Some z → Resized c name p v w a z
resize_gave name c p v w a z r h =
    let fine : list_all (is_property name) p ≡ true = fine_of name p (Some (kind.Int v, a) ∷ []) (type_of (kind.Int w)) z h in
    let by : (n : ℕ) × (cast_of c v w a ≡ Some n) × ((kind.Int w, n) ≡ z) =
    mapped_some (kind.Int w) (cast_of c v w a) z (sym (resize_folds name c p (type_of (kind.Int w)) w (record { by = r; fine = fine; kind = refl }) v a) ∙ h) in
    record { number = by.0; is = by.1; whole = by.2; fine = fine }

-- the numbers of a cast of a cast
record ResizedTwice (c d : Cast) (u v w a : ℕ) (z : Known) : Type 0 where
  middle : ℕ
  number : ℕ
  inner : cast_of c u v a ≡ Some middle
  outer : cast_of d v w middle ≡ Some number
  whole : (kind.Int w, number) ≡ z

resized_twice : (inner outer : List ℕ) (c d : Cast) (p q : Entries) (u v w a : ℕ) (z : Known) → rule_of inner ≡ Some (rule.IntegerCast c) → rule_of outer ≡ Some (rule.IntegerCast d)
    → given (given_by inner p (type_of (kind.Int v)) ((kind.Int u, a) ∷ [])) (λ y. given_by outer q (type_of (kind.Int w)) (y ∷ [])) ≡ Some z → ResizedTwice c d u v w a z
resized_twice inner outer c d p q u v w a z rc rd h =
    let both = given_some (given_by inner p (type_of (kind.Int v)) ((kind.Int u, a) ∷ [])) (λ y. given_by outer q (type_of (kind.Int w)) (y ∷ [])) z h in
    let g = resize_gave inner c p u v a both.0 rc both.1 in
    let f = resize_gave outer d q v w g.number z rd (subst (λ y. given_by outer q (type_of (kind.Int w)) (y ∷ []) ≡ Some z) (sym g.whole) both.2) in
    record { middle = g.number; number = f.number; inner = g.is; outer = f.is; whole = f.whole }

by_extsi : rule_of (codes "arith.extsi") ≡ Some (rule.IntegerCast cast.ExtendSigned)
unfolding rule_of rules
by_extsi = refl

by_extui : rule_of (codes "arith.extui") ≡ Some (rule.IntegerCast cast.ExtendUnsigned)
unfolding rule_of rules
by_extui = refl

by_trunci : rule_of (codes "arith.trunci") ≡ Some (rule.IntegerCast cast.Truncate)
unfolding rule_of rules
by_trunci = refl

-- ---- `extend-extension`
recast : (inner outer new : List ℕ) (c d e : Cast) → rule_of inner ≡ Some (rule.IntegerCast c) → rule_of outer ≡ Some (rule.IntegerCast d) → rule_of new ≡ Some (rule.IntegerCast e)
    → ((u v w a m n : ℕ) → u < v → v < w → 1 ≤ u → a < 2 ^ u → cast_of c u v a ≡ Some m → cast_of d v w m ≡ Some n → cast_of e u w a ≡ Some n) → Extending inner outer new
recast inner outer new c d e rc rd re law u v w p q a z uv vw ha h =
    let g = resized_twice inner outer c d p q u v w a z rc rd h in
    resize_gives new e [] u w a g.number re refl (law u v w a g.middle g.number uv vw (some_bits (kind.Int u) a ha) (below (kind.Int u) a ha) g.inner g.outer) ∙ ap Some g.whole

pub signed_twice : Extending (codes "arith.extsi") (codes "arith.extsi") (codes "arith.extsi")
signed_twice = recast (codes "arith.extsi") (codes "arith.extsi") (codes "arith.extsi") cast.ExtendSigned cast.ExtendSigned cast.ExtendSigned by_extsi by_extsi by_extsi
    (λ u v w a m n uv vw su la e f. ap Some (sym (extended_twice u v w a su (omega arith) la) ∙ ap (sign_extended v w) (same_Some (sign_extended u v a) m e) ∙ same_Some (sign_extended v w m) n f))

pub unsigned_twice : Extending (codes "arith.extui") (codes "arith.extui") (codes "arith.extui")
unsigned_twice = recast (codes "arith.extui") (codes "arith.extui") (codes "arith.extui") cast.ExtendUnsigned cast.ExtendUnsigned cast.ExtendUnsigned by_extui by_extui by_extui
    (λ u v w a m n uv vw su la e f. ap Some (sym (zeros_twice u v w a (omega arith) la) ∙ ap (zero_extended w) (same_Some (zero_extended v a) m e) ∙ same_Some (zero_extended w m) n f))

pub signed_of_unsigned : Extending (codes "arith.extui") (codes "arith.extsi") (codes "arith.extui")
signed_of_unsigned = recast (codes "arith.extui") (codes "arith.extsi") (codes "arith.extui") cast.ExtendUnsigned cast.ExtendSigned cast.ExtendUnsigned by_extui by_extsi by_extui
    (λ u v w a m n uv vw su la e f. ap Some (sym (sign_of_zeros u v w a uv la) ∙ ap (sign_extended v w) (same_Some (zero_extended v a) m e) ∙ same_Some (sign_extended v w m) n f))

-- ---- `cut-cast`
cut_less : (v w a n : ℕ) → truncated v w a ≡ Some n → w < v
unfolding truncated
cut_less v w a n e = grind (arith, nat_tests)

pub cut_twice : CuttingTwice
cut_twice u v w p q a z h =
    let g = resized_twice (codes "arith.trunci") (codes "arith.trunci") cast.Truncate cast.Truncate p q u v w a z by_trunci by_trunci h in
    resize_gives (codes "arith.trunci") cast.Truncate [] u w a g.number by_trunci refl (sym (truncated_twice u v w a g.middle (cut_less v w g.middle g.number g.outer) g.inner) ∙ g.outer) ∙ ap Some g.whole

cut_back : (name : List ℕ) (c : Cast) → rule_of name ≡ Some (rule.IntegerCast c) → ((u v a m n : ℕ) → u < v → 1 ≤ u → a < 2 ^ u → cast_of c u v a ≡ Some m → truncated v u m ≡ Some n → n ≡ a) → CuttingBack name
cut_back name c r law u v p q a z uv ha h =
    let g = resized_twice name (codes "arith.trunci") c cast.Truncate p q u v u a z r by_trunci h in
    ap (λ n. (kind.Int u, n)) (sym (law u v a g.middle g.number uv (some_bits (kind.Int u) a ha) (below (kind.Int u) a ha) g.inner g.outer)) ∙ g.whole

pub cut_back_signed : CuttingBack (codes "arith.extsi")
cut_back_signed = cut_back (codes "arith.extsi") cast.ExtendSigned by_extsi
    (λ u v a m n uv su la e f. same_Some n a (sym f ∙ ap (truncated v u) (sym (same_Some (sign_extended u v a) m e)) ∙ truncated_back u v a su uv la))

pub cut_back_unsigned : CuttingBack (codes "arith.extui")
cut_back_unsigned = cut_back (codes "arith.extui") cast.ExtendUnsigned by_extui
    (λ u v a m n uv su la e f. same_Some n a (sym f ∙ ap (truncated v u) (sym (same_Some (zero_extended v a) m e)) ∙ truncated_zeros_back u v a uv la))

-- ---- `cast-back`
index_gave : (name : List ℕ) (c : Cast) (p : Entries) (j k : BitsKind) (a : ℕ) (z : Known) → rule_of name ≡ Some (rule.IndexCast c) → given_by name p (type_of k) ((j, a) ∷ []) ≡ Some z
    → (n : ℕ) × (cast_of c (width_of j) (width_of k) a ≡ Some n) × ((k, n) ≡ z)
index_gave name c p j k a z r h =
    let fine : list_all (is_property name) p ≡ true = fine_of name p (Some (j, a) ∷ []) (type_of k) z h in
    mapped_some k (cast_of c (width_of j) (width_of k) a) z (sym (index_cast_folds name c p (type_of k) k (record { by = r; fine = fine; kind = kind_back k }) j a) ∙ h)

came_back : (name : List ℕ) (c : Cast) → rule_of name ≡ Some (rule.IndexCast c)
    → ((u v a m n : ℕ) → 1 ≤ u → u ≤ v → a < 2 ^ u → cast_of c u v a ≡ Some m → cast_of c v u m ≡ Some n → n ≡ a) → ComingBack name
came_back name c r law j k p q a z jk ha h =
    let both = given_some (given_by name p (type_of k) ((j, a) ∷ [])) (λ y. given_by name q (type_of j) (y ∷ [])) z h in
    let g = index_gave name c p j k a both.0 r both.1 in
    let f = index_gave name c q k j g.0 z r (subst (λ y. given_by name q (type_of j) (y ∷ []) ≡ Some z) (sym g.2) both.2) in
    ap (λ n. (j, n)) (sym (law (width_of j) (width_of k) a g.0 f.0 (some_bits j a ha) jk (below j a ha) g.1 f.1)) ∙ f.2

pub all_came_back : Each ComingBack index_casts
unfolding rule_of rules index_casts
all_came_back = (
  came_back (codes "arith.index_cast") cast.ExtendSigned refl
      (λ u v a m n su uv la e f. same_Some n a (sym f ∙ ap (λ x. Some (sign_extended v u x)) (sym (same_Some (sign_extended u v a) m e)) ∙ ap Some (extended_back u v a su uv la))),
  (
    came_back (codes "arith.index_castui") cast.ExtendUnsigned refl
        (λ u v a m n su uv la e f. same_Some n a (sym f ∙ ap (λ x. Some (zero_extended u x)) (sym (same_Some (zero_extended v a) m e)) ∙ ap Some (zeros_back u v a uv la))),
    tt,
  ),
)
