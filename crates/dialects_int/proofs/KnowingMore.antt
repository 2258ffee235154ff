-- More constant operands don't change a known result.
use Rattle.std.proofs.Common.{◌≡◌, ℕ, List, [], ◌∷◌, Bool, true, false, Some, None, refl, ap, ◌∙◌, arith}
use Rattle.std.specs.Prelude.{◌==◌, Option, if◌then◌else◌}
use Rattle.std.specs.List.{list_all}
use Rattle.std.specs.Option.{option_map}
use Rattle.std.proofs.lemmas.Bool.Decides.{nat_tests}
use Rattle.ir_types.specs.declared.bits.BitsKind.{BitsKind}
use Rattle.ir_types.specs.declared.bits.BitsKind.TheVariants as kind
use Rattle.ir_types.specs.Terms.{TypeTerm, AttrTerm}
use Rattle.ir_types.specs.Bits.{width_of}
use Rattle.dialects_int.specs.declared.operations.Arithmetic.{Arithmetic}
use Rattle.dialects_int.specs.declared.operations.Arithmetic.TheVariants as op
use Rattle.dialects_int.specs.declared.operations.Predicate.{Predicate}
use Rattle.dialects_int.specs.declared.operations.Cast.{Cast}
use Rattle.dialects_int.specs.declared.operations.Rule.{Rule}
use Rattle.dialects_int.specs.declared.operations.Rule.TheVariants as rule
use Rattle.dialects_int.specs.Arithmetic.{absorbs, cast_of, choice_of}
use Rattle.dialects_int.specs.Folds.{Known, IsWithin, KnowsMore, bits_at, or_else, alone, together, pair_value, pair_fold, compared, both, with, compare_fold, select_fold, resized, resize_fold, index_cast_fold, constant_fold, fold_by, rule_of, kind_of, same_kind, is_property, fold_of}

-- an item of one list is in the other
abbrev Stays : {A : Type 0} → Option A → Option A → Type 0
Stays {A} x y = (v : A) → x ≡ Some v → y ≡ Some v

stays_same : {A : Type 0} (x : Option A) → Stays x x
stays_same x v e = e

with_stays : {A B : Type 0} (f : A → Option B) (x y : Option A) → Stays x y → Stays (with f x) (with f y)
with_stays f None y h v e = absurd (cc e)
with_stays f (Some a) y h v e = ap (with f) (h a refl) ∙ e

bits_stay : (k : BitsKind) (x y : Option Known) → IsWithin x y → Stays (bits_at k x) (bits_at k y)
bits_stay k None y h v e = absurd (cc e)
bits_stay k (Some known) y h v e = ap (bits_at k) (h known refl) ∙ e

-- two absorbing operands are equal
enough_is_one : (o : Arithmetic) (w a b : ℕ) → absorbs o w a ≡ true → absorbs o w b ≡ true → a ≡ b
unfolding absorbs
enough_is_one op.Multiply w a b h k = grind (arith, nat_tests)
enough_is_one op.And w a b h k = grind (arith, nat_tests)
enough_is_one op.Or w a b h k = grind (arith, nat_tests)
enough_is_one op.Add w a b h k = absurd (cc h)
enough_is_one op.Subtract w a b h k = absurd (cc h)
enough_is_one op.ShiftLeft w a b h k = absurd (cc h)
enough_is_one op.DivideSigned w a b h k = absurd (cc h)
enough_is_one op.DivideUnsigned w a b h k = absurd (cc h)
enough_is_one op.RemainderSigned w a b h k = absurd (cc h)
enough_is_one op.RemainderUnsigned w a b h k = absurd (cc h)
enough_is_one op.ExclusiveOr w a b h k = absurd (cc h)
enough_is_one op.ShiftRightSigned w a b h k = absurd (cc h)
enough_is_one op.ShiftRightUnsigned w a b h k = absurd (cc h)
enough_is_one op.MaximumSigned w a b h k = absurd (cc h)
enough_is_one op.MaximumUnsigned w a b h k = absurd (cc h)
enough_is_one op.MinimumSigned w a b h k = absurd (cc h)
enough_is_one op.MinimumUnsigned w a b h k = absurd (cc h)

-- if the second operand alone determines the result, it also does with a constant first operand
second_enough : (o : Arithmetic) (w b v : ℕ) (x : Option ℕ) → or_else (alone o w (Some b)) None ≡ Some v → pair_value o w x (Some b) ≡ Some v
second_enough o w b v x = by (absorbs o w b) refl x
  where
    first : (t : Bool) (a : ℕ) (next : Option ℕ) → absorbs o w a ≡ t → (t ≡ true → a ≡ v) → next ≡ Some v → or_else (if t then Some a else None) next ≡ Some v
    first true a next z same e = ap Some (same refl)
    first false a next z same e = e

    by : (t : Bool) → absorbs o w b ≡ t → (x : Option ℕ) → or_else (if t then Some b else None) None ≡ Some v → or_else (alone o w x) (or_else (if t then Some b else None) (together o w x (Some b))) ≡ Some v
    by false z x e = absurd (cc e)
    by true z None e = e
    by true z (Some a) e =
        let is : b ≡ v = cc e in
        first (absorbs o w a) a (Some b) refl (λ y. enough_is_one o w a b y z ∙ is) (ap Some is)

pair_stays : (o : Arithmetic) (w : ℕ) (x y s t : Option ℕ) → Stays x s → Stays y t → Stays (pair_value o w x y) (pair_value o w s t)
pair_stays o w (Some a) (Some b) s t h k v e =
    ap (λ z. pair_value o w z t) (h a refl) ∙ ap (pair_value o w (Some a)) (k b refl) ∙ e
pair_stays o w (Some a) None s t h k v e = ap (λ z. pair_value o w z t) (h a refl) ∙ by (absorbs o w a) e
  where
    by : (test : Bool) → or_else (if test then Some a else None) None ≡ Some v → or_else (if test then Some a else None) (or_else (alone o w t) (together o w (Some a) t)) ≡ Some v
    by true f = f
    by false f = absurd (cc f)
pair_stays o w None (Some b) s t h k v e = ap (pair_value o w s) (k b refl) ∙ second_enough o w b v s e
pair_stays o w None None s t h k v e = absurd (cc e)

both_stays : (f : Known → Known → Option ℕ) (x y s t : Option Known) → IsWithin x s → IsWithin y t → Stays (both f x y) (both f s t)
both_stays f (Some a) (Some b) s t h k v e = ap (λ z. both f z t) (h a refl) ∙ ap (both f (Some a)) (k b refl) ∙ e
both_stays f (Some a) None s t h k v e = absurd (cc e)
both_stays f None y s t h k v e = absurd (cc e)

pair_more : (o : Arithmetic) (k : BitsKind) (xs ys : List (Option Known)) → KnowsMore xs ys → Stays (pair_fold o k xs) (pair_fold o k ys)
pair_more o k [] ys h v e = absurd (cc e)
pair_more o k (x ∷ []) ys h v e = absurd (cc e)
pair_more o k (x ∷ y ∷ z ∷ xs) ys h v e = absurd (cc e)
pair_more o k (x ∷ y ∷ []) [] h v e = absurd h
pair_more o k (x ∷ y ∷ []) (s ∷ []) h v e = absurd h.1
pair_more o k (x ∷ y ∷ []) (s ∷ t ∷ u ∷ ys) h v e = absurd h.1.1
pair_more o k (x ∷ y ∷ []) (s ∷ t ∷ []) h v e = pair_stays o (width_of k) (bits_at k x) (bits_at k y) (bits_at k s) (bits_at k t) (bits_stay k x s h.0) (bits_stay k y t h.1.0) v e

compare_more : (p : Option Predicate) (k : BitsKind) (xs ys : List (Option Known)) → KnowsMore xs ys → Stays (compare_fold p k xs) (compare_fold p k ys)
compare_more p k [] ys h v e = absurd (cc e)
compare_more p k (x ∷ []) ys h v e = absurd (cc e)
compare_more p k (x ∷ y ∷ z ∷ xs) ys h v e = absurd (cc e)
compare_more p k (x ∷ y ∷ []) [] h v e = absurd h
compare_more p k (x ∷ y ∷ []) (s ∷ []) h v e = absurd h.1
compare_more p k (x ∷ y ∷ []) (s ∷ t ∷ u ∷ ys) h v e = absurd h.1.1
compare_more p k (x ∷ y ∷ []) (s ∷ t ∷ []) h v f = by (same_kind k (kind.Int 1)) p f
  where
    by : (test : Bool) (p : Option Predicate) → (if test then with (λ q. both (compared q) x y) p else None) ≡ Some v → (if test then with (λ q. both (compared q) s t) p else None) ≡ Some v
    by false p e = absurd (cc e)
    by true None e = absurd (cc e)
    by true (Some q) e = both_stays (compared q) x y s t h.0 h.1.0 v e

choice_stays : (b : ℕ) (x y s t : Option Known) → IsWithin x s → IsWithin y t → IsWithin (choice_of b x y) (choice_of b s t)
choice_stays b x y s t h k = by (b == 0)
  where
    by : (test : Bool) → IsWithin (if test then y else x) (if test then t else s)
    by true = k
    by false = h

chosen_stays : (k : BitsKind) (c r : Option ℕ) (x y s t : Option Known) → Stays c r → IsWithin x s → IsWithin y t → Stays (with (λ b. bits_at k (choice_of b x y)) c) (with (λ b. bits_at k (choice_of b s t)) r)
chosen_stays k None r x y s t g h i v e = absurd (cc e)
chosen_stays k (Some b) r x y s t g h i v e = ap (with (λ b. bits_at k (choice_of b s t))) (g b refl) ∙ bits_stay k (choice_of b x y) (choice_of b s t) (choice_stays b x y s t h i) v e

select_more : (k : BitsKind) (xs ys : List (Option Known)) → KnowsMore xs ys → Stays (select_fold k xs) (select_fold k ys)
select_more k [] ys h v e = absurd (cc e)
select_more k (c ∷ []) ys h v e = absurd (cc e)
select_more k (c ∷ x ∷ []) ys h v e = absurd (cc e)
select_more k (c ∷ x ∷ y ∷ z ∷ xs) ys h v e = absurd (cc e)
select_more k (c ∷ x ∷ y ∷ []) [] h v e = absurd h
select_more k (c ∷ x ∷ y ∷ []) (r ∷ []) h v e = absurd h.1
select_more k (c ∷ x ∷ y ∷ []) (r ∷ s ∷ []) h v e = absurd h.1.1
select_more k (c ∷ x ∷ y ∷ []) (r ∷ s ∷ t ∷ u ∷ ys) h v e = absurd h.1.1.1
select_more k (c ∷ x ∷ y ∷ []) (r ∷ s ∷ t ∷ []) h v e = chosen_stays k (bits_at (kind.Int 1) c) (bits_at (kind.Int 1) r) x y s t (bits_stay (kind.Int 1) c r h.0) h.1.0 h.1.1.0 v e

resize_more : (c : Cast) (k : BitsKind) (xs ys : List (Option Known)) → KnowsMore xs ys → Stays (resize_fold c k xs) (resize_fold c k ys)
resize_more c k [] ys h v e = absurd (cc e)
resize_more c k (x ∷ y ∷ xs) ys h v e = absurd (cc e)
resize_more c k (x ∷ []) [] h v e = absurd h
resize_more c k (x ∷ []) (s ∷ t ∷ ys) h v e = absurd h.1
resize_more c k (x ∷ []) (s ∷ []) h v e = with_stays (resized c k) x s h.0 v e

index_cast_more : (c : Cast) (k : BitsKind) (xs ys : List (Option Known)) → KnowsMore xs ys → Stays (index_cast_fold c k xs) (index_cast_fold c k ys)
index_cast_more c k [] ys h v e = absurd (cc e)
index_cast_more c k (x ∷ y ∷ xs) ys h v e = absurd (cc e)
index_cast_more c k (x ∷ []) [] h v e = absurd h
index_cast_more c k (x ∷ []) (s ∷ t ∷ ys) h v e = absurd h.1
index_cast_more c k (x ∷ []) (s ∷ []) h v e = with_stays (λ (known : Known). cast_of c (width_of known.0) (width_of k) known.1) x s h.0 v e

constant_more : (value : Option (TypeTerm × ℕ)) (k : BitsKind) (xs ys : List (Option Known)) → KnowsMore xs ys → Stays (constant_fold value k xs) (constant_fold value k ys)
constant_more value k [] [] h v e = e
constant_more value k [] (y ∷ ys) h v e = absurd h
constant_more value k (x ∷ xs) ys h v e = absurd (cc e)

rule_more : (r : Rule) (props : List (List ℕ × AttrTerm)) (k : BitsKind) (xs ys : List (Option Known)) → KnowsMore xs ys → Stays (fold_by r props k xs) (fold_by r props k ys)
rule_more rule.Constant props k xs ys h = constant_more _ k xs ys h
rule_more (rule.Binary o) props k xs ys h = pair_more o k xs ys h
rule_more rule.Compare props k xs ys h = compare_more _ k xs ys h
rule_more rule.Select props k xs ys h = select_more k xs ys h
rule_more (rule.IntegerCast c) props k xs ys h = resize_more c k xs ys h
rule_more (rule.IndexCast c) props k xs ys h = index_cast_more c k xs ys h

pub knowing_more : (name : List ℕ) (props : List (List ℕ × AttrTerm)) (xs ys : List (Option Known)) (results : List TypeTerm) (known : Known) → KnowsMore xs ys → fold_of name props xs results ≡ Some known → fold_of name props ys results ≡ Some known
unfolding fold_of
knowing_more name props xs ys [] known h e = absurd (cc e)
knowing_more name props xs ys (t ∷ u ∷ ts) known h e = absurd (cc e)
knowing_more name props xs ys (t ∷ []) known h f = by (list_all (is_property name) props) (rule_of name) (kind_of t) f
  where
    named : (k : BitsKind) (a b : Option ℕ) → Stays a b → option_map (λ bits. (k, bits)) a ≡ Some known → option_map (λ bits. (k, bits)) b ≡ Some known
    named k None b g e = absurd (cc e)
    named k (Some a) b g e = ap (option_map (λ bits. (k, bits))) (g a refl) ∙ e

    by : (test : Bool) (r : Option Rule) (k : Option BitsKind)
        → (if test then with (λ r. with (λ k. option_map (λ bits. (k, bits)) (fold_by r props k xs)) k) r else None) ≡ Some known
        → (if test then with (λ r. with (λ k. option_map (λ bits. (k, bits)) (fold_by r props k ys)) k) r else None) ≡ Some known
    by false r k e = absurd (cc e)
    by true None k e = absurd (cc e)
    by true (Some r) None e = absurd (cc e)
    by true (Some r) (Some k) e = named k (fold_by r props k xs) (fold_by r props k ys) (rule_more r props k xs ys h) e
