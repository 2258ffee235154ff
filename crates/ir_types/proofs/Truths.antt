-- Lemmas that are used in many places and are in no library.
use Rattle.std.proofs.Common.{[], Bool, List, None, Option, Some, ap, arith, cond, drop, eq-eqb, eqb, false, get_or, if◌then◌else◌, inl, inr, length, max, refl, slice_get, subst, suc, sym, take, true, true≢false, zero, ℕ, ◌&&◌, ◌++◌, ◌+◌, ◌-◌, ◌<◌, ◌^◌, ◌||◌, ◌∙◌, ◌∷◌, ◌≡◌, ◌≢◌, ◌≤◌, ◌⊎◌}
use Rattle.std.proofs.lemmas.Bool.{and_parts as both, cases_Bool as bool_cases, false≢true, ne_eqb}
use Rattle.std.proofs.lemmas.Bool.Decides.{nat_tests, same_from_decides}
use Rattle.std.proofs.lemmas.List.{take_all}
use Rattle.std.proofs.lemmas.Slice.Eq.{bytes_eq-Decides}
use Rattle.std.specs.Cmp.{ranks}
use Rattle.std.specs.List.{list_all, list_any}
use Rattle.std.specs.Ordering.{MatchOrdering, is_eq, nat_cmp}
use Rattle.std.specs.Prelude.{if◌then◌else◌, nat_le, slice_get, ◌&&◌, ◌==◌}
use Rattle.std.specs.Str.{bytes_eq}
use Rattle.std.specs.declared.cmp.Ordering.{Ordering}
use Rattle.std.specs.declared.cmp.Ordering.TheVariants.{Equal, Greater, Less}

pub all_parts : {X : Type 0} (p : X → Bool) (xs ys : List X) → list_all p (xs ++ ys) ≡ true → (list_all p xs ≡ true) × (list_all p ys ≡ true)
all_parts p [] ys e = (refl, e)
all_parts p (x ∷ xs) ys e =
    let b = both (p x) (list_all p (xs ++ ys)) e in
    let r = all_parts p xs ys b.1 in
    (ap (λ c. c && list_all p xs) b.0 ∙ r.0, r.1)

pub less_than : (x y : ℕ) → nat_cmp x y ≡ Less → x < y
less_than x y e = subst (λ r. MatchOrdering r (x < y) (x ≡ y) (y < x)) e (ranks x y)

pub rest_at : {X : Type 0} (xs : List X) (x d : X) → 1 ≤ length xs → x ≡ get_or xs 0 d → xs ≡ x ∷ take (length xs - 1) (drop 1 xs)
rest_at [] x d l is = absurd (omega (arith, l))
rest_at (y ∷ xs) x d l is = λ i. sym is i ∷ sym (take_all (length (y ∷ xs) - 1) xs (omega arith)) i

pub times_more : (times : ℕ) → 0 < times → times ≡ suc (times - 1)
times_more times l = omega arith

pub take_whole : (xs : List ℕ) → take (length xs) xs ≡ xs
take_whole [] = refl
take_whole (x ∷ xs) = ap (λ ys. x ∷ ys) (take_whole xs)

pub same_test : (x y : ℕ) → is_eq (nat_cmp x y) ≡ eqb x y
same_test x y = go (nat_cmp x y) refl (ranks x y)
  where
    go : (r : Ordering) → nat_cmp x y ≡ r → MatchOrdering (nat_cmp x y) (x < y) (x ≡ y) (y < x) → is_eq (nat_cmp x y) ≡ eqb x y
    go Less e m = let l = subst (λ r. MatchOrdering r (x < y) (x ≡ y) (y < x)) e m in ap is_eq e ∙ sym (ne_eqb x y (λ q. omega (arith, q, l)))
    go Equal e m = let l = subst (λ r. MatchOrdering r (x < y) (x ≡ y) (y < x)) e m in ap is_eq e ∙ sym (eq-eqb x y l)
    go Greater e m = let l = subst (λ r. MatchOrdering r (x < y) (x ≡ y) (y < x)) e m in ap is_eq e ∙ sym (ne_eqb x y (λ q. omega (arith, q, l)))

pub turned : (a b : List ℕ) → bytes_eq a b ≡ bytes_eq b a
turned a b = same_from_decides {P = a ≡ b} (bytes_eq a b) (bytes_eq b a) (bytes_eq-Decides a b) (λ h. sym ((bytes_eq-Decides b a).0 h), λ e. (bytes_eq-Decides b a).1 (sym e))

pub none_left : {X : Type 0} (xs : List X) → length xs < 1 → xs ≡ []
none_left [] l = refl
none_left (x ∷ xs) l = absurd (omega (arith, l))

pub list_later : (x : ℕ) (preceding back : List ℕ) → list_any (λ y. eqb y x) (preceding ++ x ∷ back) ≡ true
list_later x [] back = ap (λ b. b || list_any (λ y. eqb y x) back) (eq-eqb x x refl)
list_later x (y ∷ preceding) back = elim (bool_cases (eqb y x)) [
  | inl e ↦ ap (λ b. b || list_any (λ z. eqb z x) (preceding ++ x ∷ back)) e
  | inr e ↦ ap (λ b. b || list_any (λ z. eqb z x) (preceding ++ x ∷ back)) e ∙ list_later x preceding back
]

pub append_none : (xs : List ℕ) → xs ++ [] ≡ xs
append_none [] = refl
append_none (x ∷ xs) = ap (λ l. x ∷ l) (append_none xs)

pub unlike : (x y : ℕ) → eqb x y ≡ false → y ≡ x → ⊥
unlike x y e i = true≢false (sym (eq-eqb x y (sym i)) ∙ e)

pub same_bool : (a b : Bool) → (a ≡ true → b ≡ true) → (b ≡ true → a ≡ true) → a ≡ b
same_bool true b f g = sym (f refl)
same_bool false true f g = absurd (true≢false (sym (g refl)))
same_bool false false f g = refl

pub both_false : (b : Bool) → cond b false false ≡ false
both_false true = refl
both_false false = refl

pub or_false : (b : Bool) → (b || false) ≡ b
or_false true = refl
or_false false = refl

pub if_some : (b : Bool) (k q : ℕ) → (if b then Some k else None) ≡ Some q → (b ≡ true) × (k ≡ q)
if_some true k q e = (refl, cc)
if_some false k q e = absurd cc

pub all_at : {X : Type 0} (p : X → Bool) (xs : List X) → ((j : ℕ) (v : X) → slice_get xs j ≡ Some v → p v ≡ true) → list_all p xs ≡ true
all_at p [] f = refl
all_at p (x ∷ xs) f = rw (f 0 x refl) (all_at p xs (λ j. f (suc j)))

pub split_below : (a b n : ℕ) → max (a + 1) b ≤ n → (a < n) × (b ≤ n)
split_below a b n e = (omega (arith, e), omega (arith, e))

pub either : (a b : Bool) → (a || b) ≡ true → a ≡ false → b ≡ true
either true b e n = absurd (false≢true (sym n))
either false b e n = e

pub uncons : {X : Type 0} (rest : List X) (e d : X) → 0 < length rest → e ≡ get_or rest 0 d → rest ≡ e ∷ take (length rest - 1) (drop 1 rest)
uncons [] e d l h = absurd (omega (arith, l))
uncons (x ∷ xs) e d l h = (λ i. sym h i ∷ sym (take_all (length (x ∷ xs) - 1) xs (omega arith)) i)

pub zero_le : (n : ℕ) → nat_le 0 n ≡ true
zero_le n = grind (arith, nat_tests)

pub get_within : {X : Type 0} (xs : List X) (k : ℕ) → k < length xs → (x : X) × (slice_get xs k ≡ Some x)
get_within [] k lt = absurd (omega (arith, lt))
get_within (x ∷ xs) zero lt = (x, refl)
get_within (x ∷ xs) (suc k) lt = get_within xs k (omega arith)

pub drop_all : {A : Type 0} (xs : List A) → drop (length xs) xs ≡ []
drop_all [] = refl
drop_all (x ∷ xs) = drop_all xs

pub nil_parts : {X : Type 0} (xs ys : List X) → xs ++ ys ≡ [] → (xs ≡ []) × (ys ≡ [])
nil_parts [] ys e = (refl, e)
nil_parts (x ∷ xs) ys e = absurd cc

pub choose : {X : Type 0} (t : Bool) (x y : Option X) → x ≡ None → y ≡ None → (if t then x else y) ≡ None
choose t x y e f = elim t as (λ t. (if t then x else y) ≡ None) [ true ↦ e | false ↦ f ]

pub if_is : {X : Type 0} (b : Bool) (r : Option X) (x : X) → (if b then r else None) ≡ Some x → (b ≡ true) × (r ≡ Some x)
if_is true r x e = (refl, e)
if_is false r x e = absurd cc
