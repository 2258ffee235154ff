-- Sums over reached operations.
use Rattle.std.proofs.Common.{◌≡◌, ◌≤◌, ◌+◌, ℕ, List, [], ◌∷◌, Bool, true, false, inl, inr, refl, sym, ap, ◌∙◌, subst, arith, cond, eqb, length}
use Rattle.std.proofs.lemmas.Bool.{eq-eqb, ne_eqb, cases_eq}
use Rattle.ir_event.specs.trees.declared.value.Value.{Value}
use Rattle.ir_event.specs.trees.declared.value.Value.TheVariants.{Result, Arg}
use Rattle.ir_event.specs.tree_laws.Members.{In}
use Rattle.constants.specs.Facts.{Header}
use Rattle.constants.specs.Reached.{one_if, is_result_of, results_among, over, uses_among, most_over}
use Rattle.constants.specs.Trails.{total, OnceEach}

pub total_add : (f g : ℕ → ℕ) (xs : List ℕ) → total (λ d. f d + g d) xs ≡ total f xs + total g xs
total_add f g [] = refl
total_add f g (x ∷ xs) = let h = total_add f g xs in omega (arith, h)

total_zero : (g : ℕ → ℕ) (xs : List ℕ) → ((d : ℕ) → In d xs → g d ≡ 0) → total g xs ≡ 0
total_zero g [] h = refl
total_zero g (x ∷ xs) h = let a = h x (inl refl) in let b = total_zero g xs (λ d k. h d (inr k)) in omega (arith, a, b)

total_le : (f g : ℕ → ℕ) (xs : List ℕ) → ((d : ℕ) → In d xs → f d ≤ g d) → total f xs ≤ total g xs
total_le f g [] h = omega arith
total_le f g (x ∷ xs) h = let a = h x (inl refl) in let b = total_le f g xs (λ d k. h d (inr k)) in omega (arith, a, b)

over_le : (f g : Header → ℕ) (hs : List Header) → ((h : Header) → f h ≤ g h) → over hs f ≤ over hs g
over_le f g [] h = omega arith
over_le f g (n ∷ hs) h = let a = h n in let b = over_le f g hs h in omega (arith, a, b)

over_add : (f g : Header → ℕ) (hs : List Header) → over hs (λ h. f h + g h) ≡ over hs f + over hs g
over_add f g [] = refl
over_add f g (n ∷ hs) = let h = over_add f g hs in omega (arith, h)

-- the sums in the other order
swapped : (hs : List Header) (row : Header → ℕ → ℕ) (bound : Header → ℕ) (xs : List ℕ) → ((h : Header) → In h hs → total (row h) xs ≤ bound h) → total (λ d. over hs (λ h. row h d)) xs ≤ over hs bound
swapped [] row bound xs h = let z = total_zero (λ d. 0) xs (λ d k. refl) in omega (arith, z)
swapped (n ∷ hs) row bound xs h =
    let a = h n (inl refl) in
    let b = swapped hs row bound xs (λ m k. h m (inr k)) in
    let s = total_add (row n) (λ d. over hs (λ h. row h d)) xs in
    omega (arith, a, b, s)

-- x counts at most once in a list of distinct ids
once : (x c : ℕ) (xs : List ℕ) → OnceEach xs → total (λ d. cond (eqb x d) c 0) xs ≤ c
once x c [] o = omega arith
once x c (y ∷ xs) o = elim (cases_eq x y) [
  | inl e ↦ let z = total_zero (λ d. cond (eqb x d) c 0) xs (λ d k. ap (λ b. cond b c 0) (ne_eqb x d (λ f. o.0 (subst (λ w. In w xs) (sym f ∙ e) k)))) in
      let q : ◌≡◌ {A = ℕ} (cond (eqb x y) c 0) c = ap (λ b. cond b c 0) (eq-eqb x y e) in
      omega (arith, z, q)
  | inr ne ↦ let h = once x c xs o.1 in
      let q : ◌≡◌ {A = ℕ} (cond (eqb x y) c 0) 0 = ap (λ b. cond b c 0) (ne_eqb x y ne) in
      omega (arith, h, q)
]

value_once : (v : Value) (xs : List ℕ) → OnceEach xs → total (λ d. one_if (is_result_of d v)) xs ≤ 1
value_once (Result x k) xs o = once x 1 xs o
value_once (Arg x r k) xs o = let z = total_zero (λ d. 0) xs (λ d h. refl) in omega (arith, z)

uses_once : (vs : List Value) (xs : List ℕ) → OnceEach xs → total (λ d. results_among d vs) xs ≤ length vs
uses_once [] xs o = let z = total_zero (λ d. 0) xs (λ d k. refl) in omega (arith, z)
uses_once (v ∷ vs) xs o =
    let s = total_add (λ d. one_if (is_result_of d v)) (λ d. results_among d vs) xs in
    let h = uses_once vs xs o in
    let a = value_once v xs o in
    omega (arith, s, h, a)

-- if all users of some operations are reached, their uses are operands of reached operations
uses_within : (hs : List Header) (r : ℕ → Bool) (xs : List ℕ) → OnceEach xs → ((h : Header) → In h hs → r h.id ≡ false → (d : ℕ) → In d xs → results_among d h.operands ≡ 0)
    → total (uses_among hs) xs ≤ over hs (λ h. cond (r h.id) (length h.operands) 0)
uses_within hs r xs o far = swapped hs (λ h d. results_among d h.operands) (λ h. cond (r h.id) (length h.operands) 0) xs (λ h k. by_test h k (r h.id) refl)
  where
    by_test : (h : Header) → In h hs → (t : Bool) → r h.id ≡ t → total (λ d. results_among d h.operands) xs ≤ cond t (length h.operands) 0
    by_test h k true e = uses_once h.operands xs o
    by_test h k false e = let z = total_zero (λ d. results_among d h.operands) xs (far h k e) in omega (arith, z)

at_least : (hs : List Header) (g : ℕ → ℕ) (d : ℕ) → (h : Header) × In h hs × (h.id ≡ d) → g d ≤ over hs (λ h. cond (eqb h.id d) (g h.id) 0)
at_least [] g d h = absurd h.1
at_least (n ∷ hs) g d h = elim h.1 [
  | inl e ↦ let is : n.id ≡ d = ap (λ (z : Header). z.id) (sym e) ∙ h.2 in
      let q : ◌≡◌ {A = ℕ} (cond (eqb n.id d) (g n.id) 0) (g d) = ap (λ b. cond b (g n.id) 0) (eq-eqb n.id d is) ∙ ap g is in
      omega (arith, q)
  | inr k ↦ let a = at_least hs g d (h.0, k, h.2) in omega (arith, a)
]

-- a sum over some of the reached operations, each once, is at most the sum over all
sum_within : (hs : List Header) (r : ℕ → Bool) (g : ℕ → ℕ) (xs : List ℕ) → OnceEach xs → ((d : ℕ) → In d xs → ((h : Header) × In h hs × (h.id ≡ d)) × (r d ≡ true)) → total g xs ≤ over hs (λ h. cond (r h.id) (g h.id) 0)
sum_within hs r g xs o all =
    let a = total_le g (λ d. over hs (λ h. cond (eqb h.id d) (g h.id) 0)) xs (λ d h. at_least hs g d (all d h).0) in
    let b = swapped hs (λ h d. cond (eqb h.id d) (g h.id) 0) (λ h. cond (r h.id) (g h.id) 0) xs (λ h k. by_test h (r h.id) refl) in
    omega (arith, a, b)
  where
    by_test : (h : Header) (t : Bool) → r h.id ≡ t → total (λ d. cond (eqb h.id d) (g h.id) 0) xs ≤ cond t (g h.id) 0
    by_test h true e = once h.id (g h.id) xs o
    by_test h false e =
        let z = total_zero (λ d. cond (eqb h.id d) (g h.id) 0) xs (λ d k. ap (λ b. cond b (g h.id) 0) (ne_eqb h.id d (λ f. let w : false ≡ true = sym e ∙ ap r f ∙ (all d k).1 in cc))) in
        omega (arith, z)

-- the looks of both phases, if each list has each operation once and all of them are reached
pub looks_within : (hs : List Header) (r : ℕ → Bool) (forgotten learned : List ℕ) → OnceEach forgotten → OnceEach learned
    → ((d : ℕ) → In d forgotten → ((h : Header) × In h hs × (h.id ≡ d)) × (r d ≡ true))
    → ((d : ℕ) → In d learned → ((h : Header) × In h hs × (h.id ≡ d)) × (r d ≡ true))
    → ((h : Header) → In h hs → r h.id ≡ false → (d : ℕ) → In d learned → results_among d h.operands ≡ 0)
    → 4 + (total (λ d. 2 + uses_among hs d) forgotten + (total (λ d. 1 + uses_among hs d) learned + total (uses_among hs) learned)) ≤ most_over r hs
looks_within hs r forgotten learned of ol af al far =
    let a = sum_within hs r (λ d. 2 + uses_among hs d) forgotten of af in
    let b = sum_within hs r (λ d. 1 + uses_among hs d) learned ol al in
    let c = uses_within hs r learned ol far in
    let s1 = over_add (λ h. cond (r h.id) (2 + uses_among hs h.id) 0) (λ h. cond (r h.id) (1 + uses_among hs h.id) 0) hs in
    let s2 = over_add (λ h. cond (r h.id) (2 + uses_among hs h.id) 0 + cond (r h.id) (1 + uses_among hs h.id) 0) (λ h. cond (r h.id) (length h.operands) 0) hs in
    let l = over_le (λ h. cond (r h.id) (2 + uses_among hs h.id) 0 + cond (r h.id) (1 + uses_among hs h.id) 0 + cond (r h.id) (length h.operands) 0)
    (λ h. cond (r h.id) (2 + length h.operands + uses_among hs h.id) 0 + cond (r h.id) (2 + length h.operands + uses_among hs h.id) 0) hs (λ h. by_test h (r h.id)) in
    let s3 = over_add (λ h. cond (r h.id) (2 + length h.operands + uses_among hs h.id) 0) (λ h. cond (r h.id) (2 + length h.operands + uses_among hs h.id) 0) hs in
    omega (arith, a, b, c, s1, s2, l, s3)
  where
    by_test : (h : Header) (t : Bool) → cond t (2 + uses_among hs h.id) 0 + cond t (1 + uses_among hs h.id) 0 + cond t (length h.operands) 0 ≤ cond t (2 + length h.operands + uses_among hs h.id) 0 + cond t (2 + length h.operands + uses_among hs h.id) 0
    by_test h true = omega arith
    by_test h false = omega arith
