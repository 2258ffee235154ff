-- Values that replace the arguments of a block.
use Rattle.std.proofs.Common.{◌≡◌, refl, ap, sym, ◌∙◌, ℕ, zero, suc, ◌+◌, ◌<◌, ◌≤◌, List, [], ◌∷◌, length, get_or, Bool, true, false, true≢false, not, cond, ◌&&◌, eqb, eq-eqb, eqb-true, inl, inr, arith}
use Rattle.ir_event.specs.trees.declared.value.Value.{Value}
use Rattle.ir_event.specs.trees.declared.value.Value.TheVariants.{Result, Arg}
use Rattle.ir_event.proofs.of_tree_laws.Listed.{bool_cases}
use Rattle.patterns_plans.specs.reads.Makes.{arguments_from, replaced}
use Rattle.patterns_regions.specs.Opened.{argument_replacement}

result_stays : (x j : ℕ) (vs : List Value) (y k : ℕ) → replaced (arguments_from x j vs) vs (Result y k) ≡ Result y k
result_stays x j [] y k = refl
result_stays x j (v ∷ vs) y k = result_stays x (j + 1) vs y k

other_stays : (x j : ℕ) (vs : List Value) (y s l : ℕ) → (eqb x y && eqb 0 s) ≡ false → replaced (arguments_from x j vs) vs (Arg y s l) ≡ Arg y s l
other_stays x j [] y s l e = refl
other_stays x j (v ∷ vs) y s l e = ap (λ b. cond b v (replaced (arguments_from x (j + 1) vs) vs (Arg y s l))) (never (eqb x y) (eqb 0 s) (eqb j l) e) ∙ other_stays x (j + 1) vs y s l e
  where
    never : (a b c : Bool) → (a && b) ≡ false → (a && (b && c)) ≡ false
    never true true c e = absurd cc
    never true false c e = refl
    never false b c e = refl

apart : (j m l : ℕ) → l ≡ j + suc m → eqb j l ≡ false
apart j m l e = elim (bool_cases (eqb j l)) [ inr f ↦ f | inl f ↦ (let g = eqb-true j l f in absurd (omega (arith, e, g))) ]

own_later : (x j m l : ℕ) (v : Value) (vs : List Value) → l ≡ j + suc m → replaced (arguments_from x j (v ∷ vs)) (v ∷ vs) (Arg x 0 l) ≡ replaced (arguments_from x (j + 1) vs) vs (Arg x 0 l)
own_later x j m l v vs e = λ i. cond (eq-eqb x x refl i && (true && apart j m l e i)) v (replaced (arguments_from x (j + 1) vs) vs (Arg x 0 l))

-- an argument of x, with a value that replaces it and without one
own_in : (x j m l : ℕ) (vs : List Value) (d : Value) → l ≡ j + m → m < length vs → replaced (arguments_from x j vs) vs (Arg x 0 l) ≡ get_or vs m d
own_in x j m l [] d e h = absurd (omega (arith, h))
own_in x j zero l (v ∷ vs) d e h =
    let same : j ≡ l = omega (arith, e) in
    λ i. cond (eq-eqb x x refl i && (true && eq-eqb j l same i)) v (replaced (arguments_from x (j + 1) vs) vs (Arg x 0 l))
own_in x j (suc m) l (v ∷ vs) d e h =
    let later : l ≡ j + 1 + m = omega (arith, e) in
    own_later x j m l v vs e ∙ own_in x (j + 1) m l vs d later (omega (arith, h))

own_past : (x j m l : ℕ) (vs : List Value) → l ≡ j + m → length vs ≤ m → replaced (arguments_from x j vs) vs (Arg x 0 l) ≡ Arg x 0 l
own_past x j m l [] e h = refl
own_past x j zero l (v ∷ vs) e h = absurd (omega (arith, h))
own_past x j (suc m) l (v ∷ vs) e h =
    let later : l ≡ j + 1 + m = omega (arith, e) in
    own_later x j m l v vs e ∙ own_past x (j + 1) m l vs later (omega (arith, h))

-- the same as the code finds them
pub put_result : (x : ℕ) (vs : List Value) (v : Value) (y k : ℕ) → v ≡ Result y k → v ≡ argument_replacement x vs v
put_result x vs v y k e = e ∙ sym (ap (argument_replacement x vs) e ∙ result_stays x 0 vs y k)

pub put_other : (x : ℕ) (vs : List Value) (v : Value) (y s l : ℕ) (b : Bool) → v ≡ Arg y s l → b ≡ not (eqb y x) → b ≡ true → v ≡ argument_replacement x vs v
put_other x vs v y s l b e f g = e ∙ sym (ap (argument_replacement x vs) e ∙ other_stays x 0 vs y s l (ap (λ b. b && eqb 0 s) other))
  where
    other : eqb x y ≡ false
    other = elim (bool_cases (eqb x y)) [ inr k ↦ k | inl k ↦ (let n = sym (eq-eqb y x (sym (eqb-true x y k))) in absurd (true≢false (sym (sym f ∙ g) ∙ ap not (sym n)))) ]

pub put_elsewhere : (x : ℕ) (vs : List Value) (v : Value) (y s l : ℕ) → v ≡ Arg y s l → (s ≡ 0 → ⊥) → v ≡ argument_replacement x vs v
put_elsewhere x vs v y s l e f = e ∙ sym (ap (argument_replacement x vs) e ∙ other_stays x 0 vs y s l (never (eqb x y) (eqb 0 s) other))
  where
    other : eqb 0 s ≡ false
    other = elim (bool_cases (eqb 0 s)) [ inr k ↦ k | inl k ↦ absurd (f (sym (eqb-true 0 s k))) ]

    never : (a b : Bool) → b ≡ false → (a && b) ≡ false
    never true b k = k
    never false b k = refl

-- an argument of x's block 0
own_is : (x : ℕ) (v : Value) (y s l : ℕ) (b : Bool) → v ≡ Arg y s l → b ≡ not (eqb y x) → b ≡ false → s ≡ 0 → v ≡ Arg x 0 l
own_is x v y s l b e f g h = e ∙ λ i. Arg (same i) (h i) l
  where
    same : y ≡ x
    same = elim (bool_cases (eqb y x)) [ inl k ↦ eqb-true y x k | inr k ↦ absurd (true≢false (sym (ap not k) ∙ sym f ∙ g)) ]

pub put_own : (x : ℕ) (vs : List Value) (v : Value) (y s l : ℕ) (b : Bool) → v ≡ Arg y s l → b ≡ not (eqb y x) → b ≡ false → s ≡ 0 → (w : Value) → l < length vs → w ≡ get_or vs l w → w ≡ argument_replacement x vs v
put_own x vs v y s l b e f g h w k m = m ∙ sym (ap (argument_replacement x vs) (own_is x v y s l b e f g h) ∙ own_in x 0 l l vs w (omega arith) k)

pub put_past : (x : ℕ) (vs : List Value) (v : Value) (y s l : ℕ) (b : Bool) → v ≡ Arg y s l → b ≡ not (eqb y x) → b ≡ false → s ≡ 0 → length vs ≤ l → v ≡ argument_replacement x vs v
put_past x vs v y s l b e f g h k = let own = own_is x v y s l b e f g h in own ∙ sym (ap (argument_replacement x vs) own ∙ own_past x 0 l l vs (omega arith) k)
