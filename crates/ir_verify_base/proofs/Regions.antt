-- A loop over the regions of a row.
use Rattle.std.proofs.Common.{◌≡◌, refl, ap, sym, ◌∙◌, ℕ, suc, ◌≤◌, ◌+◌, ◌-◌, List, [], ◌∷◌, length, map, take, drop, slice_index_or, Bool, true, false, ◌||◌, arith}
use Rattle.std.proofs.Math.Seq.{take-length}
use Rattle.op_registry.specs.Rows.{RegionRow}
use Rattle.ir_verify_base.specs.Fits.{any_from}

-- the rest of a list after its first item
rest_is : {A : Type 0} (y : A) (ys : List A) → take (length (y ∷ ys) - 1) ys ≡ ys
rest_is y ys = ap (λ n. take n ys) less ∙ take-length ys
  where
    less : length (y ∷ ys) - 1 ≡ length ys
    less = omega arith

pub counted_more : {A : Type 0} (xs : List A) (n all : ℕ) → 1 ≤ length xs → n + length xs ≡ all → n + 1 + length (take (length xs - 1) (drop 1 xs)) ≡ all
counted_more [] n all l is = absurd (omega (arith, l))
counted_more (y ∷ ys) n all l is = ap (λ zs. n + 1 + length zs) (rest_is y ys) ∙ one_more ∙ is
  where
    one_more : n + 1 + length ys ≡ n + length (y ∷ ys)
    one_more = omega arith

-- the first region doesn't pass the test
pub left_more : {A : Type 0} (row : A → RegionRow) (test : ℕ → RegionRow → Bool) (xs : List A) (d : A) (n : ℕ) (whole passes : Bool) → 1 ≤ length xs → any_from test n (map row xs) ≡ whole → passes ≡ test n (row (slice_index_or xs 0 d)) → passes ≡ false
    → any_from test (n + 1) (map row (take (length xs - 1) (drop 1 xs))) ≡ whole
left_more row test [] d n whole passes l is says isnt = absurd (omega (arith, l))
left_more row test (y ∷ ys) d n whole passes l is says isnt =
    ap (λ zs. any_from test (n + 1) (map row zs)) (rest_is y ys) ∙ ap (λ k. any_from test k (map row ys)) one_more
    ∙ ap (λ b. b || any_from test (suc n) (map row ys)) (sym isnt ∙ says) ∙ is
  where
    one_more : n + 1 ≡ suc n
    one_more = omega arith
