-- An edit of each tree of a list, as an edit of the tree built from the list.
use Rattle.std.proofs.Common.{◌≡◌, ap, refl, ◌∙◌, ◌++◌, ℕ, ◌+◌, suc, List, [], ◌∷◌, length, map, arith}
use Rattle.std.proofs.Common.{eqb, not, true, false, cond, filter, get_or, insert, zero, ◌<◌, Some, None}
use Rattle.std.proofs.Common.{Bool}
use Rattle.std.proofs.lemmas.Bool.{ltb-false}
use Rattle.std.specs.Prelude.{nat_lt, ◌≤◌}
use Rattle.std.specs.List.{position, position_or_len}
use Rattle.std.proofs.lemmas.List.Quantifiers.{position-Some}
use Rattle.ir_tree.specs.Places.{put_last, put_before, drop_op}
use Rattle.ir_tree.specs.Tree.{head, OpOf, RegionOf, RegionsOf, no_regions, region, OpsOf, no_ops, next, region_count, regions_of, ops_of, region_list, op_list}

pub region_count_of_list : {N T A X : Type 0} (f : X → RegionOf N T A) (xs : List X) → region_count (regions_of (map f xs)) ≡ length xs
region_count_of_list f [] = refl
region_count_of_list f (x ∷ xs) = let e = region_count_of_list f xs in omega arith

-- a list of regions, and the regions built from it
pub regions_back : {N T A : Type 0} (rs : RegionsOf N T A) → regions_of (region_list rs) ≡ rs
regions_back no_regions = refl
regions_back (region r rs) = ap (region r) (regions_back rs)

pub ops_back : {N T A : Type 0} (os : OpsOf N T A) → ops_of (op_list os) ≡ os
ops_back no_ops = refl
ops_back (next o os) = ap (next o) (ops_back os)

-- building regions and operations from their own lists gives them back
pub regions_from : {N T A : Type 0} (xs : List (RegionOf N T A)) (rs : RegionsOf N T A) → xs ≡ region_list rs → regions_of xs ≡ rs
regions_from xs rs e = ap regions_of e ∙ regions_back rs

pub ops_from : {N T A : Type 0} (xs : List (OpOf N T A)) (os : OpsOf N T A) → xs ≡ op_list os → ops_of xs ≡ os
ops_from xs os e = ap ops_of e ∙ ops_back os

-- edits of a list, in the operations built from it
pub put_last_of : {N T A : Type 0} (o : OpOf N T A) (xs : List (OpOf N T A)) → put_last o (ops_of xs) ≡ ops_of (xs ++ o ∷ [])
put_last_of o [] = refl
put_last_of o (x ∷ xs) = ap (next x) (put_last_of o xs)

pub drop_op_of : {N T A : Type 0} (x : ℕ) (xs : List (OpOf N T A)) → drop_op x (ops_of xs) ≡ ops_of (filter (λ o. not (eqb (head o).id x)) xs)
drop_op_of x [] = refl
drop_op_of x (o ∷ os) =
    ap (λ r. cond (eqb (head o).id x) r (next o r)) (drop_op_of x os)
    ∙ elim (eqb (head o).id x) as (λ b. cond b (ops_of (filter (λ o. not (eqb (head o).id x)) os)) (next o (ops_of (filter (λ o. not (eqb (head o).id x)) os))) ≡ ops_of (cond (not b) (o ∷ filter (λ o. not (eqb (head o).id x)) os) (filter (λ o. not (eqb (head o).id x)) os)))
    [ true ↦ refl | false ↦ refl ]

-- before the first operation that has the id
put_before_at : {N T A : Type 0} (b : ℕ) (o : OpOf N T A) (xs : List (OpOf N T A)) (i : ℕ) (d : OpOf N T A) → i < length xs → eqb (head (get_or xs i d)).id b ≡ true
    → ((k : ℕ) → k < i → eqb (head (get_or xs k d)).id b ≡ false) → put_before b o (ops_of xs) ≡ ops_of (insert xs i o)
put_before_at b o [] i d l h first = absurd (omega arith)
put_before_at b o (x ∷ xs) zero d l h first = ap (λ c. cond c (next o (next x (ops_of xs))) (next x (put_before b o (ops_of xs)))) h
put_before_at b o (x ∷ xs) (suc i) d l h first =
    let l' : i < length xs = omega arith in
    ap (λ c. cond c (next o (next x (ops_of xs))) (next x (put_before b o (ops_of xs)))) (first 0 (omega arith)) ∙ ap (next x) (put_before_at b o xs i d l' h (λ k m. first (suc k) (omega arith)))

pub put_before_found : {N T A : Type 0} (b : ℕ) (o : OpOf N T A) (xs : List (OpOf N T A)) (i : ℕ) → position (λ p. eqb (head p).id b) xs ≡ Some i → put_before b o (ops_of xs) ≡ ops_of (insert xs i o)
put_before_found b o xs i e = let h = position-Some (λ p. eqb (head p).id b) xs i o e in put_before_at b o xs i o h.0 h.1 h.2

put_before_past : {N T A : Type 0} (b : ℕ) (o : OpOf N T A) (xs : List (OpOf N T A)) → length xs ≤ position_or_len (λ p. eqb (head p).id b) xs → put_before b o (ops_of xs) ≡ ops_of xs
put_before_past b o [] h = refl
put_before_past b o (x ∷ xs) h =
    elim (eqb (head x).id b) as (λ c. length (x ∷ xs) ≤ cond (not c) (1 + position_or_len (λ p. eqb (head p).id b) xs) 0 → cond c (next o (next x (ops_of xs))) (next x (put_before b o (ops_of xs))) ≡ next x (ops_of xs))
    [ true ↦ λ l. absurd (omega arith) | false ↦ λ l. ap (next x) (put_before_past b o xs (omega arith)) ]
    h

pub put_before_none : {N T A : Type 0} (b : ℕ) (o : OpOf N T A) (xs : List (OpOf N T A)) → position (λ p. eqb (head p).id b) xs ≡ None → put_before b o (ops_of xs) ≡ ops_of xs
put_before_none b o xs e = put_before_past b o xs (none_past (position_or_len (λ p. eqb (head p).id b) xs) (length xs) e)
  where
    past : (m n : ℕ) (b : Bool) → nat_lt m n ≡ b → cond b (Some m) None ≡ None → n ≤ m
    past m n true l h = cc
    past m n false l h = ltb-false m n l

    none_past : (m n : ℕ) → cond (nat_lt m n) (Some m) None ≡ None → n ≤ m
    none_past m n h = past m n (nat_lt m n) refl h
