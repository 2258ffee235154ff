-- A list split in two, and an edit of the second part.
use Rattle.std.proofs.Common.{◌≡◌, ℕ, suc, ◌+◌, ◌<◌, List, [], ◌∷◌, ◌++◌, ◌-◌, set, get_or, take, drop, sym, ap, ◌∙◌, length, arith, length-append}
use Rattle.std.specs.List.{insert, remove}
use Rattle.std.proofs.lemmas.List.{take_all}
use Rattle.std.proofs.Math.Seq.{take-append_seam, drop-append_seam, drop-append-add, set-append_seam}

module _ {X : Type 0} (preceding back : List X) where
  pub insert_seam : (x : X) → insert (preceding ++ back) (length preceding) x ≡ preceding ++ x ∷ back
  insert_seam x = λ i. take-append_seam preceding back i ++ x ∷ drop-append_seam preceding back i

pub remove_seam : {X : Type 0} (preceding : List X) (x : X) (back : List X) → remove (preceding ++ x ∷ back) (length preceding) ≡ preceding ++ back
remove_seam preceding x back =
    let e : suc (length preceding) ≡ length preceding + 1 = omega arith in
    let d : drop (suc (length preceding)) (preceding ++ x ∷ back) ≡ back = ap (λ n. drop n (preceding ++ x ∷ back)) e ∙ drop-append-add preceding (x ∷ back) 1 in
    λ i. take-append_seam preceding (x ∷ back) i ++ d i

-- a prefix of a list, the rest, and the whole
pub record Cut {X : Type 0} (at : ℕ) (rest all : List X) : Type 0 where
  pub preceding : List X
  pub split : preceding ++ rest ≡ all
  pub count : at ≡ length preceding

module _ {X : Type 0} (at : ℕ) (all : List X) where
  pub cut_insert : (rest : List X) (x : X) (c : Cut at rest all) → insert all at x ≡ c.preceding ++ x ∷ rest
  cut_insert rest x c = (λ i. insert (sym c.split i) (c.count i) x) ∙ insert_seam c.preceding rest x

  pub cut_set : (e x : X) (tail : List X) (c : Cut at (e ∷ tail) all) → set all at x ≡ c.preceding ++ x ∷ tail
  cut_set e x tail c = (λ i. set (sym c.split i) (c.count i) x) ∙ set-append_seam c.preceding e tail x

  pub cut_remove : (e : X) (tail : List X) (c : Cut at (e ∷ tail) all) → remove all at ≡ c.preceding ++ tail
  cut_remove e tail c = (λ i. remove (sym c.split i) (c.count i)) ∙ remove_seam c.preceding e tail

  pub cut_long : (rest : List X) → Cut at rest all → at + length rest ≡ length all
  cut_long rest c = omega (arith, c.count, ap length c.split, length-append c.preceding rest)

-- a slice's first element, and the others
pub uncons : {X : Type 0} (rest : List X) (e d : X) → 0 < length rest → e ≡ get_or rest 0 d → rest ≡ e ∷ take (length rest - 1) (drop 1 rest)
uncons [] e d l h = absurd (omega (arith, l))
uncons (x ∷ xs) e d l h = (λ i. sym h i ∷ sym (take_all (length (x ∷ xs) - 1) xs (omega arith)) i)
