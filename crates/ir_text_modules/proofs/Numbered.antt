-- Ids in order are the ids that f assigns in order, and they are distinct.
use Rattle.std.proofs.Common.{◌≡◌, ℕ, zero, suc, ◌+◌, ◌<◌, false, eqb, List, [], ◌∷◌, map, length, subst, sym, arith, inl, inr}
use Rattle.std.specs.List.{AllByRecursion, IsDistinct, range_with_len}
use Rattle.std.proofs.lemmas.Bool.Decides.{eqb_tells}
use Rattle.ir_tree.specs.Ids.{op_count, HasDistinctIds, IsNumberedFrom}
use Rattle.ir_tree.specs.Meaning.{Operation}
use Rattle.ir_tree_laws.specs.Renumbered.{place_in}
use Rattle.ir_tree_laws.proofs.RenumberedPlaces.{places}
use Rattle.ir_text_modules.specs.Runs.{Runs}

runs_from : (f : ℕ → ℕ) (n : ℕ) (xs : List ℕ) → map f xs ≡ range_with_len n (length xs) → Runs f n xs
runs_from f n [] e = tt
runs_from f n (x ∷ xs) e = (first, runs_from f (n + 1) xs others)
  where
    first : f x ≡ n
    first = cc

    others : map f xs ≡ range_with_len (n + 1) (length xs)
    others = cc

-- the indexes of distinct ids are 0, 1, ..
pub places_run : (xs : List ℕ) → IsDistinct eqb xs → Runs (place_in xs) 0 xs
places_run xs d = runs_from (place_in xs) 0 xs (places xs d)

below_range : (n k m : ℕ) → n < k → AllByRecursion (λ y. eqb n y ≡ false) (range_with_len k m)
below_range n k zero lt = tt
below_range n k (suc m) lt = (apart, below_range n (k + 1) m (omega (arith, lt)))
  where
    apart : eqb n k ≡ false
    apart = elim (eqb_tells n k) [ inl e ↦ absurd (omega (arith, lt, e.1)) | inr e ↦ e.0 ]

range_distinct : (n m : ℕ) → IsDistinct eqb (range_with_len n m)
unfolding IsDistinct
range_distinct n zero = tt
range_distinct n (suc m) = (below_range n (n + 1) m (omega arith), range_distinct (n + 1) m)

pub numbered_distinct : (n : ℕ) (t : Operation) → IsNumberedFrom n t → HasDistinctIds t
numbered_distinct n t e = subst (IsDistinct eqb) (sym e) (range_distinct n (op_count t))
