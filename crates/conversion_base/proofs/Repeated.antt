-- The set of a list's names, and duplicates in the list.
use Rattle.std.proofs.Common.{◌≡◌, refl, sym, ap, ◌∙◌, ℕ, Bool, true, false, true≢false, not, ◌||◌, cond, eqb, List, [], ◌∷◌, ◌++◌}
use Rattle.std.specs.List.{list_any}
use Rattle.std.specs.Ordering.{nat_cmp}
use Rattle.std.specs.BTreeMap.{is_at}
use Rattle.std.specs.BTreeSet.{BTreeSet}
use Rattle.std.specs.BTreeSet as set
use Rattle.std.proofs.lemmas.List.Folds.{list_any-append}
use Rattle.conversion_base.specs.Repeats.{AreKnown, has_duplicates}
use Rattle.ir_event.proofs.of_types.Sorting.{flips_eq}
use Rattle.ir_event.proofs.of_types.Truths.{same_test}

-- a list with one more name at the end
any_last : (p : ℕ → Bool) (ns : List ℕ) (n : ℕ) → list_any p (ns ++ n ∷ []) ≡ cond (p n) true (list_any p ns)
any_last p ns n = list_any-append p ns (n ∷ []) ∙ go (list_any p ns) (p n)
  where
    go : (a b : Bool) → (a || (b || false)) ≡ cond b true a
    go true true = refl
    go true false = refl
    go false true = refl
    go false false = refl

twice_last : (ns : List ℕ) (n : ℕ) → has_duplicates (ns ++ n ∷ []) ≡ (has_duplicates ns || list_any (eqb n) ns)
twice_last [] n = refl
twice_last (m ∷ ns) n = (λ i. (any_last (eqb m) ns n ∙ ap (λ b. cond b true (list_any (eqb m) ns)) (flips_eq m n)) i || twice_last ns n i) ∙ go (eqb n m) (list_any (eqb m) ns) (has_duplicates ns) (list_any (eqb n) ns)
  where
    go : (a b c d : Bool) → (cond a true b || (c || d)) ≡ ((b || c) || (a || d))
    go true true c d = refl
    go true false true d = refl
    go true false false d = refl
    go false true c d = refl
    go false false true d = refl
    go false false false true = refl
    go false false false false = refl

-- the set and the flag after one more name
pub known_more : (ns : List ℕ) (old new : BTreeSet ℕ) (n : ℕ) (r s : Bool) → AreKnown ns old r → ((q : ℕ) → set.contains nat_cmp new q ≡ cond (is_at (nat_cmp n) q) true (set.contains nat_cmp old q))
    → s ≡ (r || set.contains nat_cmp old n) → AreKnown (ns ++ n ∷ []) new s
known_more ns old new n r s h up is = record {
  has = λ q. up q ∙ (λ i. cond ((same_test n q ∙ flips_eq n q) i) true (h.has q i)) ∙ sym (any_last (eqb q) ns n);
  twice = is ∙ (λ i. h.twice i || h.has n i) ∙ sym (twice_last ns n);
}

-- a new name keeps the flag, and a known name is a duplicate
pub new_one : (r k a : Bool) → a ≡ true → a ≡ not k → r ≡ (r || k)
new_one true k a e f = refl
new_one false true a e f = absurd (true≢false (sym e ∙ f))
new_one false false a e f = refl

pub known_one : (r k a : Bool) → a ≡ false → a ≡ not k → true ≡ (r || k)
known_one true k a e f = refl
known_one false true a e f = refl
known_one false false a e f = absurd (true≢false (sym f ∙ e))
