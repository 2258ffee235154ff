-- Lists of blocks and of their labels.
use Rattle.std.proofs.Common.{◌≡◌, refl, ap, sym, ◌∙◌, ℕ, Bool, true, false, true≢false, not, ◌&&◌, ◌||◌, eqb, List, [], ◌∷◌, map, arith}
use Rattle.std.specs.Prelude.{IsTrue, ◌↔◌}
use Rattle.std.specs.List.{AllByRecursion, IsDistinct, list_any, list_all}
use Rattle.std.proofs.lemmas.Map.Keys.{IsDistinct-cons, IsDistinct-from_apart, IsDistinct-head, IsDistinct-tail}
use Rattle.ir_tree_laws.proofs.Listed.{both, neither, not_false}
use Rattle.ir_tree_blocks.specs.declared.placement.Placed.{Placed}
use Rattle.ir_tree_blocks.specs.Form.{PlacedBlock, names_in_sight, can_name}
use Rattle.ir_tree_blocks.specs.Nesting.{all_differ}
use Rattle.ir_tree_blocks.specs.Views.{placed_view}

pub labels_of_views : (bs : List Placed) → map (λ (b : Placed). b.label) bs ≡ map (λ (c : PlacedBlock). c.label) (map placed_view bs)
labels_of_views [] = refl
labels_of_views (b ∷ bs) = ap (λ ls. b.label ∷ ls) (labels_of_views bs)

pub all_of_views : (p : PlacedBlock → Bool) (bs : List Placed) → list_all (λ b. p (placed_view b)) bs ≡ list_all p (map placed_view bs)
all_of_views p [] = refl
all_of_views p (b ∷ bs) = ap (λ c. p (placed_view b) && c) (all_of_views p bs)

pub any_of_views : (p : PlacedBlock → Bool) (bs : List Placed) → list_any (λ b. p (placed_view b)) bs ≡ list_any p (map placed_view bs)
any_of_views p [] = refl
any_of_views p (b ∷ bs) = ap (λ c. p (placed_view b) || c) (any_of_views p bs)

-- labels are distinct exactly if the test says so
none_any : (x : ℕ) (xs : List ℕ) → AllByRecursion (λ y. eqb x y ≡ false) xs → list_any (eqb x) xs ≡ false
none_any x [] h = refl
none_any x (y ∷ ys) h = ap (λ b. b || list_any (eqb x) ys) h.0 ∙ none_any x ys h.1

any_none : (x : ℕ) (xs : List ℕ) → list_any (eqb x) xs ≡ false → AllByRecursion (λ y. eqb x y ≡ false) xs
any_none x [] h = tt
any_none x (y ∷ ys) h = let p = neither (eqb x y) (list_any (eqb x) ys) h in (p.0, any_none x ys p.1)

pub distinct_differ : (xs : List ℕ) → IsDistinct eqb xs → all_differ xs ≡ true
distinct_differ [] h = refl
distinct_differ (x ∷ xs) h = λ i. not (none_any x xs (IsDistinct-head eqb x xs h) i) && distinct_differ xs (IsDistinct-tail eqb x xs h) i

pub differ_distinct : (xs : List ℕ) → all_differ xs ≡ true → IsDistinct eqb xs
differ_distinct [] h = IsDistinct-from_apart eqb [] (λ i j d l m. absurd (omega (arith, m)))
differ_distinct (x ∷ xs) h =
    let b = both (not (list_any (eqb x) xs)) (all_differ xs) h in
    IsDistinct-cons eqb x xs (any_none x xs (not_false (list_any (eqb x) xs) b.0)) (differ_distinct xs b.1)

pub differ_is : (b : Bool) (xs : List ℕ) → IsTrue b ↔ IsDistinct eqb xs → b ≡ all_differ xs
differ_is b xs is = same b (all_differ xs) (λ t. distinct_differ xs (is.0 t)) (λ t. is.1 (differ_distinct xs t))
  where
    same : (b c : Bool) → (b ≡ true → c ≡ true) → (c ≡ true → b ≡ true) → b ≡ c
    same true c f g = sym (f refl)
    same false true f g = g refl
    same false false f g = refl
