-- Ids are distinct exactly if there are as many ids as members of their set.
use Rattle.std.proofs.Common.{◌≡◌, ℕ, List, eqb, length, IsTrue, ◌↔◌, ◌≢◌, sym, ◌∙◌}
use Rattle.std.specs.Bool.{Decides}
use Rattle.std.specs.Cmp.{unsigned_Decides}
use Rattle.std.specs.List.{AllPairs, IsDistinct}
use Rattle.std.proofs.lemmas.Map.Made.{AllPairs-from_IsDistinct, IsDistinct-from_AllPairs}

pub distinct_by_count : (xs : List ℕ) (m n k : ℕ) → Decides (eqb k (length xs)) (AllPairs (λ x y. x ≢ y) xs) → m ≡ k → n ≡ length xs → IsTrue (eqb m n) ↔ IsDistinct eqb xs
distinct_by_count xs m n k same p q =
    let e : eqb m n ≡ eqb k (length xs) = (λ i. eqb (p i) (q i)) in
    (λ t. IsDistinct-from_AllPairs unsigned_Decides xs (same.0 (sym e ∙ t)), λ d. e ∙ same.1 (AllPairs-from_IsDistinct unsigned_Decides xs d))
