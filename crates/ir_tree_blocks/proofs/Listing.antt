-- Steps of listing blocks.
use Rattle.std.proofs.Common.{◌≡◌, refl, ap, sym, ◌∙◌, ℕ, pos, List, [], ◌∷◌, ◌++◌, map}
use Rattle.std.specs.Prelude.{unsigned_abs}
use Rattle.std.proofs.lemmas.List.{map-append}
use Rattle.ir_tree_blocks.specs.declared.placement.Placed.{Placed}
use Rattle.ir_tree_blocks.specs.Form.{PlacedBlock}
use Rattle.ir_tree_blocks.specs.Views.{placed_view}

pub one_more : (old new : List Placed) (b : Placed) (c : PlacedBlock) → new ≡ old ++ b ∷ [] → placed_view b ≡ c → map placed_view new ≡ map placed_view old ++ c ∷ []
one_more old new b c e v = ap (map placed_view) e ∙ map-append placed_view old (b ∷ []) ∙ ap (λ d. map placed_view old ++ d ∷ []) v

pub magnitudes : (ns : List ℕ) → map unsigned_abs (map (λ n. pos n) ns) ≡ ns
magnitudes [] = refl
magnitudes (n ∷ ns) = ap (λ ms. n ∷ ms) (magnitudes ns)

pub nothing_more : (xs : List ℕ) → xs ++ [] ≡ xs
nothing_more [] = refl
nothing_more (x ∷ xs) = ap (λ ys. x ∷ ys) (nothing_more xs)
