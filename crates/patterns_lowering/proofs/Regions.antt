-- Regions that are read one after another.
use Rattle.std.proofs.Common.{◌≡◌, refl, ap, sym, ◌∙◌, ℕ, zero, suc, ◌+◌, ◌<◌, List, [], ◌∷◌, ◌++◌, length, map, take, get_or, Option, None}
use Rattle.std.specs.Prelude.{option_and_then, slice_get}
use Rattle.std.proofs.lemmas.List.{map-append, take_more}
use Rattle.ir_event.specs.trees.Tree.{Region}
use Rattle.patterns_lowering.specs.Bare.{region_with}

read_at : (rs : List (Option (List ℕ))) (i : ℕ) → get_or rs i None ≡ option_and_then (λ a. a) (slice_get rs i)
read_at [] zero = refl
read_at [] (suc i) = refl
read_at (r ∷ rs) zero = refl
read_at (r ∷ rs) (suc i) = read_at rs i

pub region_next : (rs : List (Option (List ℕ))) (i : ℕ) (made new : List Region) (r : Region) (args : Option (List ℕ)) → i < length rs → args ≡ option_and_then (λ a. a) (slice_get rs i) → r ≡ region_with args
    → made ≡ map region_with (take i rs) → new ≡ made ++ r ∷ [] → new ≡ map region_with (take (i + 1) rs)
region_next rs i made new r args l a e m n =
    n ∙ (λ k. m k ++ (e ∙ ap region_with (a ∙ sym (read_at rs i))) k ∷ []) ∙ sym (ap (map region_with) (take_more rs i None l) ∙ map-append region_with (take i rs) (get_or rs i None ∷ []))
