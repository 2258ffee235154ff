use Rattle.std.proofs.Common.{◌≡◌, ◌∙◌, List, [], ◌∷◌, refl, ap, length, arith}
use Rattle.std.specs.Prelude.{IsPermutation}
use Rattle.std.proofs.lemmas.List.Sorted.{length_permutation}
use Rattle.ir_text_tokens.proofs.Kept.{no_entries}
use Rattle.ir_text_tokens.proofs.names.clear.Goals as goal

stays_empty : {X : Type 0} (xs ys : List X) → xs ≡ [] → IsPermutation xs ys → ys ≡ []
stays_empty {X = X} xs ys e p = go ys (length_permutation xs ys p ∙ ap length e)
  where
    go : (zs : List X) → length zs ≡ 0 → zs ≡ []
    go [] h = refl
    go (z ∷ zs) h = absurd (omega (arith, h))

pub returns-clause-agrees : goal.returns-clause-agrees
returns-clause-agrees g c =
    rw (c.shrink_to-2.ensures.items ∙ c.clear-2.ensures.items)
    (no_entries c.shrink_to.new.self (stays_empty c.clear.new.self.entries c.shrink_to.new.self.entries c.clear.ensures.empty c.shrink_to.ensures.entries.0))
