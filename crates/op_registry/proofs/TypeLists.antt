-- Reads of an operation by ids agree with reads of its meaning.
use Rattle.std.proofs.Common.{◌≡◌, refl, ap, ℕ, List, [], ◌∷◌, map}
use Rattle.ir_types.specs.Terms.{TypeTerm, type_at, types_at}
use Rattle.ir_types.specs.SameTypes.{type_list}

-- the meanings of type ids, in order
pub types_listed : (known : List TypeTerm) (ns : List ℕ) → type_list (types_at known ns) ≡ map (type_at known) ns
types_listed known [] = refl
types_listed known (n ∷ ns) = ap (λ l. type_at known n ∷ l) (types_listed known ns)
