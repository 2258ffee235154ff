-- Lists of values below bounds, and the first list at which a claim is false.
use Rattle.std.specs.Prelude.{◌≡◌, ℕ, zero, suc, ◌<◌, ◌++◌, List, [], ◌∷◌, Bool, true, false, Option, Some, None, if◌then◌else◌}
use Rattle.std.specs.Option.{option_map}

-- values below these bounds
abbrev pub AreBelow : List ℕ → List ℕ → Type 0
AreBelow [] [] = Unit {0}
AreBelow (b ∷ bs) (v ∷ vs) = (v < b) × AreBelow bs vs
AreBelow _ _ = ⊥

abbrev pub or_else : {X : Type 0} → Option X → Option X → Option X
or_else None b = b
or_else (Some x) b = Some x

-- the entry of the lowest number below n that has an entry
unfoldable pub first_below : {X : Type 0} → (ℕ → Option X) → ℕ → Option X
first_below f zero = None
first_below f (suc n) = or_else (first_below f n) (f n)

-- the first values below the bounds at which the claim is false, in lexicographic order
unfoldable pub first_failing : (List ℕ → Bool) → List ℕ → Option (List ℕ)
first_failing holds [] = if holds [] then None else Some []
first_failing holds (b ∷ bs) = first_below (λ v. option_map (λ vs. v ∷ vs) (first_failing (λ vs. holds (v ∷ vs)) bs)) b

-- the result of a search that began with the values `old`
abbrev pub WentOn : Option (List ℕ) → List ℕ → List ℕ → Bool → Type 0
WentOn None old new found = (found ≡ false) × (new ≡ old)
WentOn (Some vs) old new found = (found ≡ true) × (new ≡ old ++ vs)

-- the laws of the search: if it finds nothing, the claim is true of all values below the bounds
abbrev pub Finds : Type 0
Finds = (holds : List ℕ → Bool) (bs : List ℕ) → first_failing holds bs ≡ None → (vs : List ℕ) → AreBelow bs vs → holds vs ≡ true

-- the search finds values below the bounds at which the claim is false
abbrev pub Fails : Type 0
Fails = (holds : List ℕ → Bool) (bs vs : List ℕ) → first_failing holds bs ≡ Some vs → AreBelow bs vs × (holds vs ≡ false)
