-- The operation names that the rules refer to.
use Rattle.std.specs.Prelude.{ℕ, List, [], ◌∷◌, codes, Bool}
use Rattle.std.specs.List.{list_any}
use Rattle.std.specs.Str.{bytes_eq}

-- whether a name is a word
abbrev pub named : List ℕ → List ℕ → Bool
named word name = bytes_eq name word

-- whether a name is among words
abbrev pub among : List (List ℕ) → List ℕ → Bool
among words name = list_any (bytes_eq name) words

-- operations whose constant operand becomes the second one
unfoldable pub commutative : List (List ℕ)
commutative =
    codes "arith.addi" ∷ codes "arith.muli" ∷ codes "arith.andi" ∷ codes "arith.ori" ∷ codes "arith.xori"
    ∷ codes "arith.maxsi" ∷ codes "arith.maxui" ∷ codes "arith.minsi" ∷ codes "arith.minui" ∷ []

-- operations for which a second operand 0 changes nothing
unfoldable pub with_zero_as_right_identity : List (List ℕ)
with_zero_as_right_identity =
    codes "arith.addi" ∷ codes "arith.subi" ∷ codes "arith.ori" ∷ codes "arith.xori"
    ∷ codes "arith.shli" ∷ codes "arith.shrsi" ∷ codes "arith.shrui" ∷ []

-- operations for which a second operand 1 changes nothing
unfoldable pub with_one_as_right_identity : List (List ℕ)
with_one_as_right_identity = codes "arith.muli" ∷ codes "arith.divsi" ∷ codes "arith.divui" ∷ []

-- operations that give 0 for a value and itself
unfoldable pub self_inverse : List (List ℕ)
self_inverse = codes "arith.subi" ∷ codes "arith.xori" ∷ []

-- operations that give the value for a value and itself
unfoldable pub idempotent : List (List ℕ)
idempotent = codes "arith.andi" ∷ codes "arith.ori" ∷ codes "arith.maxsi" ∷ codes "arith.maxui" ∷ codes "arith.minsi"
    ∷ codes "arith.minui" ∷ []

-- remainders
unfoldable pub remainders : List (List ℕ)
remainders = codes "arith.remsi" ∷ codes "arith.remui" ∷ []

-- associative operations
unfoldable pub associative : List (List ℕ)
associative = codes "arith.addi" ∷ codes "arith.muli" ∷ codes "arith.andi" ∷ codes "arith.ori" ∷ codes "arith.xori" ∷ []

-- extensions
unfoldable pub extensions : List (List ℕ)
extensions = codes "arith.extsi" ∷ codes "arith.extui" ∷ []

-- casts between integers and index
unfoldable pub index_casts : List (List ℕ)
index_casts = codes "arith.index_cast" ∷ codes "arith.index_castui" ∷ []

-- operations on two numbers of one type, which is also the type of the result
unfoldable pub arithmetic : List (List ℕ)
arithmetic =
    codes "arith.addi" ∷ codes "arith.subi" ∷ codes "arith.muli" ∷ codes "arith.shli"
    ∷ codes "arith.divsi" ∷ codes "arith.divui" ∷ codes "arith.remsi" ∷ codes "arith.remui"
    ∷ codes "arith.andi" ∷ codes "arith.ori" ∷ codes "arith.xori" ∷ codes "arith.shrsi" ∷ codes "arith.shrui"
    ∷ codes "arith.maxsi" ∷ codes "arith.maxui" ∷ codes "arith.minsi" ∷ codes "arith.minui" ∷ []

-- operations, except casts, that may have an operand or result of type index
unfoldable pub index_users : List (List ℕ)
index_users = codes "arith.constant" ∷ codes "arith.cmpi" ∷ codes "arith.select" ∷ arithmetic

-- operations that get overflow flags when a rule makes them
unfoldable pub flagged : List (List ℕ)
flagged = codes "arith.addi" ∷ codes "arith.subi" ∷ codes "arith.muli" ∷ []

-- minima and maxima, each with the number of the predicate that compares its operands
unfoldable pub predicate_of_min_max : List (List ℕ × ℕ)
predicate_of_min_max = (codes "arith.maxsi", 4) ∷ (codes "arith.maxui", 8) ∷ (codes "arith.minsi", 2) ∷ (codes "arith.minui", 6) ∷ []

-- remainders, each with its division
unfoldable pub division_of_remainder : List (List ℕ × List ℕ)
division_of_remainder = (codes "arith.remsi", codes "arith.divsi") ∷ (codes "arith.remui", codes "arith.divui") ∷ []
