-- The sampled values of a variable. Of the usual test cases the first have edge values of its width, the others
-- pseudorandom values. Then come the cases near the literals of the pattern.
use Rattle.std.specs.Prelude.{ℕ, ◌+◌, ◌-◌, ◌*◌, ◌/◌, ◌%◌, ◌^◌, List, [], ◌∷◌, get_or, length, map, nat_lt, bit_xor, if◌then◌else◌}
use Rattle.ir_types.specs.declared.bits.BitsKind.{BitsKind}
use Rattle.ir_types.specs.Bits.{width_of}
use Rattle.ir_types.specs.Reasons.{is_width}
use Rattle.user_patterns_check.specs.Cases.{AreBelow}
use Rattle.user_patterns_widths.specs.Lasting.{are_kinds}

-- ---- edge values

-- the least and greatest values, signed and unsigned, and values around the sign bit and around half the bits
abbrev pub edges : ℕ → List ℕ
edges w =
    0
    ∷ 1
    ∷ (2 ^ w - 1)
    ∷ 2 ^ (w - 1)
    ∷ (2 ^ (w - 1) - 1)
    ∷ (2 % 2 ^ w)
    ∷ (2 ^ w - 2)
    ∷ 2 ^ (w / 2)
    ∷ (2 ^ (w / 2) - 1)
    ∷ ((2 ^ (w - 1) + 1) % 2 ^ w)
    ∷ []

-- the number of the edge value of variable j, counted from 0, in a case: the cases cover all lists of edge values of
-- three variables, and a later variable repeats the edge value of an earlier one
abbrev pub edge_number : ℕ → ℕ → ℕ
edge_number case j = (case / 10 ^ (j % 3)) % 10

abbrev pub edge : ℕ → ℕ → ℕ
edge w number = get_or (edges w) number 0

-- ---- pseudorandom values

-- 128 pseudorandom bits for a number
abbrev pub spread : ℕ → ℕ
spread n = ((n + 1) * 210306068529402873165736369884012333109) % 2 ^ 128

abbrev pub folded : ℕ → ℕ
folded x = bit_xor x (x / 2 ^ 64)

abbrev pub rule_list : ℕ → ℕ
rule_list n = (folded (spread n) * 285664570310849569842209678980328941915) % 2 ^ 128

-- the upper w bits of these
abbrev pub chance : ℕ → ℕ → ℕ
chance w n = rule_list n / 2 ^ (128 - w)

-- ---- the values of a usual test case

-- the number of cases with edge values
abbrev pub edge_cases : ℕ
edge_cases = 1000

-- the value of variable j in a case, if it has w bits
abbrev pub usual_value : ℕ → ℕ → ℕ → ℕ
usual_value w case j = if nat_lt case edge_cases then edge w (edge_number case j) else chance w (16 * case + j)

-- ---- the values of a test case near literals

-- the number of edge values, and that of the values of a variable: numbers near literals, edge values, pseudorandom ones
abbrev pub edge_count : ℕ
edge_count = 10

abbrev pub choices : ℕ
choices = 41

-- which of these variable j has in a case: since 41 is a prime number, any two variables have each pair in some case
abbrev pub choice : ℕ → ℕ → ℕ
choice case j = (case % choices + (j % choices) * ((case / choices) % choices)) % choices

abbrev pub chosen : List ℕ → ℕ → ℕ → ℕ → ℕ → ℕ
chosen near w case j number =
    if nat_lt number (length near) then get_or near number 0 % 2 ^ w
    else (if nat_lt (number - length near) edge_count then edge w (number - length near) else chance w (16 * case + j))

abbrev pub near_value : List ℕ → ℕ → ℕ → ℕ → ℕ
near_value near w case j = chosen near w case j (choice case j)

-- ---- the values of a test case

-- the value of variable j in a case, if it has w bits: a usual case, or one near these numbers
abbrev pub value_at : List ℕ → ℕ → ℕ → ℕ → ℕ
value_at [] w case j = usual_value w case j
value_at (n ∷ ns) w case j = near_value (n ∷ ns) w case j

-- a width that no integer has has no values
abbrev pub value_of_case : List ℕ → ℕ → ℕ → ℕ → ℕ
value_of_case near w case j = if is_width w then value_at near w case j else 0

-- the values of variables of these kinds, from variable j on
abbrev pub values_from : List ℕ → ℕ → ℕ → List BitsKind → List ℕ
values_from near case j [] = []
values_from near case j (k ∷ ks) = value_of_case near (width_of k) case j ∷ values_from near case (j + 1) ks

abbrev pub values_of : List ℕ → ℕ → List BitsKind → List ℕ
values_of near case ks = values_from near case 0 ks

-- ---- the law of these values

-- sampled values are values of their variables' kinds
abbrev pub SampledValues : Type 0
SampledValues = (near : List ℕ) (ks : List BitsKind) → are_kinds ks → (case : ℕ) → AreBelow (map (λ k. 2 ^ width_of k) ks) (values_of near case ks)
