-- A sampled value of a variable is in range.
use Rattle.std.proofs.Common.{◌≡◌, ◌∙◌, ℕ, zero, suc, ◌+◌, ◌-◌, ◌*◌, ◌/◌, ◌%◌, ◌^◌, ◌<◌, ◌≤◌, List, [], ◌∷◌, map, get_or, length, Bool, true, false, if◌then◌else◌, nat_lt, nat_le, ltb-true, leb-true, ap, arith, sym, subst}
use Rattle.std.specs.List.{list_all}
use Rattle.std.proofs.Math.Nat.{div-lt_iff_lt-mul, mod-lt}
use Rattle.std.proofs.Math.Pow.{pow_mono}
use Rattle.std.proofs.lemmas.Nat.{pow_pos, pow-add}
use Rattle.std.proofs.lemmas.Bool.{and_parts}
use Rattle.ir_types.specs.declared.bits.BitsKind.{BitsKind}
use Rattle.ir_types.specs.Bits.{width_of}
use Rattle.ir_types.specs.Limits.{most_width}
use Rattle.ir_types.specs.Reasons.{is_width}
use Rattle.ir_types.proofs.Widths.{halves}
use Rattle.user_patterns_check.specs.Cases.{AreBelow}
use Rattle.user_patterns_widths.specs.Lasting.{are_kinds}
use Rattle.user_patterns_widths.specs.SampledValues.{SampledValues, chance, chosen, choice, edge, edge_cases, edge_count, edge_number, edges, rule_list, usual_value, value_at, value_of_case, values_from}
use Rattle.user_patterns_widths.proofs.Wide.{has_two, tried_at}

-- all numbers are below a bound
abbrev AllBelow : ℕ → List ℕ → Type 0
AllBelow b [] = Unit {0}
AllBelow b (x ∷ xs) = (x < b) × AllBelow b xs

one_below : (b : ℕ) (xs : List ℕ) (n : ℕ) → 0 < b → AllBelow b xs → get_or xs n 0 < b
one_below b [] n l a = l
one_below b (x ∷ xs) zero l a = a.0
one_below b (x ∷ xs) (suc n) l a = one_below b xs n l a.1

edges_below : (w : ℕ) → 1 ≤ w → AllBelow (2 ^ w) (edges w)
edges_below w l =
    let two : 2 ≤ 2 ^ w = has_two w l in
    let all : 2 ^ w ≡ 2 ^ (w - 1) + 2 ^ (w - 1) = halves w l in
    let part : 2 ^ (w / 2) ≤ 2 ^ (w - 1) = pow_mono {i = w / 2} {j = w - 1} (omega (arith, l)) in
    let up : 2 % 2 ^ w < 2 ^ w = mod-lt 2 (pow_pos w) in
    let above : (2 ^ (w - 1) + 1) % 2 ^ w < 2 ^ w = mod-lt (2 ^ (w - 1) + 1) (pow_pos w) in
    (omega arith, (omega arith, (omega arith, (omega arith, (omega arith, (up, (omega arith, (omega arith, (omega arith, (above, tt))))))))))

edge_below : (w n : ℕ) → 1 ≤ w → edge w n < 2 ^ w
edge_below w n l = one_below (2 ^ w) (edges w) n (pow_pos w) (edges_below w l)

-- the upper bits of 128
top_below : (w z : ℕ) → w ≤ 128 → z < 2 ^ 128 → z / 2 ^ (128 - w) < 2 ^ w
top_below w z l h =
    let e : w + (128 - w) ≡ 128 = omega arith in
    let whole : 2 ^ 128 ≡ 2 ^ w * 2 ^ (128 - w) = ap (λ (n : ℕ). 2 ^ n) (sym e) ∙ pow-add 2 w (128 - w) in
    (div-lt_iff_lt-mul (pow_pos (128 - w))).1 (subst (λ (m : ℕ). z < m) whole h)

chance_below : (w n : ℕ) → w ≤ 128 → chance w n < 2 ^ w
chance_below w n l = top_below w (rule_list n) l (mod-lt _ (pow_pos 128))

either : (b : Bool) (x y m : ℕ) → x < m → y < m → (if b then x else y) < m
either true x y m h k = h
either false x y m h k = k

module _ (w case j : ℕ) (low : 1 ≤ w) (high : w ≤ 128) where
  by_chance : chance w (16 * case + j) < 2 ^ w
  by_chance = chance_below w (16 * case + j) high

  usual_below : usual_value w case j < 2 ^ w
  usual_below =
      either (nat_lt case edge_cases) (edge w (edge_number case j)) (chance w (16 * case + j)) (2 ^ w) (edge_below w (edge_number case j) low) by_chance

  chosen_below : (near : List ℕ) (number : ℕ) → chosen near w case j number < 2 ^ w
  chosen_below near number =
      let other =
      either (nat_lt (number - length near) edge_count) (edge w (number - length near)) (chance w (16 * case + j)) (2 ^ w)
      (edge_below w (number - length near) low) by_chance in
      either (nat_lt number (length near)) (get_or near number 0 % 2 ^ w)
      (if nat_lt (number - length near) edge_count then edge w (number - length near) else chance w (16 * case + j)) (2 ^ w)
      (mod-lt (get_or near number 0) (pow_pos w)) other

  at_below : (near : List ℕ) → value_at near w case j < 2 ^ w
  at_below [] = usual_below
  at_below (n ∷ ns) = chosen_below (n ∷ ns) (choice case j)

value_below : (near : List ℕ) (w case j : ℕ) → is_width w ≡ true → value_of_case near w case j < 2 ^ w
value_below near w case j h =
    let both = and_parts (nat_lt 0 w) (nat_le w most_width) h in
    let low : 1 ≤ w = ltb-true 0 w both.0 in
    let high : w ≤ 128 = leb-true w most_width both.1 in
    subst (λ (v : ℕ). v < 2 ^ w) (tried_at near w case j low high) (at_below w case j low high near)

from_below : (near : List ℕ) (ks : List BitsKind) → are_kinds ks → (case j : ℕ)
    → AreBelow (map (λ k. 2 ^ width_of k) ks) (values_from near case j ks)
from_below near [] h case j = tt
from_below near (k ∷ ks) h case j =
    let both = and_parts (is_width (width_of k)) (list_all (λ k. is_width (width_of k)) ks) h in
    (value_below near (width_of k) case j both.0, from_below near ks both.1 case (j + 1))

pub sampled_values : SampledValues
sampled_values near ks h case = from_below near ks h case 0
