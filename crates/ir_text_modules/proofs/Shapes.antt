-- The printed dimensions of a memref are parsed back.
use Rattle.std.proofs.Common.{◌≡◌, ℕ, ◌≤◌, ◌<◌, ◌^◌, true, false, List, [], ◌∷◌, ◌++◌, length, flat_map, Option, Some, None, refl, sym, ap, ◌∙◌, append_assoc, arith}
use Rattle.std.specs.Prelude.{◌==◌, ◌||◌, nat_le}
use Rattle.std.specs.List.{list_all, prefix_len}
use Rattle.std.specs.Char.{is_ascii_digit}
use Rattle.std.specs.Fmt.{decimal}
use Rattle.std.proofs.lemmas.Bool.Decides.{nat_tests}
use Rattle.std.proofs.lemmas.List.Concat.{flat_map-cons}
use Rattle.ir_types.specs.Reasons.{is_dimension}
use Rattle.ir_text_tokens.specs.Bytes.{is_letter, is_word}
use Rattle.ir_text_tokens.specs.Tokens.{bare, skip}
use Rattle.ir_text_tokens.specs.Printing.{is_bare_id}
use Rattle.ir_text_tokens.proofs.Decimals.{decimal_number, first_passes}
use Rattle.ir_text_tokens.proofs.Precedings.{next_preceding}
use Rattle.ir_text_tokens.proofs.Wholes.{next_whole}
use Rattle.ir_text_types.specs.Grammars.{Token}
use Rattle.ir_text_types.specs.ShapeGrammar.{is_decimal, begins_dimension, AreDimensions}
use Rattle.ir_text.specs.TypeText.{dimension_text}
use Rattle.ir_text_modules.proofs.Words.{all_digits}
use Rattle.std.proofs.lemmas.Bool.{and_parts}
use Rattle.ir_text_types.proofs.ShapeLaws.{digit_stays}

cross_stays : (cs : List ℕ) → skip (120 ∷ cs) ≡ 120 ∷ cs
unfolding skip
cross_stays [] = refl
cross_stays (d ∷ ds) = refl

pub mark_stays : (cs : List ℕ) → skip (63 ∷ cs) ≡ 63 ∷ cs
unfolding skip
mark_stays [] = refl
mark_stays (d ∷ ds) = refl

pub digits_stay : (ds rest : List ℕ) → prefix_len is_ascii_digit ds ≡ length ds → 1 ≤ length ds → skip (ds ++ rest) ≡ ds ++ rest
digits_stay [] rest h le = absurd (omega (arith, le))
digits_stay (d ∷ ds) rest h le = digit_stays d (ds ++ rest) (first_passes is_ascii_digit d ds h)

some_digits : (ds : List ℕ) → prefix_len is_ascii_digit ds ≡ length ds → 1 ≤ length ds → is_decimal ds ≡ true
some_digits [] h le = absurd (omega (arith, le))
some_digits (d ∷ ds) h le = all_digits (d ∷ ds) h

pub small : (n : ℕ) → nat_le n 9223372036854775807 ≡ true → n < 2 ^ 128
small n e = grind (arith, nat_tests)

no_dimension : (c : ℕ) → is_letter c ≡ true → (c == 63 || is_ascii_digit c) ≡ false
no_dimension c e = grind (arith, nat_tests)

-- a word is no dimension
word_stops : (w rest : List ℕ) → is_bare_id w ≡ true → begins_dimension (w ++ rest) ≡ false
word_stops [] rest e = absurd cc
word_stops (c ∷ cs) rest e = no_dimension c (and_parts (is_letter c) (prefix_len is_word cs == length cs) e).0

pub word_no_dimension : (w mid rest : List ℕ) → Token (bare w) mid rest → begins_dimension (skip mid) ≡ false
word_no_dimension w mid rest word = rw (next_preceding mid rest (bare w) word) (word_stops w rest (next_whole mid rest (bare w) word).0)

pub dimensions_again : (dims : List (Option ℕ)) (mid : List ℕ) → list_all is_dimension dims ≡ true → begins_dimension (skip mid) ≡ false → AreDimensions dims (flat_map dimension_text dims ++ mid) mid
dimensions_again [] mid e none = (none, refl)
dimensions_again (None ∷ ds) mid e none =
    let back = flat_map dimension_text ds ++ mid in
    let apart : flat_map dimension_text (None ∷ ds) ++ mid ≡ 63 ∷ 120 ∷ back = ap (λ (l : List ℕ). l ++ mid) (flat_map-cons dimension_text None ds) ∙ append_assoc (dimension_text None) (flat_map dimension_text ds) mid in
    rw apart (back, (120 ∷ back, mark_stays (120 ∷ back), cross_stays back), dimensions_again ds mid e none)
dimensions_again (Some n ∷ ds) mid e none =
    let back = flat_map dimension_text ds ++ mid in
    let p = and_parts (is_dimension (Some n)) (list_all is_dimension ds) e in
    let k = decimal_number n (small n p.0) in
    let apart : flat_map dimension_text (Some n ∷ ds) ++ mid ≡ decimal n ++ (120 ∷ back) = ap (λ (l : List ℕ). l ++ mid) (flat_map-cons dimension_text (Some n) ds) ∙ append_assoc (dimension_text (Some n)) (flat_map dimension_text ds) mid ∙ append_assoc (decimal n) (120 ∷ []) back in
    rw apart (back, (decimal n, 120 ∷ back, digits_stay (decimal n) (120 ∷ back) k.digits k.some, some_digits (decimal n) k.digits k.some, sym k.value, cross_stays back), dimensions_again ds mid p.1 none)
