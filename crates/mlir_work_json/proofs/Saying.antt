-- Proofs about printed cells and numbers.
use Rattle.std.proofs.Common.{◌≡◌, ◌==◌, ℕ, zero, suc, ◌+◌, ◌^◌, ◌<◌, List, [], ◌∷◌, ◌++◌, length, take, drop, get_or, Bool, true, false, true≢false, not, Some, refl, sym, ap, ◌∙◌, arith, codes, add-one}
use Rattle.std.specs.Prelude.{◌&&◌, ◌||◌, nat_lt, decimal}
use Rattle.std.specs.Char.{is_ascii_digit}
use Rattle.std.specs.Str.{all_ascii_digits}
use Rattle.std.proofs.lemmas.Bool.{and_parts}
use Rattle.std.proofs.lemmas.List.{take_all}
use Rattle.std.proofs.lemmas.Fmt.{digits_decimal, digits_value-decimal, decimal_nonempty, first_decimal, decimal_digit}
use Rattle.std.proofs.Common.{length-append}
use Rattle.std.proofs.lemmas.Grind.{common_steps}
use Rattle.mlir_work_json.proofs.Cutting.{cells_step}
use Rattle.mlir_work_json.specs.Cuts.{cell_len, cell, cells, trailing, is_whole}
use Rattle.mlir_work_json.specs.Forms.{form_of}
use Rattle.mlir_work_json.specs.Items.{Number, text, numeral, number_item}
use Rattle.mlir_work_json.specs.Lines.{form_members, line_members}
use Rattle.mlir_work_json.specs.Numbers.{number_of}
use Rattle.mlir_work_json.specs.Replies.{answer_members, place_members, refusal_members}
use Rattle.mlir_work_json.specs.declared.form.LineKind.TheVariants.{Reply}
use Rattle.mlir_work_script_base.specs.Numbers.{value_after}
use Rattle.mlir_work_script_base.proofs.Printed.{numerals}
use Rattle.mlir_work_script_base.proofs.Spanning.{take_preceding}

-- ---- cells

not_either : (x y : Bool) → not (x || y) ≡ true → (x ≡ false) × (y ≡ false)
not_either true y h = absurd (true≢false (sym h))
not_either false true h = absurd (true≢false (sym h))
not_either false false h = (refl, refl)

whole_len : (w rest : List ℕ) → is_whole w ≡ true → cell_len false (w ++ 32 ∷ rest) ≡ length w
whole_len [] rest h = refl
whole_len (b ∷ bs) rest h =
    let parts = and_parts (not ((b == 32) || (b == 34))) (is_whole bs) h in
    let simple = not_either (b == 32) (b == 34) parts.0 in
    let ih = whole_len bs rest parts.1 in
    rw (simple.0, simple.1, ih) refl

whole_len_last : (w : List ℕ) → is_whole w ≡ true → cell_len false w ≡ length w
whole_len_last [] h = refl
whole_len_last (b ∷ bs) h =
    let parts = and_parts (not ((b == 32) || (b == 34))) (is_whole bs) h in
    let simple = not_either (b == 32) (b == 34) parts.0 in
    let ih = whole_len_last bs parts.1 in
    rw (simple.0, simple.1, ih) refl

drop_preceding : (xs : List ℕ) (y : ℕ) (ys : List ℕ) → drop (suc (length xs)) (xs ++ y ∷ ys) ≡ ys
drop_preceding [] y ys = refl
drop_preceding (x ∷ xs) y ys = drop_preceding xs y ys

drop_whole : (xs : List ℕ) → drop (length xs + 1) xs ≡ []
drop_whole xs = grind (arith, common_steps)

pub cell_whole : (w rest : List ℕ) → is_whole w ≡ true → cell (w ++ 32 ∷ rest) ≡ w
cell_whole w rest h = ap (λ n. take n (w ++ 32 ∷ rest)) (whole_len w rest h) ∙ take_preceding w (32 ∷ rest)

pub after_whole : (w rest : List ℕ) → is_whole w ≡ true → trailing (w ++ 32 ∷ rest) ≡ rest
after_whole w rest h = ap (λ n. drop (n + 1) (w ++ 32 ∷ rest)) (whole_len w rest h) ∙ (ap (λ n. drop n (w ++ 32 ∷ rest)) (add-one (length w)) ∙ drop_preceding w 32 rest)

cell_last : (w : List ℕ) → is_whole w ≡ true → cell w ≡ w
cell_last w h = ap (λ n. take n w) (whole_len_last w h) ∙ take_all (length w) w (omega arith)

pub after_last : (w : List ℕ) → is_whole w ≡ true → trailing w ≡ []
after_last w h = ap (λ n. drop (n + 1) w) (whole_len_last w h) ∙ drop_whole w

-- a word followed by a blank is the first cell
pub words_are_cells : (word rest : List ℕ) → is_whole word ≡ true → cells (word ++ 32 ∷ rest) ≡ word ∷ cells rest
words_are_cells word rest h =
    let text = word ++ 32 ∷ rest in
    cells_step text (omega (arith, length-append word (32 ∷ rest)))
    ∙ (ap (λ w. w ∷ cells (trailing text)) (cell_whole word rest h) ∙ ap (λ r. word ∷ cells r) (after_whole word rest h))

-- ---- numbers

digit_whole : (d : ℕ) → is_ascii_digit d ≡ true → not ((d == 32) || (d == 34)) ≡ true
digit_whole d h = grind (arith, h)

digits_whole : (ds : List ℕ) → all_ascii_digits ds ≡ true → is_whole ds ≡ true
digits_whole [] h = refl
digits_whole (d ∷ ds) h =
    let parts = and_parts (is_ascii_digit d) (all_ascii_digits ds) h in
    let first = digit_whole d parts.0 in
    rw (first) (digits_whole ds parts.1)

no_zero : (t : Bool) (d : ℕ) (ds : List ℕ) → (d == 48) ≡ t → (d ≡ 48 → length (d ∷ ds) ≡ 1) → ((d == 48) && nat_lt 0 (length ds)) ≡ false
no_zero true d ds e h = let zero_alone : length (d ∷ ds) ≡ 1 = h (grind (arith, e)) in grind (arith, zero_alone)
no_zero false d ds e h = rw e refl

number_of_digits : (ds : List ℕ) → all_ascii_digits ds ≡ true → 0 < length ds → (get_or ds 0 0 ≡ 48 → length ds ≡ 1) → value_after 0 ds < 2 ^ 32 → number_of ds ≡ Some (value_after 0 ds)
number_of_digits [] h l z s = absurd (omega arith)
number_of_digits (d ∷ ds) h l z s =
    let preceding = no_zero (d == 48) d ds refl z in
    let small : nat_lt (value_after 0 (d ∷ ds)) (2 ^ 32) ≡ true = grind (arith, s) in
    rw (preceding, h, small) refl

not_zero : (n : ℕ) → n < 2 ^ 64 → get_or (decimal n) 0 0 ≡ 48 → length (decimal n) ≡ 1
not_zero zero l e = ap length (decimal_digit 0 (omega arith))
not_zero (suc n) l e = let first = first_decimal (suc n) (omega arith) l in absurd (omega arith)

pub numbers_stay : (n : ℕ) → n < 2 ^ 32 → number_of (decimal n) ≡ Some n
numbers_stay n s =
    let long : n < 2 ^ 64 = omega arith in
    let is : value_after 0 (decimal n) ≡ n = digits_value-decimal numerals n long in
    number_of_digits (decimal n) (digits_decimal numerals n long) (decimal_nonempty n long) (not_zero n long) (rw is s) ∙ ap Some is

-- ---- replies

pub decimal_whole : (n : ℕ) → n < 2 ^ 32 → is_whole (decimal n) ≡ true
decimal_whole n s = digits_whole (decimal n) (digits_decimal numerals n (omega arith))

reply_is : (w answer : List ℕ) (n : ℕ) → all_ascii_digits w ≡ true → 0 < length w → number_of w ≡ Some n → line_members (w ++ 32 ∷ answer) ≡ (codes "n", Number n) ∷ answer_members answer
unfolding line_members
reply_is [] answer n h l e = absurd (omega arith)
reply_is (d ∷ ds) answer n h l e =
    let digit = (and_parts (is_ascii_digit d) (all_ascii_digits ds) h).0 in
    let form : form_of ((d ∷ ds) ++ 32 ∷ answer) ≡ Reply = rw digit refl in
    let whole = digits_whole (d ∷ ds) h in
    ap (λ f. form_members f ((d ∷ ds) ++ 32 ∷ answer)) form
    ∙ (ap (λ w. numeral (codes "n") w ∷ answer_members (trailing ((d ∷ ds) ++ 32 ∷ answer))) (cell_whole (d ∷ ds) answer whole)
    ∙ (ap (λ a. numeral (codes "n") (d ∷ ds) ∷ answer_members a) (after_whole (d ∷ ds) answer whole)
    ∙ ap (λ o. (codes "n", number_item o (d ∷ ds)) ∷ answer_members answer) e))

pub replies_have_numbers : (n : ℕ) (answer : List ℕ) → n < 2 ^ 32 → line_members (decimal n ++ 32 ∷ answer) ≡ (codes "n", Number n) ∷ answer_members answer
replies_have_numbers n answer s =
    let long : n < 2 ^ 64 = omega arith in
    reply_is (decimal n) answer n (digits_decimal numerals n long) (decimal_nonempty n long) (numbers_stay n s)

-- the members of a refusal with this number, word and place
refusal_is : (line number word place : List ℕ) (m : ℕ) → cell line ≡ number → cell (trailing line) ≡ word → trailing (trailing line) ≡ place → number_of number ≡ Some m
    → refusal_members line ≡ (codes "refused", Number m) ∷ text (codes "word") word ∷ place_members place
refusal_is line number word place m a b c e =
    ap (λ w. numeral (codes "refused") w ∷ text (codes "word") (cell (trailing line)) ∷ place_members (trailing (trailing line))) a
    ∙ (ap (λ o. (codes "refused", number_item o number) ∷ text (codes "word") (cell (trailing line)) ∷ place_members (trailing (trailing line))) e
    ∙ (ap (λ w. (codes "refused", Number m) ∷ text (codes "word") w ∷ place_members (trailing (trailing line))) b
    ∙ ap (λ p. (codes "refused", Number m) ∷ text (codes "word") word ∷ place_members p) c))

pub refusals_have_places : (m : ℕ) (word place : List ℕ) → m < 2 ^ 32 → is_whole word ≡ true → answer_members (codes "refused " ++ (decimal m ++ 32 ∷ (word ++ 32 ∷ place))) ≡ (codes "refused", Number m) ∷ text (codes "word") word ∷ place_members place
refusals_have_places m word place s h =
    let number = decimal_whole m s in
    let line = decimal m ++ 32 ∷ (word ++ 32 ∷ place) in
    let rest = after_whole (decimal m) (word ++ 32 ∷ place) number in
    refusal_is line (decimal m) word place m (cell_whole (decimal m) (word ++ 32 ∷ place) number)
    (ap cell rest ∙ cell_whole word place h) (ap trailing rest ∙ after_whole word place h) (numbers_stay m s)

pub refusals_have_words : (m : ℕ) (word : List ℕ) → m < 2 ^ 32 → is_whole word ≡ true → answer_members (codes "refused " ++ (decimal m ++ 32 ∷ word)) ≡ (codes "refused", Number m) ∷ text (codes "word") word ∷ []
refusals_have_words m word s h =
    let number = decimal_whole m s in
    let line = decimal m ++ 32 ∷ word in
    let rest = after_whole (decimal m) word number in
    refusal_is line (decimal m) word [] m (cell_whole (decimal m) word number)
    (ap cell rest ∙ cell_last word h) (ap trailing rest ∙ after_last word h) (numbers_stay m s)
