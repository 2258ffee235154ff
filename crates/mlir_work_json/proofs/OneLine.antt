-- JSON text has no line feed inside, so the lines of the JSON correspond to the lines of the output.
use Rattle.std.proofs.Common.{◌≡◌, ◌==◌, ℕ, zero, suc, ◌+◌, ◌<◌, ◌/◌, ◌%◌, List, [], ◌∷◌, ◌++◌, map, Bool, true, false, cond, if◌then◌else◌, Option, Some, None, refl, ap, subst, ◌∙◌, arith}
use Rattle.std.specs.Prelude.{◌||◌, nat_lt, decimal, pos, negsuc, ⊤}
use Rattle.std.specs.Char.{digit_char}
use Rattle.std.specs.Fmt.{digit_glyph, digits, digits_onto}
use Rattle.json.specs.Print.{escape_letter, escape_byte, escape, quoted}
use Rattle.serde_json.specs.Data.{Num, unsigned, negative, float, Data, null, boolean, number, string, array, object, Items, no_items, item, Members, no_members, member}
use Rattle.serde_json.specs.Written.{number_text, comma_if, compact_text, items_text, members_text}
use Rattle.mlir_work_json.specs.Cuts.{parts}
use Rattle.mlir_work_json.specs.Lines.{json_line, json_lines, members_data, own_object, own_or_compact}
use Rattle.mlir_work_script_base.specs.Lines.{is_newline, onto_first}
use Rattle.std.proofs.lemmas.Bool.{or_from, or_parts}

-- whether a text contains a line feed
abbrev pub has_end : List ℕ → Bool
has_end [] = false
has_end (b ∷ bs) = is_newline b || has_end bs

clear_append : (xs ys : List ℕ) → has_end xs ≡ false → has_end ys ≡ false → has_end (xs ++ ys) ≡ false
clear_append [] ys p q = q
clear_append (x ∷ xs) ys p q = let first = or_parts (is_newline x) (has_end xs) p in or_from (is_newline x) (has_end (xs ++ ys)) first.0 (clear_append xs ys first.1 q)

-- ---- strings

clear_cond : (t : Bool) (xs ys : List ℕ) → has_end xs ≡ false → has_end ys ≡ false → has_end (cond t xs ys) ≡ false
clear_cond true xs ys p q = p
clear_cond false xs ys p q = q

other : (t : Bool) (a b : ℕ) → is_newline a ≡ false → is_newline b ≡ false → is_newline (cond t a b) ≡ false
other true a b p q = p
other false a b p q = q

above : (n : ℕ) → 10 < n → is_newline n ≡ false
above n h = grind (arith, h)

letter_clear : (x : ℕ) → is_newline x ≡ false → is_newline (escape_letter x) ≡ false
letter_clear x e =
    other ((x == 34) || (x == 92)) x _ e (other (x == 8) 98 _ refl (other (x == 12) 102 _ refl (other (x == 10) 110 _ refl (other (x == 13) 114 _ refl (other (x == 9) 116 0 refl refl)))))

digit_clear : (d : ℕ) → is_newline (digit_char d) ≡ false
digit_clear d = other _ (48 + d) (87 + d) (above (48 + d) (omega arith)) (above (87 + d) (omega arith))

escaped_at : (x : ℕ) (t : Bool) → is_newline x ≡ t → has_end (escape_byte x) ≡ false
unfolding escape_byte
escaped_at x true e = let is : 10 ≡ x = grind (arith, e) in subst (λ n. has_end (escape_byte n) ≡ false) is refl
escaped_at x false e =
    let coded : List ℕ = 92 ∷ 117 ∷ 48 ∷ 48 ∷ digit_char (x / 16) ∷ digit_char (x % 16) ∷ [] in
    clear_cond (nat_lt 0 (escape_letter x)) (92 ∷ escape_letter x ∷ []) (cond (nat_lt x 32) coded (x ∷ []))
    (or_from (is_newline (escape_letter x)) false (letter_clear x e) refl)
    (clear_cond (nat_lt x 32) coded (x ∷ [])
    (or_from (is_newline (digit_char (x / 16))) _ (digit_clear (x / 16)) (or_from (is_newline (digit_char (x % 16))) false (digit_clear (x % 16)) refl))
    (or_from (is_newline x) false e refl))

clear_escape : (s : List ℕ) → has_end (escape s) ≡ false
clear_escape [] = refl
clear_escape (x ∷ xs) = clear_append (escape_byte x) (escape xs) (escaped_at x (is_newline x) refl) (clear_escape xs)

clear_quoted : (s : List ℕ) → has_end (quoted s) ≡ false
clear_quoted s = clear_append (escape s) (34 ∷ []) (clear_escape s) refl

-- ---- numbers

either_way : (t : Bool) (a b : ℕ) → is_newline a ≡ false → is_newline b ≡ false → is_newline (if t then a else b) ≡ false
either_way true a b p q = p
either_way false a b p q = q

glyph_clear : (upper : Bool) (d : ℕ) → is_newline (digit_glyph upper d) ≡ false
glyph_clear upper d =
    either_way _ (48 + d) _ (above (48 + d) (omega arith)) (either_way upper (55 + d) (87 + d) (above (55 + d) (omega arith)) (above (87 + d) (omega arith)))

clear_if : (t : Bool) (xs ys : List ℕ) → has_end xs ≡ false → has_end ys ≡ false → has_end (if t then xs else ys) ≡ false
clear_if true xs ys p q = p
clear_if false xs ys p q = q

clear_onto : (k base : ℕ) (upper : Bool) (n : ℕ) (acc : List ℕ) → has_end acc ≡ false → has_end (digits_onto k base upper n acc) ≡ false
clear_onto zero base upper n acc h = h
clear_onto (suc k) base upper n acc h =
    let more = or_from (is_newline (digit_glyph upper (n % base))) (has_end acc) (glyph_clear upper (n % base)) h in
    clear_if _ (digit_glyph upper (n % base) ∷ acc) (digits_onto k base upper (n / base) (digit_glyph upper (n % base) ∷ acc)) more
    (clear_onto k base upper (n / base) (digit_glyph upper (n % base) ∷ acc) more)

clear_decimal : (n : ℕ) → has_end (decimal n) ≡ false
unfolding digits
clear_decimal n = clear_onto 64 10 false n [] refl

clear_number : (n : Num) → has_end (number_text n) ≡ false
clear_number (unsigned n) = clear_decimal n
clear_number (negative (pos n)) = clear_decimal n
clear_number (negative (negsuc n)) = clear_decimal (suc n)
clear_number (float x) = refl

-- ---- values

clear_comma : (later : Bool) → has_end (comma_if later) ≡ false
clear_comma true = refl
clear_comma false = refl

mutual
  clear_value : (d : Data) → has_end (compact_text d) ≡ false
  clear_value null = refl
  clear_value (boolean true) = refl
  clear_value (boolean false) = refl
  clear_value (number n) = clear_number n
  clear_value (string s) = clear_quoted s
  clear_value (array ds) = clear_items false ds
  clear_value (object ms) = clear_members false ms

  clear_items : (later : Bool) (ds : Items) → has_end (items_text later ds) ≡ false
  clear_items later no_items = refl
  clear_items later (item d ds) =
      clear_append (comma_if later) (compact_text d ++ items_text true ds) (clear_comma later)
      (clear_append (compact_text d) (items_text true ds) (clear_value d) (clear_items true ds))

  clear_members : (later : Bool) (ms : Members) → has_end (members_text later ms) ≡ false
  clear_members later no_members = refl
  clear_members later (member k d ms) =
      clear_append (comma_if later) (quoted k ++ 58 ∷ (compact_text d ++ members_text true ms)) (clear_comma later)
      (clear_append (quoted k) (58 ∷ (compact_text d ++ members_text true ms)) (clear_quoted k)
      (clear_append (compact_text d) (members_text true ms) (clear_value d) (clear_members true ms)))

-- ---- lines

-- a text without a line feed, followed by one, is the first part
one_part : (line rest : List ℕ) → has_end line ≡ false → parts is_newline ((line ++ 10 ∷ []) ++ rest) ≡ line ∷ parts is_newline rest
one_part [] rest h = refl
one_part (b ∷ bs) rest h = let first = or_parts (is_newline b) (has_end bs) h in rw (first.0) (ap (onto_first b) (one_part bs rest first.1))

-- no line contains a line feed
abbrev AllClear : List (List ℕ) → Type 0
AllClear [] = ⊤
AllClear (line ∷ lines) = (has_end line ≡ false) × AllClear lines

onto_clear : (b : ℕ) (lines : List (List ℕ)) → is_newline b ≡ false → AllClear lines → AllClear (onto_first b lines)
onto_clear b [] e h = (or_from (is_newline b) false e refl, tt)
onto_clear b (line ∷ lines) e h = (or_from (is_newline b) (has_end line) e h.0, h.1)

part_clear : (b : ℕ) (lines : List (List ℕ)) (t : Bool) → is_newline b ≡ t → AllClear lines → AllClear (if t then [] ∷ lines else onto_first b lines)
part_clear b lines true e h = (refl, h)
part_clear b lines false e h = onto_clear b lines e h

parts_clear : (text : List ℕ) → AllClear (parts is_newline text)
parts_clear [] = tt
parts_clear (b ∷ bs) = part_clear b (parts is_newline bs) (is_newline b) refl (parts_clear bs)

clear_own : (o : Option Data) (line : List ℕ) → has_end line ≡ false → has_end (own_or_compact o line) ≡ false
clear_own (Some d) line h = h
clear_own None line h = clear_value (members_data line)

converted : (lines : List (List ℕ)) → AllClear lines → parts is_newline (json_lines lines) ≡ map json_line lines
converted [] h = refl
converted (line ∷ lines) h =
    one_part (json_line line) (json_lines lines) (clear_own (own_object line) line h.0) ∙ ap (λ ls. json_line line ∷ ls) (converted lines h.1)

-- the lines of the converted output are the conversions of its lines
pub lines_of_json : (text : List ℕ) → parts is_newline (json_lines (parts is_newline text)) ≡ map json_line (parts is_newline text)
lines_of_json text = converted (parts is_newline text) (parts_clear text)
