-- A printed string is read again.
use Rattle.std.proofs.Common.{◌≡◌, ℕ, zero, suc, ◌+◌, ◌*◌, ◌/◌, ◌%◌, ◌<◌, Bool, true, false, leb, List, [], ◌∷◌, ◌++◌, length, drop, Option, Some, None, refl, sym, ap, ◌∙◌, append_assoc, arith, inl, inr}
use Rattle.std.specs.Prelude.{option_map, ◌==◌, ◌&&◌, not, ◌⊎◌}
use Rattle.std.proofs.lemmas.Bool.Decides.{nat_tests}
use Rattle.std.proofs.lemmas.Bool.{eqb-true, cases_Bool}
use Rattle.std.proofs.lemmas.List.{length-append, take_at, drop_at}
use Rattle.std.proofs.lemmas.List.Concat.{flat_map-cons}
use Rattle.ir_text_tokens.specs.Bytes.{is_hex, is_line_end}
use Rattle.ir_text_tokens.specs.Strings.{closing, hex_value, is_short, string_bytes}
use Rattle.ir_text_tokens.specs.Tokens.{string_parts}
use Rattle.ir_text_tokens.specs.Printing.{hex_digit, byte_text, raw_text, AreBytes}

-- a printed digit is hexadecimal, has its value, and is no short escape
pub record IsDigit (n : ℕ) : Type 0 where
  pub hex : is_hex (hex_digit n) ≡ true
  pub value : hex_value (hex_digit n) ≡ n
  pub short : is_short (hex_digit n) ≡ false

sixteen : (P : ℕ → Type 0) → P 0 → P 1 → P 2 → P 3 → P 4 → P 5 → P 6 → P 7 → P 8 → P 9 → P 10 → P 11 → P 12 → P 13 → P 14 → P 15 → (n : ℕ) → n < 16 → P n
sixteen P a b c d e f g h i j k l m o q r zero lt = a
sixteen P a b c d e f g h i j k l m o q r (suc zero) lt = b
sixteen P a b c d e f g h i j k l m o q r (suc (suc zero)) lt = c
sixteen P a b c d e f g h i j k l m o q r (suc (suc (suc zero))) lt = d
sixteen P a b c d e f g h i j k l m o q r (suc (suc (suc (suc zero)))) lt = e
sixteen P a b c d e f g h i j k l m o q r (suc (suc (suc (suc (suc zero))))) lt = f
sixteen P a b c d e f g h i j k l m o q r (suc (suc (suc (suc (suc (suc zero)))))) lt = g
sixteen P a b c d e f g h i j k l m o q r (suc (suc (suc (suc (suc (suc (suc zero))))))) lt = h
sixteen P a b c d e f g h i j k l m o q r (suc (suc (suc (suc (suc (suc (suc (suc zero)))))))) lt = i
sixteen P a b c d e f g h i j k l m o q r (suc (suc (suc (suc (suc (suc (suc (suc (suc zero))))))))) lt = j
sixteen P a b c d e f g h i j k l m o q r (suc (suc (suc (suc (suc (suc (suc (suc (suc (suc zero)))))))))) lt = k
sixteen P a b c d e f g h i j k l m o q r (suc (suc (suc (suc (suc (suc (suc (suc (suc (suc (suc zero))))))))))) lt = l
sixteen P a b c d e f g h i j k l m o q r (suc (suc (suc (suc (suc (suc (suc (suc (suc (suc (suc (suc zero)))))))))))) lt = m
sixteen P a b c d e f g h i j k l m o q r (suc (suc (suc (suc (suc (suc (suc (suc (suc (suc (suc (suc (suc zero))))))))))))) lt = o
sixteen P a b c d e f g h i j k l m o q r (suc (suc (suc (suc (suc (suc (suc (suc (suc (suc (suc (suc (suc (suc zero)))))))))))))) lt = q
sixteen P a b c d e f g h i j k l m o q r (suc (suc (suc (suc (suc (suc (suc (suc (suc (suc (suc (suc (suc (suc (suc zero))))))))))))))) lt = r
sixteen P a b c d e f g h i j k l m o q r (suc (suc (suc (suc (suc (suc (suc (suc (suc (suc (suc (suc (suc (suc (suc (suc n)))))))))))))))) lt = absurd (omega arith)

digit_is : (n : ℕ) → n < 16 → IsDigit n
digit_is = sixteen IsDigit (record { hex = refl; value = refl; short = refl }) (record { hex = refl; value = refl; short = refl }) (record { hex = refl; value = refl; short = refl }) (record { hex = refl; value = refl; short = refl }) (record { hex = refl; value = refl; short = refl }) (record { hex = refl; value = refl; short = refl }) (record { hex = refl; value = refl; short = refl }) (record { hex = refl; value = refl; short = refl }) (record { hex = refl; value = refl; short = refl }) (record { hex = refl; value = refl; short = refl }) (record { hex = refl; value = refl; short = refl }) (record { hex = refl; value = refl; short = refl }) (record { hex = refl; value = refl; short = refl }) (record { hex = refl; value = refl; short = refl }) (record { hex = refl; value = refl; short = refl }) (record { hex = refl; value = refl; short = refl })

-- the byte is printed as itself
record Stands (c : ℕ) : Type 0 where
  pub quote : (c == 34) ≡ false
  pub backslash : (c == 92) ≡ false
  pub line : is_line_end c ≡ false

stands : (c : ℕ) → (c == 92) ≡ false → ((leb 32 c && leb c 126) && not (c == 34)) ≡ true → Stands c
stands c e f = record { quote = grind (arith, nat_tests); backslash = e; line = grind (arith, nat_tests) }

data EscapeForm (c : ℕ) : Type 0 where
  doubled : c ≡ 92 → byte_text c ≡ 92 ∷ 92 ∷ [] → EscapeForm c
  itself : Stands c → byte_text c ≡ c ∷ [] → EscapeForm c
  escaped : byte_text c ≡ 92 ∷ hex_digit (c / 16) ∷ hex_digit (c % 16) ∷ [] → EscapeForm c

escape_form : (c : ℕ) → EscapeForm c
escape_form c = elim (cases_Bool (c == 92)) [
  | inl e ↦ doubled (eqb-true c 92 e) (rw e refl)
  | inr e ↦ elim (cases_Bool ((leb 32 c && leb c 126) && not (c == 34))) [
    | inl f ↦ itself (stands c e f) (rw (e, f) refl)
    | inr f ↦ escaped (rw (e, f) refl)
  ]
]

two : (o : Option ℕ) → option_map suc (option_map suc o) ≡ option_map (λ n. 2 + n) o
two None = refl
two (Some n) = ap Some (omega arith)

three : (o : Option ℕ) → option_map suc (option_map suc (option_map suc o)) ≡ option_map (λ n. 3 + n) o
three None = refl
three (Some n) = ap Some (omega arith)

one : (o : Option ℕ) → option_map suc o ≡ option_map (λ n. 1 + n) o
one None = refl
one (Some n) = ap Some (omega arith)

hex_passed : (h l : ℕ) (rest : List ℕ) → IsDigit h → IsDigit l → closing (92 ∷ hex_digit h ∷ hex_digit l ∷ rest) ≡ option_map (λ n. 3 + n) (closing rest)
unfolding closing
hex_passed h l rest d e = rw (d.short, d.hex, e.hex) (three (closing rest))

-- the search for the closing quote skips the printed form of a byte
byte_passed : (c : ℕ) (rest : List ℕ) → c < 256 → EscapeForm c → closing (byte_text c ++ rest) ≡ option_map (λ n. length (byte_text c) + n) (closing rest)
unfolding closing
byte_passed c rest lt (doubled e f) = rw f (two (closing rest))
byte_passed c rest lt (itself s f) = rw f (rw (s.line, s.quote, s.backslash) (one (closing rest)))
byte_passed c rest lt (escaped f) = rw f (hex_passed (c / 16) (c % 16) rest (digit_is (c / 16) (omega arith)) (digit_is (c % 16) (omega arith)))

hex_back : (c h l : ℕ) (rest : List ℕ) → IsDigit h → IsDigit l → 16 * h + l ≡ c → string_bytes (92 ∷ hex_digit h ∷ hex_digit l ∷ rest) ≡ c ∷ string_bytes rest
unfolding string_bytes
hex_back c h l rest d e sum = rw (d.short, d.value, e.value, sum) refl

byte_back : (c : ℕ) (rest : List ℕ) → c < 256 → EscapeForm c → string_bytes (byte_text c ++ rest) ≡ c ∷ string_bytes rest
unfolding string_bytes
byte_back c rest lt (doubled e f) = rw f (rw e refl)
byte_back c rest lt (itself s f) = rw f (rw s.backslash refl)
byte_back c rest lt (escaped f) = rw f (hex_back c (c / 16) (c % 16) rest (digit_is (c / 16) (omega arith)) (digit_is (c % 16) (omega arith)) (omega arith))

quote_ends : (rest : List ℕ) → closing (34 ∷ rest) ≡ Some 0
unfolding closing
quote_ends rest = refl

nothing : string_bytes [] ≡ []
unfolding string_bytes
nothing = refl

escaped_len : (v rest : List ℕ) → AreBytes v → closing (raw_text v ++ 34 ∷ rest) ≡ Some (length (raw_text v))
escaped_len [] rest h = quote_ends rest
escaped_len (c ∷ cs) rest h =
    let e = byte_passed c (raw_text cs ++ 34 ∷ rest) h.0 (escape_form c) in
    let ih = escaped_len cs rest h.1 in
    rw (flat_map-cons, append_assoc, e, ih) (ap Some (sym (length-append (byte_text c) (raw_text cs))))

pub value_again : (v : List ℕ) → AreBytes v → string_bytes (raw_text v) ≡ v
value_again [] h = nothing
value_again (c ∷ cs) h = rw (flat_map-cons, byte_back c (raw_text cs) h.0 (escape_form c)) (ap (λ (l : List ℕ). c ∷ l) (value_again cs h.1))

-- the text after the opening quote is read back
pub parts_again : (v rest : List ℕ) → AreBytes v → string_parts ((raw_text v ++ 34 ∷ []) ++ rest) ≡ Some (raw_text v, rest)
parts_again v rest h =
    let raw = raw_text v in
    let back : drop (length raw + 1) (raw ++ 34 ∷ rest) ≡ rest = ap (drop (length raw + 1)) (sym (append_assoc raw (34 ∷ []) rest)) ∙ drop_at (raw ++ 34 ∷ []) rest (length raw + 1) (length-append raw (34 ∷ [])) in
    rw (append_assoc, escaped_len v rest h, take_at raw (34 ∷ rest) (length raw) refl, back) refl
