-- Bytes, numbers, strings and value names are printed as ASCII.
use Rattle.std.proofs.Common.{◌≡◌, ◌<◌, ◌+◌, ◌-◌, ◌/◌, ◌%◌, ℕ, zero, suc, Bool, true, false, ◌&&◌, List, [], ◌∷◌, ◌++◌, length, map, Option, Some, None, ℤ, pos, negsuc, refl, arith}
use Rattle.std.specs.Prelude.{if◌then◌else◌, ◌==◌, not, nat_lt, nat_le, codes}
use Rattle.std.specs.List.{list_all, AllByRecursion, prefix_len}
use Rattle.std.specs.Fmt.{decimal, signed_decimal, digits, digits_onto, digit_glyph}
use Rattle.std.specs.Str.{IsAscii}
use Rattle.std.proofs.lemmas.Bool.{eqb-true, and_parts}
use Rattle.std.proofs.lemmas.Bool.Decides.{nat_tests}
use Rattle.std.proofs.lemmas.Str.{IsAscii-append}
use Rattle.std.proofs.lemmas.Str.Ascii.{IsAscii-nil, IsAscii-cons}
use Rattle.ir_tree.specs.declared.value.Value.{Value}
use Rattle.ir_tree.specs.Tree.{no_regions, region}
use Rattle.ir_text_tokens.specs.Bytes.{is_letter, is_word}
use Rattle.ir_text_tokens.specs.Printing.{hex_digit, byte_text, raw_text, string_text, is_bare_id, key_text}
use Rattle.ir_text.specs.declared.naming.ValueName.{ValueName}
use Rattle.ir_text.specs.declared.naming.ValueName.TheVariants as name
use Rattle.ir_text.specs.Naming.{Naming, Named, name_text, naming_of, naming_text, value_text}
use Rattle.ir_text.specs.Printing.{results_text, comma_at, opening, closing_text}
use Rattle.ir_text_modules.specs.WrittenAttributes.{are_bytes}
use Rattle.ir_text_modules.proofs.Texts.{Regions}
use Rattle.ir_text_modules.proofs.Small.{is_byte}

-- ---- bytes

low : (c : ℕ) → nat_lt c 128 ≡ true → c < 128
low c e = grind (arith, nat_tests)

pub word : (bs : List ℕ) → list_all (λ c. nat_lt c 128) bs ≡ true → IsAscii bs
word [] e = IsAscii-nil
word (c ∷ cs) e = let p = and_parts (nat_lt c 128) (list_all (λ d. nat_lt d 128) cs) e in IsAscii-cons c cs (low c p.0) (word cs p.1)

pub either : (b : Bool) (xs ys : List ℕ) → IsAscii xs → IsAscii ys → IsAscii (if b then xs else ys)
either true xs ys h k = h
either false xs ys h k = k

-- ---- numbers

glyph : (n : ℕ) → digit_glyph false (n % 10) < 128
glyph n = by (nat_lt (n % 10) 10)
  where
    by : (b : Bool) → (if b then 48 + n % 10 else 87 + n % 10) < 128
    by true = omega arith
    by false = omega arith

glyphs : (k n : ℕ) (acc : List ℕ) → IsAscii acc → IsAscii (digits_onto k 10 false n acc)
glyphs zero n acc h = h
glyphs (suc k) n acc h = by (n / 10 == 0) (glyphs k (n / 10) (digit_glyph false (n % 10) ∷ acc) more)
  where
    more : IsAscii (digit_glyph false (n % 10) ∷ acc)
    more = IsAscii-cons (digit_glyph false (n % 10)) acc (glyph n) h

    by : (b : Bool) → IsAscii (digits_onto k 10 false (n / 10) (digit_glyph false (n % 10) ∷ acc)) → IsAscii (if b then digit_glyph false (n % 10) ∷ acc else digits_onto k 10 false (n / 10) (digit_glyph false (n % 10) ∷ acc))
    by true go = more
    by false go = go

pub number : (n : ℕ) → IsAscii (decimal n)
unfolding digits
number n = glyphs 64 n [] IsAscii-nil

pub signed : (z : ℤ) → IsAscii (signed_decimal z)
signed (pos n) = number n
signed (negsuc n) = IsAscii-cons 45 (decimal (suc n)) (omega arith) (number (suc n))

-- ---- strings and names

digit_low : (d : ℕ) → d < 16 → hex_digit d < 128
digit_low d lt = by (nat_lt d 10)
  where
    by : (b : Bool) → (if b then 48 + d else 65 + (d - 10)) < 128
    by true = omega (arith, lt)
    by false = omega (arith, lt)

plain_low : (c : ℕ) → (nat_le 32 c && nat_le c 126) ≡ true → c < 128
plain_low c e = grind (arith, nat_tests)

one_byte : (c : ℕ) → c < 256 → IsAscii (byte_text c)
one_byte c lt = by (c == 92) (nat_le 32 c && nat_le c 126) refl (c == 34)
  where
    escape : IsAscii (92 ∷ hex_digit (c / 16) ∷ hex_digit (c % 16) ∷ [])
    escape = IsAscii-cons 92 (hex_digit (c / 16) ∷ hex_digit (c % 16) ∷ []) (omega arith) (IsAscii-cons (hex_digit (c / 16)) (hex_digit (c % 16) ∷ []) (digit_low (c / 16) (omega (arith, lt))) (IsAscii-cons (hex_digit (c % 16)) [] (digit_low (c % 16) (omega arith)) IsAscii-nil))

    by : (a b : Bool) → (nat_le 32 c && nat_le c 126) ≡ b → (q : Bool) → IsAscii (if a then 92 ∷ 92 ∷ [] else if b && not q then c ∷ [] else 92 ∷ hex_digit (c / 16) ∷ hex_digit (c % 16) ∷ [])
    by true b e q = word (92 ∷ 92 ∷ []) refl
    by false true e false = IsAscii-cons c [] (plain_low c e) IsAscii-nil
    by false true e true = escape
    by false false e q = escape

raw : (v : List ℕ) → are_bytes v ≡ true → IsAscii (raw_text v)
raw [] e = IsAscii-nil
raw (c ∷ cs) e =
    let p = and_parts (nat_lt c 256) (are_bytes cs) e in
    IsAscii-append (byte_text c) (raw_text cs) (one_byte c (is_byte c p.0)) (raw cs p.1)

pub quoted : (v : List ℕ) → are_bytes v ≡ true → IsAscii (string_text v)
quoted v e = IsAscii-cons 34 (raw_text v ++ 34 ∷ []) (omega arith) (IsAscii-append (raw_text v) (34 ∷ []) (raw v e) (word (34 ∷ []) refl))

letter_low : (c : ℕ) → is_letter c ≡ true → c < 128
letter_low c e = grind (arith, nat_tests)

word_low : (c : ℕ) → is_word c ≡ true → c < 128
word_low c e = grind (arith, nat_tests)

words_low : (cs : List ℕ) → prefix_len is_word cs ≡ length cs → IsAscii cs
words_low [] e = IsAscii-nil
words_low (c ∷ cs) e = by (is_word c) refl e (words_low cs)
  where
    by : (b : Bool) → is_word c ≡ b → (if b then 1 + prefix_len is_word cs else 0) ≡ suc (length cs) → (prefix_len is_word cs ≡ length cs → IsAscii cs) → IsAscii (c ∷ cs)
    by true k n go = IsAscii-cons c cs (word_low c k) (go (omega (arith, n)))
    by false k n go = absurd (omega (arith, n))

bare : (v : List ℕ) → is_bare_id v ≡ true → IsAscii v
bare [] e = IsAscii-nil
bare (c ∷ cs) e = let p = and_parts (is_letter c) (prefix_len is_word cs == length cs) e in IsAscii-cons c cs (letter_low c p.0) (words_low cs (eqb-true (prefix_len is_word cs) (length cs) p.1))

pub key : (v : List ℕ) → are_bytes v ≡ true → IsAscii (key_text v)
key v e = by (is_bare_id v) refl
  where
    by : (b : Bool) → is_bare_id v ≡ b → IsAscii (if b then v else string_text v)
    by true k = bare v k
    by false k = quoted v e

-- ---- names of values, and punctuation marks

named : (n : ValueName) → IsAscii (name_text n)
named (name.Only n) = IsAscii-append (codes "%") (decimal n) (word (codes "%") refl) (number n)
named (name.Part n k) = IsAscii-append (codes "%") (decimal n ++ (codes "#" ++ decimal k)) (word (codes "%") refl) (IsAscii-append (decimal n) (codes "#" ++ decimal k) (number n) (IsAscii-append (codes "#") (decimal k) (word (codes "#") refl) (number k)))
named (name.Argument n) = IsAscii-append (codes "%arg") (decimal n) (word (codes "%arg") refl) (number n)

value : (n : Named) (v : Value) → IsAscii (value_text n v)
value n v = by (naming_of n v)
  where
    by : (o : Option Naming) → IsAscii (naming_text o)
    by None = word (codes "%") refl
    by (Some k) = named k.name

pub values : (n : Named) (vs : List Value) → AllByRecursion IsAscii (map (value_text n) vs)
values n [] = tt
values n (v ∷ vs) = (value n v, values n vs)

pub counted : (n count : ℕ) → IsAscii (results_text n count)
counted n count = IsAscii-append (codes "%") (decimal n ++ (if count == 1 then codes " = " else codes ":" ++ (decimal count ++ codes " = "))) (word (codes "%") refl) (IsAscii-append (decimal n) (if count == 1 then codes " = " else codes ":" ++ (decimal count ++ codes " = ")) (number n)
    (either (count == 1) (codes " = ") (codes ":" ++ (decimal count ++ codes " = ")) (word (codes " = ") refl) (IsAscii-append (codes ":") (decimal count ++ codes " = ") (word (codes ":") refl) (IsAscii-append (decimal count) (codes " = ") (number count) (word (codes " = ") refl)))))

pub comma : (k : ℕ) → IsAscii (comma_at k)
comma k = either (k == 0) [] (codes ", ") IsAscii-nil (word (codes ", ") refl)

pub opened : (rs : Regions) → IsAscii (opening rs)
opened no_regions = IsAscii-nil
opened (region g rs) = word (codes " (") refl

pub closed : (rs : Regions) → IsAscii (closing_text rs)
closed no_regions = IsAscii-nil
closed (region g rs) = word (codes ")") refl
