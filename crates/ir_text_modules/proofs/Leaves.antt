-- Printed integers, strings, types, flags and unit are parsed back.
use Rattle.std.proofs.Common.{◌≡◌, ℕ, zero, suc, ◌≤◌, ◌<◌, ◌^◌, ℤ, pos, negsuc, Bool, true, false, List, [], ◌∷◌, ◌++◌, Some, None, refl, sym, ap, subst, true≢false, append_assoc, arith, inl, inr}
use Rattle.std.specs.Prelude.{◌⊎◌, ◌&&◌, codes, nat_le, nat_lt}
use Rattle.std.specs.Fmt.{decimal, signed_decimal}
use Rattle.std.specs.Str.{bytes_eq}
use Rattle.std.proofs.lemmas.Bool.{eqb-true}
use Rattle.std.proofs.lemmas.Bool.Decides.{nat_tests}
use Rattle.ir_types.specs.declared.node.Sign.TheVariants.{Signless, Signed, Unsigned}
use Rattle.ir_types.specs.Terms.{TypeTerm, Integer, Index, Function, Memref, OpaqueType, AttrTerm, IntegerOf, String, TypeOf, Flag, Overflow}
use Rattle.ir_types.specs.Depths.{type_depth}
use Rattle.ir_types.specs.Readings.{is_bits_of, literal_bits, reading_of, signed_of}
use Rattle.ir_types.specs.Reasons.{attr_fault}
use Rattle.ir_text_tokens.specs.declared.token.Mark.TheVariants.{OpenRound, Less, Greater, Comma, Colon, Minus}
use Rattle.ir_text_tokens.specs.Bytes.{is_word}
use Rattle.ir_text_tokens.specs.Tokens.{Lexeme, mark, integer, string, bare, hash, bang}
use Rattle.ir_text_tokens.specs.Printing.{AreBytes, Stops, raw_text, string_text}
use Rattle.ir_text_tokens.proofs.Decimals.{integer_again}
use Rattle.ir_text_tokens.proofs.Escapes.{value_again}
use Rattle.ir_text_tokens.proofs.Printed.{bare_token, decimal_token, hash_token, mark_token, minus_token, string_token}
use Rattle.ir_text.specs.TypeText.{type_text}
use Rattle.ir_text.specs.AttrText.{is_truth, number_text, integer_text, flags_text, attr_text}
use Rattle.ir_text_types.specs.Grammars.{Grammar, Token}
use Rattle.ir_text_types.specs.Typed.{Text}
use Rattle.ir_text_attributes.specs.OpaqueAttributes.{is_opaque_type, is_hexadecimal, tail_of}
use Rattle.ir_text_types.specs.TypeGrammar.{IsMemref, IsAfter, IsType}
use Rattle.ir_text_attributes.specs.Literals.{TypeWord, word_of, true_word, false_word, unit_word, none_word, overflow_word}
use Rattle.ir_text_attributes.specs.AttrGrammar.{IsSuffix, IsLiteral, IsFlags, IsWordAttr, IsAttrFrom, IsAttr}
use Rattle.ir_text_attributes.specs.declared.flag.Flag as code
use Rattle.ir_text_attributes.specs.declared.flag.Flag.TheVariants.{NoSignedWrap, NoUnsignedWrap}
use Rattle.ir_text_attributes.specs.Literals.{has_nsw, has_nuw}
use Rattle.ir_text_types.specs.Grammars.{IsMore}
use Rattle.ir_text_modules.specs.Kept.{EndsType}
use Rattle.ir_text_modules.specs.Written.{is_written_type}
use Rattle.ir_text_modules.specs.WrittenAttributes.{EndsAttr}
use Rattle.ir_text_modules.proofs.Small.{lacks_token}
use Rattle.ir_text_modules.proofs.Ahead.{space, space_token}
use Rattle.ir_text_modules.proofs.Kept.{no_word}
use Rattle.ir_text_modules.proofs.Types.{type_ahead, type_again}
use Rattle.ir_text_modules.proofs.TypeWords.{type_word, word_after}
use Rattle.ir_text_modules.proofs.Values.{IsRead, read_again, fine}
use Rattle.ir_text_tokens.proofs.Places.{is_below}
use Rattle.ir_tree.proofs.Counts.{below_none}

-- an attribute by its first token
abbrev pub Begins : Bool → ℕ → AttrTerm → (old new : List ℕ) → Type 0
Begins o depth y old new = (t : Lexeme) × (rest : List ℕ) × Token t old rest × IsAttrFrom o depth (IsAttr o depth) t rest y old new

pub stops_word : (o : Bool) (rest : List ℕ) → EndsType o rest → Stops is_word rest
stops_word false rest s = s
stops_word true rest s = no_word rest s.0

-- these words begin no opaque attribute
none_kept : (tail_of true_word ≡ None) × (tail_of false_word ≡ None) × (tail_of unit_word ≡ None)
unfolding tail_of
none_kept = (refl, refl, refl)

-- ---- integers

value_depth : (ty : TypeTerm) (bits : ℕ) → is_bits_of ty bits ≡ true → type_depth ty ≤ 32
value_depth (Integer sign w) bits v = omega arith
value_depth Index bits v = omega arith
value_depth (Function ins outs) bits v = absurd cc
value_depth (Memref dims elem) bits v = absurd cc
value_depth (OpaqueType text) bits v = absurd cc

-- the type after the digits
suffix_again : (o : Bool) (ty : TypeTerm) (bits : ℕ) (rest : List ℕ) → is_written_type o ty ≡ true → is_bits_of ty bits ≡ true → EndsType o rest → IsSuffix o ty (32 ∷ 58 ∷ 32 ∷ (type_text ty ++ rest)) rest
suffix_again o ty bits rest t v s =
    let read = type_again o 32 (omega arith) ty rest (value_depth ty bits v) t s in
    inl (32 ∷ (type_text ty ++ rest), space_token (mark Colon) (58 ∷ 32 ∷ (type_text ty ++ rest)) (32 ∷ (type_text ty ++ rest)) (mark_token Colon (32 ∷ (type_text ty ++ rest)) refl), space (IsType o 32) (type_ahead o 32) ty (type_text ty ++ rest) rest read)

not_opaque : (ty : TypeTerm) (bits : ℕ) → is_bits_of ty bits ≡ true → is_opaque_type ty ≡ false
not_opaque (Integer sign w) bits v = refl
not_opaque Index bits v = refl
not_opaque (Function ins outs) bits v = refl
not_opaque (Memref dims elem) bits v = refl
not_opaque (OpaqueType text) bits v = absurd cc

literal_again : (o negative : Bool) (n : ℕ) (ty : TypeTerm) (bits : ℕ) (rest : List ℕ) → literal_bits ty negative n ≡ Some bits → n < 2 ^ 128 → is_written_type o ty ≡ true → is_bits_of ty bits ≡ true → EndsType o rest
    → IsLiteral o negative (decimal n) (IntegerOf ty bits) (32 ∷ 58 ∷ 32 ∷ (type_text ty ++ rest)) rest
literal_again o negative n ty bits rest e lt t v s =
    let known : (is_opaque_type ty && is_hexadecimal (decimal n)) ≡ false = ap (λ b. b && is_hexadecimal (decimal n)) (not_opaque ty bits v) in
    (n, rw (integer_again n lt) (is_below n lt), (ty, rest, suffix_again o ty bits rest t v s, inr (known, (bits, e, (fine ty bits v, refl, refl)))))

-- a number with its type
number_again : (o : Bool) (depth : ℕ) (ty : TypeTerm) (bits : ℕ) (z : ℤ) (rest : List ℕ) → IsRead ty bits z → is_written_type o ty ≡ true → is_bits_of ty bits ≡ true → EndsType o rest
    → Begins o depth (IntegerOf ty bits) (signed_decimal z ++ (32 ∷ 58 ∷ 32 ∷ (type_text ty ++ rest))) rest
number_again o depth ty bits (pos n) rest p t v s =
    let back = 32 ∷ 58 ∷ 32 ∷ (type_text ty ++ rest) in
    (integer (decimal n), back, decimal_token n back p.small refl, literal_again o false n ty bits rest (rw (below_none n) at p.literal) p.small t v s)
number_again o depth ty bits (negsuc n) rest p t v s =
    let back = 32 ∷ 58 ∷ 32 ∷ (type_text ty ++ rest) in
    (mark Minus, decimal (suc n) ++ back, minus_token (suc n) back p.small, (integer (decimal (suc n)), back, decimal_token (suc n) back p.small refl, literal_again o true (suc n) ty bits rest p.literal p.small t v s))

-- the values of one bit
one_bit : (bits : ℕ) → is_bits_of (Integer Signless 1) bits ≡ true → (bits ≡ 0) ⊎ (bits ≡ 1)
one_bit zero v = inl refl
one_bit (suc zero) v = inr refl
one_bit (suc (suc n)) v = absurd (large n v)
  where
    large : (n : ℕ) → nat_lt (suc (suc n)) 2 ≡ true → ⊥
    large n e = grind (arith, nat_tests)

-- a truth value
truth_again : (o : Bool) (depth bits : ℕ) (rest : List ℕ) → is_bits_of (Integer Signless 1) bits ≡ true → Stops is_word rest → Begins o depth (IntegerOf (Integer Signless 1) bits) (number_text true (reading_of (Integer Signless 1) bits) ++ rest) rest
unfolding number_text signed_of
truth_again o depth bits rest v s = from (one_bit bits v)
  where
    from : (bits ≡ 0) ⊎ (bits ≡ 1) → Begins o depth (IntegerOf (Integer Signless 1) bits) (number_text true (reading_of (Integer Signless 1) bits) ++ rest) rest
    from (inl e) = rw e (bare false_word, rest, bare_token false_word rest refl s, word_after o depth false_word rest (IntegerOf (Integer Signless 1) 0) (false_word ++ rest) rest none_kept.1 (refl, refl, refl))
    from (inr e) = rw e (bare true_word, rest, bare_token true_word rest refl s, word_after o depth true_word rest (IntegerOf (Integer Signless 1) 1) (true_word ++ rest) rest none_kept.0 (refl, refl, refl))

pub integer_read : (o : Bool) (depth : ℕ) (ty : TypeTerm) (bits : ℕ) (rest : List ℕ) → is_written_type o ty ≡ true → is_bits_of ty bits ≡ true → EndsType o rest → Begins o depth (IntegerOf ty bits) (integer_text ty (reading_of ty bits) ++ rest) rest
unfolding number_text
integer_read o depth ty bits rest t v s = from (is_truth ty) refl
  where
    is_one : (ty : TypeTerm) → is_truth ty ≡ true → ty ≡ Integer Signless 1
    is_one (Integer Signless w) e = ap (Integer Signless) (eqb-true w 1 e)
    is_one (Integer Signed w) e = absurd cc
    is_one (Integer Unsigned w) e = absurd cc
    is_one Index e = absurd cc
    is_one (Function ins outs) e = absurd cc
    is_one (Memref dims elem) e = absurd cc
    is_one (OpaqueType text) e = absurd cc

    apart : (z : ℤ) → is_truth ty ≡ false → integer_text ty z ++ rest ≡ signed_decimal z ++ (32 ∷ 58 ∷ 32 ∷ (type_text ty ++ rest))
    apart z e = rw e (append_assoc (signed_decimal z) (codes " : " ++ type_text ty) rest)

    from : (b : Bool) → is_truth ty ≡ b → Begins o depth (IntegerOf ty bits) (integer_text ty (reading_of ty bits) ++ rest) rest
    from true e = subst (λ u. is_bits_of u bits ≡ true → Begins o depth (IntegerOf u bits) (integer_text u (reading_of u bits) ++ rest) rest) (sym (is_one ty e)) (λ w. truth_again o depth bits rest w (stops_word o rest s)) v
    from false e = rw (apart (reading_of ty bits) e) (number_again o depth ty bits (reading_of ty bits) rest (read_again o ty bits t v) t v s)

-- ---- strings, unit and types

pub string_read : (o : Bool) (depth : ℕ) (v rest : List ℕ) → AreBytes v → EndsAttr o rest → Begins o depth (String v) (string_text v ++ rest) rest
string_read false depth v rest h s = (string (raw_text v), rest, string_token v rest h, inr (refl, (refl, ap String (sym (value_again v h)), refl)))
string_read true depth v rest h s = (string (raw_text v), rest, string_token v rest h, inl (refl, inr (s.2, (refl, ap String (sym (value_again v h)), refl))))

pub unit_read : (o : Bool) (depth : ℕ) (rest : List ℕ) → Stops is_word rest → Begins o depth Flag (codes "unit" ++ rest) rest
unit_read o depth rest s = (bare unit_word, rest, bare_token unit_word rest refl s, word_after o depth unit_word rest Flag (unit_word ++ rest) rest none_kept.2 (refl, refl, refl))

-- ---- flags

abbrev nsw_word : List ℕ
nsw_word = codes "nsw"

abbrev nuw_word : List ℕ
nuw_word = codes "nuw"

flags_again : (nsw nuw : Bool) (rest : List ℕ) → (fs : List code.Flag) × IsFlags fs (flags_text nsw nuw ++ 62 ∷ rest) rest × (has_nsw fs ≡ nsw) × (has_nuw fs ≡ nuw)
unfolding IsMore
flags_again false false rest = ([], (none_word, 62 ∷ rest, bare_token none_word (62 ∷ rest) refl refl, inl (refl, mark_token Greater rest tt, refl)), refl, refl)
flags_again true false rest =
    (NoSignedWrap ∷ [], (nsw_word, 62 ∷ rest, bare_token nsw_word (62 ∷ rest) refl refl, inr (refl, (NoSignedWrap, 62 ∷ rest, (nsw_word, bare_token nsw_word (62 ∷ rest) refl refl, refl), inl (mark_token Greater rest tt, refl)))), refl, refl)
flags_again false true rest =
    (NoUnsignedWrap ∷ [], (nuw_word, 62 ∷ rest, bare_token nuw_word (62 ∷ rest) refl refl, inr (refl, (NoUnsignedWrap, 62 ∷ rest, (nuw_word, bare_token nuw_word (62 ∷ rest) refl refl, refl), inl (mark_token Greater rest tt, refl)))), refl, refl)
flags_again true true rest =
    let more = 110 ∷ 117 ∷ 119 ∷ 62 ∷ rest in
    let comma = lacks_token (mark Comma) Greater (44 ∷ 32 ∷ more) (32 ∷ more) (mark_token Comma (32 ∷ more) tt) (λ e. absurd cc) in
    (NoSignedWrap ∷ NoUnsignedWrap ∷ [], (nsw_word, 44 ∷ 32 ∷ more, bare_token nsw_word (44 ∷ 32 ∷ more) refl refl, inr (refl, (NoSignedWrap, 44 ∷ 32 ∷ more, (nsw_word, bare_token nsw_word (44 ∷ 32 ∷ more) refl refl, refl), inr (comma, 32 ∷ more, mark_token Comma (32 ∷ more) tt, (NoUnsignedWrap, 62 ∷ rest, (nuw_word, space_token (bare nuw_word) more (62 ∷ rest) (bare_token nuw_word (62 ∷ rest) refl refl), refl), inl (mark_token Greater rest tt, refl)))))), refl, refl)

pub overflow_read : (o : Bool) (depth : ℕ) (nsw nuw : Bool) (rest : List ℕ) → Begins o depth (Overflow nsw nuw) (attr_text (Overflow nsw nuw) ++ rest) rest
overflow_read o depth nsw nuw rest =
    let f = flags_again nsw nuw rest in
    let inside = flags_text nsw nuw ++ 62 ∷ rest in
    let apart : attr_text (Overflow nsw nuw) ++ rest ≡ 35 ∷ (overflow_word ++ 60 ∷ inside) = ap (λ (l : List ℕ). 35 ∷ (overflow_word ++ 60 ∷ l)) (append_assoc (flags_text nsw nuw) (62 ∷ []) rest) in
    rw apart (hash overflow_word, 60 ∷ inside, hash_token overflow_word (60 ∷ inside) refl refl, inl (refl, (inside, mark_token Less inside tt, (f.0, rest, f.1, (refl, rw (f.2, f.3) refl, refl)))))

-- ---- types

type_begins : (o : Bool) (depth : ℕ) (ty : TypeTerm) (a new : List ℕ) → attr_fault (TypeOf ty) ≡ None → IsType o (suc depth) ty a new → Begins o depth (TypeOf ty) a new
unfolding IsType
type_begins o depth ty a new e (inl h) = (mark OpenRound, h.0, h.1, (ty, new, inl h, (e, refl, refl)))
type_begins o depth ty a new e (inr h) = from h.1.0 h.1.1 h.1.2 h.1.3
  where
    from : (token : Lexeme) (rest : List ℕ) → Token token a rest → IsAfter o (IsMemref o (suc depth)) token ty rest new → Begins o depth (TypeOf ty) a new
    from (bare w) rest t k =
        let word = type_word o (IsMemref o (suc depth)) w ty rest new k in
        (bare w, rest, t, word_after o depth w rest (TypeOf ty) a new word.0 (subst (λ u. IsWordAttr o (suc depth) u rest (TypeOf ty) a new) (sym word.1) (ty, new, inr (h.0, (bare w, rest, t, k)), (e, refl, refl))))
    from (bang name) rest t k = (bang name, rest, t, (ty, new, inr (h.0, (bang name, rest, t, k)), (e, refl, refl)))
    from _ rest t k = absurd k

shallow : (ty : TypeTerm) → type_depth ty ≤ 32 → attr_fault (TypeOf ty) ≡ None
shallow ty le = let e : nat_le (type_depth ty) 32 ≡ true = grind (arith, nat_tests) in rw e refl

pub type_read : (o : Bool) (depth : ℕ) (ty : TypeTerm) (rest : List ℕ) → suc depth ≤ 32 → type_depth ty ≤ suc depth → is_written_type o ty ≡ true → EndsType o rest → Begins o depth (TypeOf ty) (type_text ty ++ rest) rest
type_read o depth ty rest small le e s = type_begins o depth ty (type_text ty ++ rest) rest (shallow ty (omega arith)) (type_again o (suc depth) small ty rest le e s)
