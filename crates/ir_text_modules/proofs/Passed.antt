-- A printed element type has no comma at nesting depth one, so a printed memref is parsed as a memref.
use Rattle.std.proofs.Common.{◌≡◌, ℕ, ◌+◌, ◌≤◌, Bool, true, false, inl, inr, List, [], ◌∷◌, ◌++◌, length, drop, take, flat_map, Option, Some, None, refl, sym, ap, subst, ◌∙◌, append_assoc, arith}
use Rattle.std.specs.Prelude.{◌==◌, ◌&&◌, ◌||◌, not, if◌then◌else◌, nat_le, codes, option_map, Ok}
use Rattle.std.specs.List.{list_all, prefix_len}
use Rattle.std.specs.Char.{is_ascii_digit}
use Rattle.std.specs.Fmt.{decimal}
use Rattle.std.proofs.lemmas.Bool.{and_parts, eqb-true, not-true}
use Rattle.std.proofs.lemmas.Bool.Decides.{nat_tests}
use Rattle.std.proofs.lemmas.List.{length-append, length-drop}
use Rattle.std.proofs.lemmas.List.Concat.{flat_map-cons}
use Rattle.std.proofs.lemmas.Option.{some_pair_parts}
use Rattle.ir_types.specs.Terms.{TypeTerm, Integer, Index, Function, Memref, OpaqueType}
use Rattle.ir_types.specs.Reasons.{is_dimension}
use Rattle.ir_text_tokens.specs.Bytes.{is_letter, is_word}
use Rattle.ir_text_tokens.specs.Printing.{is_bare_id}
use Rattle.ir_text_tokens.specs.Tokens.{Lexeme, bare, bang, name_at, suffix_len, skip}
use Rattle.ir_text_tokens.proofs.Blanks.{skip_nothing}
use Rattle.ir_text_tokens.proofs.Decimals.{decimal_number, first_passes, rest_passes}
use Rattle.ir_text_tokens.proofs.Precedings.{next_preceding}
use Rattle.ir_text_tokens.proofs.Printed.{name_again}
use Rattle.ir_text_tokens.proofs.Wholes.{letter_word, next_whole}
use Rattle.ir_text_tokens.specs.Bodies.{begins, closer_of, comma_ahead, fault_of, is_fine, is_none, is_plain_body, is_plain_memref, most_open, part_len, scan}
use Rattle.ir_text_tokens.proofs.KeptBodies.{name_within}
use Rattle.ir_text_types.specs.Grammars.{Grammar, Token}
use Rattle.ir_text_types.specs.Scalars.{memref_word}
use Rattle.ir_text_types.specs.TypeGrammar.{IsAfter}
use Rattle.ir_text_types.specs.TypeReading.{many}
use Rattle.ir_text.specs.TypeText.{dimension_text, is_function, sign_text, type_text}
use Rattle.ir_text_modules.specs.Written.{is_written_type}
use Rattle.ir_text_modules.proofs.Commas.{closing, opening, extra, passes}
use Rattle.ir_text_modules.proofs.Kept.{Form, IsBody, body_found, form_of, inside}
use Rattle.ir_text_types.specs.ShapeGrammar.{begins_dimension}
use Rattle.ir_text_modules.proofs.Shapes.{digits_stay, mark_stays, small, word_no_dimension}
use Rattle.ir_text_modules.proofs.Words.{digit_word, run_within, scalar_word}

-- ---- a plain byte

record Stands (c : ℕ) : Type 0 where
  pub comma : (c == 44) ≡ false
  pub end : (c == 62) ≡ false
  pub opens : closer_of c ≡ None
  pub alone : (cs : List ℕ) → part_len c cs ≡ 0

no_comma : (c : ℕ) (os : List ℕ) → (c == 44) ≡ false → (c == 44 && is_none os) ≡ false
no_comma c os e = rw e refl

byte_goes : (c : ℕ) (os cs : List ℕ) → Stands c → comma_ahead (62 ∷ os) 0 (c ∷ cs) ≡ true → comma_ahead (62 ∷ os) 0 cs ≡ true
byte_goes c os cs f e =
    let p = and_parts (is_fine (fault_of c cs)) (comma_ahead (62 ∷ os) (part_len c cs) cs) (sym (extra c 62 os cs (no_comma c os f.comma) f.end f.opens) ∙ e) in
    subst (λ n. comma_ahead (62 ∷ os) n cs ≡ true) (f.alone cs) p.1

word_stands : (c : ℕ) → is_word c ≡ true → Stands c
word_stands c e =
    let round : (c == 40) ≡ false = grind (arith, nat_tests) in
    let square : (c == 91) ≡ false = grind (arith, nat_tests) in
    let curly : (c == 123) ≡ false = grind (arith, nat_tests) in
    let less : (c == 60) ≡ false = grind (arith, nat_tests) in
    let quote : (c == 34) ≡ false = grind (arith, nat_tests) in
    let hash : (c == 35) ≡ false = grind (arith, nat_tests) in
    let bang : (c == 33) ≡ false = grind (arith, nat_tests) in
    let minus : (c == 45) ≡ false = grind (arith, nat_tests) in
    record { comma = grind (arith, nat_tests); end = grind (arith, nat_tests); opens = rw (round, square, curly, less) refl; alone = λ cs. rw (quote, hash, bang, minus) refl }

mark_stands : Stands 63
mark_stands = record { comma = refl; end = refl; opens = refl; alone = λ cs. refl }

-- ---- words and dimensions

run_goes : (w os x : List ℕ) → prefix_len is_word w ≡ length w → comma_ahead (62 ∷ os) 0 (w ++ x) ≡ true → comma_ahead (62 ∷ os) 0 x ≡ true
run_goes [] os x h e = e
run_goes (c ∷ cs) os x h e = run_goes cs os x (rest_passes is_word c cs h) (byte_goes c os (cs ++ x) (word_stands c (first_passes is_word c cs h)) e)

pub bare_goes : (w os x : List ℕ) → is_bare_id w ≡ true → comma_ahead (62 ∷ os) 0 (w ++ x) ≡ true → comma_ahead (62 ∷ os) 0 x ≡ true
bare_goes [] os x id e = absurd cc
bare_goes (c ∷ cs) os x id e =
    let p = and_parts (is_letter c) (prefix_len is_word cs == length cs) id in
    run_goes cs os x (eqb-true (prefix_len is_word cs) (length cs) p.1) (byte_goes c os (cs ++ x) (word_stands c (letter_word c p.0)) e)

dimensions_go : (dims : List (Option ℕ)) (os x : List ℕ) → list_all is_dimension dims ≡ true → comma_ahead (62 ∷ os) 0 (flat_map dimension_text dims ++ x) ≡ true → comma_ahead (62 ∷ os) 0 x ≡ true
dimensions_go [] os x h e = e
dimensions_go (None ∷ ds) os x h e =
    let back = flat_map dimension_text ds ++ x in
    let apart : flat_map dimension_text (None ∷ ds) ++ x ≡ 63 ∷ 120 ∷ back = ap (λ (l : List ℕ). l ++ x) (flat_map-cons dimension_text None ds) ∙ append_assoc (dimension_text None) (flat_map dimension_text ds) x in
    let k = subst (λ l. comma_ahead (62 ∷ os) 0 l ≡ true) apart e in
    dimensions_go ds os x h (byte_goes 120 os back (word_stands 120 refl) (byte_goes 63 os (120 ∷ back) mark_stands k))
dimensions_go (Some n ∷ ds) os x h e =
    let back = flat_map dimension_text ds ++ x in
    let p = and_parts (is_dimension (Some n)) (list_all is_dimension ds) h in
    let number = decimal_number n (small n p.0) in
    let apart : flat_map dimension_text (Some n ∷ ds) ++ x ≡ decimal n ++ (120 ∷ back) = ap (λ (l : List ℕ). l ++ x) (flat_map-cons dimension_text (Some n) ds) ∙ append_assoc (dimension_text (Some n)) (flat_map dimension_text ds) x ∙ append_assoc (decimal n) (120 ∷ []) back in
    let k = subst (λ l. comma_ahead (62 ∷ os) 0 l ≡ true) apart e in
    dimensions_go ds os x p.1 (byte_goes 120 os back (word_stands 120 refl) (run_goes (decimal n) os (120 ∷ back) (run_within is_ascii_digit is_word digit_word (decimal n) number.digits) k))

-- ---- bodies and names

body_goes : (v os x : List ℕ) → IsBody v → comma_ahead (62 ∷ os) 0 (60 ∷ v ++ x) ≡ true → comma_ahead (62 ∷ os) 0 x ≡ true
body_goes v os x b e =
    let i = inside (v ++ x) (60 ∷ v) x (body_found v x b) in
    let m : scan (62 ∷ []) 0 (v ++ x) ≡ Ok x = ap (scan (62 ∷ []) 0) i.2 ∙ i.3 in
    let p = and_parts (not (length (62 ∷ os) == most_open)) (comma_ahead (62 ∷ 62 ∷ os) 0 (v ++ x)) (sym (opening 60 62 62 os (v ++ x) refl refl refl) ∙ e) in
    passes 62 os 62 [] 0 (v ++ x) x m p.1

-- the search skips the bytes of a name
skipped : (os n z : List ℕ) → comma_ahead (62 ∷ os) (length n) (n ++ z) ≡ comma_ahead (62 ∷ os) 0 z
unfolding comma_ahead
skipped os [] z = refl
skipped os (c ∷ cs) z = skipped os cs z

name_dropped : (n z : List ℕ) → name_at bang (n ++ z) ≡ Some (bang n, z) → drop (suffix_len (n ++ z)) (n ++ z) ≡ z
name_dropped n z e = by (suffix_len (n ++ z) == 0) e
  where
    parts : Bool → Option (List ℕ × List ℕ)
    parts t = if t then None else Some (take (suffix_len (n ++ z)) (n ++ z), drop (suffix_len (n ++ z)) (n ++ z))

    named : Option (List ℕ × List ℕ) → Option (Lexeme × List ℕ)
    named o = option_map (λ (x : List ℕ × List ℕ). (bang x.0, x.1)) o

    by : (t : Bool) → named (parts t) ≡ Some (bang n, z) → drop (suffix_len (n ++ z)) (n ++ z) ≡ z
    by true k = absurd cc
    by false k = (some_pair_parts (bang (take (suffix_len (n ++ z)) (n ++ z))) (bang n) (drop (suffix_len (n ++ z)) (n ++ z)) z k).1

name_length : (n z : List ℕ) → name_at bang (n ++ z) ≡ Some (bang n, z) → suffix_len (n ++ z) ≡ length n
name_length n z m =
    let trailing : length (drop (suffix_len (n ++ z)) (n ++ z)) ≡ length z = ap (λ (l : List ℕ). length l) (name_dropped n z m) in
    omega (arith, trailing, length-drop (suffix_len (n ++ z)) (n ++ z), length-append n z, name_within (n ++ z))

name_goes : (n os z : List ℕ) → name_at bang (n ++ z) ≡ Some (bang n, z) → comma_ahead (62 ∷ os) 0 (33 ∷ n ++ z) ≡ true → comma_ahead (62 ∷ os) 0 z ≡ true
name_goes n os z m e =
    let p = and_parts (is_fine (fault_of 33 (n ++ z))) (comma_ahead (62 ∷ os) (suffix_len (n ++ z)) (n ++ z)) (sym (extra 33 62 os (n ++ z) refl refl refl) ∙ e) in
    sym (skipped os n z) ∙ sym (ap (λ (k : ℕ). comma_ahead (62 ∷ os) k (n ++ z)) (name_length n z m)) ∙ p.1

-- ---- elements

-- the text after an element type ends the enclosing brackets
end_goes : (os y : List ℕ) → comma_ahead (62 ∷ os) 0 (62 ∷ y) ≡ true → comma_ahead os 0 y ≡ true
end_goes os y e = sym (closing 62 62 os y refl refl) ∙ e

form_goes : (text os y : List ℕ) → Form text → comma_ahead (62 ∷ os) 0 (text ++ 62 ∷ y) ≡ true → comma_ahead os 0 y ≡ true
form_goes text os y (inl f) e = end_goes os y (bare_goes text os (62 ∷ y) f.0 e)
form_goes text os y (inr (inl f)) e =
    let apart : text ++ 62 ∷ y ≡ f.0 ++ (60 ∷ f.1 ++ 62 ∷ y) = ap (λ l. l ++ 62 ∷ y) f.2 ∙ append_assoc f.0 (60 ∷ f.1) (62 ∷ y) in
    end_goes os y (body_goes f.1 os (62 ∷ y) f.6 (bare_goes f.0 os (60 ∷ f.1 ++ 62 ∷ y) f.3 (sym (ap (comma_ahead (62 ∷ os) 0) apart) ∙ e)))
form_goes text os y (inr (inr (inl f))) e =
    let apart : text ++ 62 ∷ y ≡ 33 ∷ f.0 ++ 62 ∷ y = ap (λ l. l ++ 62 ∷ y) f.1 in
    end_goes os y (name_goes f.0 os (62 ∷ y) (name_again bang f.0 (62 ∷ y) f.2 refl) (sym (ap (comma_ahead (62 ∷ os) 0) apart) ∙ e))
form_goes text os y (inr (inr (inr f))) e =
    let apart : text ++ 62 ∷ y ≡ 33 ∷ f.0 ++ (60 ∷ f.1 ++ 62 ∷ y) = ap (λ l. l ++ 62 ∷ y) f.2 ∙ ap (λ l. 33 ∷ l) (append_assoc f.0 (60 ∷ f.1) (62 ∷ y)) in
    end_goes os y (body_goes f.1 os (62 ∷ y) f.4 (name_goes f.0 os (60 ∷ f.1 ++ 62 ∷ y) (name_again bang f.0 (60 ∷ f.1 ++ 62 ∷ y) f.3 refl) (sym (ap (comma_ahead (62 ∷ os) 0) apart) ∙ e)))

-- the text between the brackets of a memref, and the rest
pub inner_text : (dims : List (Option ℕ)) (elem : TypeTerm) (rest : List ℕ) → (flat_map dimension_text dims ++ (type_text elem ++ 62 ∷ [])) ++ rest ≡ flat_map dimension_text dims ++ (type_text elem ++ 62 ∷ rest)
inner_text dims elem rest = append_assoc (flat_map dimension_text dims) (type_text elem ++ 62 ∷ []) rest ∙ ap (λ (l : List ℕ). flat_map dimension_text dims ++ l) (append_assoc (type_text elem) (62 ∷ []) rest)

element_goes : (elem : TypeTerm) (os y : List ℕ) → is_function elem ≡ false → is_written_type true elem ≡ true → comma_ahead (62 ∷ os) 0 (type_text elem ++ 62 ∷ y) ≡ true → comma_ahead os 0 y ≡ true
element_goes (Integer sign w) os y n h e = end_goes os y (bare_goes (sign_text sign ++ decimal w) os (62 ∷ y) (scalar_word sign w h) e)
element_goes Index os y n h e = end_goes os y (bare_goes (codes "index") os (62 ∷ y) refl e)
element_goes (Function ins outs) os y n h e = absurd cc
element_goes (Memref dims elem) os y n h e =
    let p = and_parts (nat_le (length dims) many && list_all is_dimension dims) (not (is_function elem) && is_written_type true elem) h in
    let d = and_parts (nat_le (length dims) many) (list_all is_dimension dims) p.0 in
    let k = and_parts (not (is_function elem)) (is_written_type true elem) p.1 in
    let inner = flat_map dimension_text dims ++ (type_text elem ++ 62 ∷ 62 ∷ y) in
    let apart : type_text (Memref dims elem) ++ 62 ∷ y ≡ memref_word ++ 60 ∷ inner = ap (λ (l : List ℕ). memref_word ++ 60 ∷ l) (inner_text dims elem (62 ∷ y)) in
    let opens = bare_goes memref_word os (60 ∷ inner) refl (sym (ap (comma_ahead (62 ∷ os) 0) apart) ∙ e) in
    let q = and_parts (not (length (62 ∷ os) == most_open)) (comma_ahead (62 ∷ 62 ∷ os) 0 inner) (sym (opening 60 62 62 os inner refl refl refl) ∙ opens) in
    end_goes os y (element_goes elem (62 ∷ os) (62 ∷ y) (not-true (is_function elem) k.0) k.1 (dimensions_go dims (62 ∷ os) (type_text elem ++ 62 ∷ 62 ∷ y) d.1 q.1))
element_goes (OpaqueType text) os y n h e = form_goes text os y (form_of text h) e

-- ---- memrefs

-- the first token of a type that is no function type is no star and no dimension
no_star : (c : ℕ) → is_letter c ≡ true → (c == 42) ≡ false
no_star c e = grind (arith, nat_tests)

digit_star : (c : ℕ) → is_ascii_digit c ≡ true → (c == 42) ≡ false
digit_star c e = grind (arith, nat_tests)

abbrev NoStar : List ℕ → Type 0
NoStar a = begins 42 (skip a) ≡ false

pub element_star : (M : Grammar (List ℕ) TypeTerm) (token : Lexeme) (y : TypeTerm) (a q new : List ℕ) → Token token a q → IsAfter true M token y q new → NoStar a
element_star M (bare w) y a q new t h = rw (next_preceding a q (bare w) t) (letters w q (next_whole a q (bare w) t).0)
  where
    letters : (w q : List ℕ) → is_bare_id w ≡ true → begins 42 (w ++ q) ≡ false
    letters [] q e = absurd cc
    letters (c ∷ cs) q e = no_star c (and_parts (is_letter c) (prefix_len is_word cs == length cs) e).0
element_star M (bang n) y a q new t h = rw (next_preceding a q (bang n) t) refl
element_star M _ y a q new t h = absurd h

pub element_dimension : (M : Grammar (List ℕ) TypeTerm) (token : Lexeme) (y : TypeTerm) (a q new : List ℕ) → Token token a q → IsAfter true M token y q new → begins_dimension (skip a) ≡ false
element_dimension M (bare w) y a q new t h = word_no_dimension w a q t
element_dimension M (bang n) y a q new t h = rw (next_preceding a q (bang n) t) refl
element_dimension M _ y a q new t h = absurd h

dimensions_star : (dims : List (Option ℕ)) (mid : List ℕ) → list_all is_dimension dims ≡ true → NoStar mid → NoStar (flat_map dimension_text dims ++ mid)
dimensions_star [] mid h s = s
dimensions_star (None ∷ ds) mid h s =
    let back = flat_map dimension_text ds ++ mid in
    let apart : flat_map dimension_text (None ∷ ds) ++ mid ≡ 63 ∷ 120 ∷ back = ap (λ (l : List ℕ). l ++ mid) (flat_map-cons dimension_text None ds) ∙ append_assoc (dimension_text None) (flat_map dimension_text ds) mid in
    rw apart (ap (begins 42) (mark_stays (120 ∷ back)))
dimensions_star (Some n ∷ ds) mid h s =
    let back = flat_map dimension_text ds ++ mid in
    let p = and_parts (is_dimension (Some n)) (list_all is_dimension ds) h in
    let number = decimal_number n (small n p.0) in
    let apart : flat_map dimension_text (Some n ∷ ds) ++ mid ≡ decimal n ++ (120 ∷ back) = ap (λ (l : List ℕ). l ++ mid) (flat_map-cons dimension_text (Some n) ds) ∙ append_assoc (dimension_text (Some n)) (flat_map dimension_text ds) mid ∙ append_assoc (decimal n) (120 ∷ []) back in
    rw apart (ap (begins 42) (digits_stay (decimal n) (120 ∷ back) number.digits number.some) ∙ digits (decimal n) (120 ∷ back) number.digits number.some)
  where
    digits : (ds rest : List ℕ) → prefix_len is_ascii_digit ds ≡ length ds → 1 ≤ length ds → begins 42 (ds ++ rest) ≡ false
    digits [] rest h le = absurd (omega (arith, le))
    digits (d ∷ ds) rest h le = digit_star d (first_passes is_ascii_digit d ds h)

nothing : (rest : List ℕ) → comma_ahead [] 0 rest ≡ true → ⊥
unfolding comma_ahead
nothing rest e = absurd cc

pub memref_plain : (dims : List (Option ℕ)) (elem : TypeTerm) (rest : List ℕ) → list_all is_dimension dims ≡ true → is_function elem ≡ false → is_written_type true elem ≡ true → NoStar (type_text elem ++ 62 ∷ rest)
    → is_plain_memref (60 ∷ flat_map dimension_text dims ++ (type_text elem ++ 62 ∷ rest)) ≡ true
memref_plain dims elem rest d n w s =
    let back = flat_map dimension_text dims ++ (type_text elem ++ 62 ∷ rest) in
    ap is_plain_body (skip_nothing 60 back refl refl) ∙ both (begins 42 (skip back)) (comma_ahead (62 ∷ []) 0 back) (dimensions_star dims (type_text elem ++ 62 ∷ rest) d s) (no_comma_there (comma_ahead (62 ∷ []) 0 back) refl)
  where
    both : (a b : Bool) → a ≡ false → b ≡ false → not (a || b) ≡ true
    both true b e f = absurd cc
    both false true e f = absurd cc
    both false false e f = refl

    no_comma_there : (t : Bool) → comma_ahead (62 ∷ []) 0 (flat_map dimension_text dims ++ (type_text elem ++ 62 ∷ rest)) ≡ t → t ≡ false
    no_comma_there false e = refl
    no_comma_there true e = absurd (nothing rest (element_goes elem [] rest n w (dimensions_go dims [] (type_text elem ++ 62 ∷ rest) d e)))
