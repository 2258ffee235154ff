-- Lexemes and their lengths.
use Rattle.std.proofs.Common.{◌≡◌, ℕ, zero, suc, ◌+◌, ◌-◌, ◌≤◌, Bool, true, false, cond, List, [], ◌∷◌, length, take, drop, Option, Some, None, refl, sym, ap, ◌∙◌, arith}
use Rattle.std.specs.Prelude.{◌==◌, ◌&&◌, not, option_map}
use Rattle.std.proofs.lemmas.List.{length-drop}
use Rattle.std.proofs.lemmas.List.Sums.{prefix_len-le-length}
use Rattle.std.proofs.lemmas.Option.{some_pair_parts}
use Rattle.std.proofs.Math.Seq.{drop-length}
use Rattle.ir_text_tokens.specs.Strings.{closing}
use Rattle.ir_text_tokens.specs.Tokens.{Lexeme, string, next, suffix_len}
use Rattle.ir_text_tokens.specs.Bytes.{is_letter, is_word}
use Rattle.ir_text_tokens.specs.Bodies.{are_slashes, begins, is_arrow, is_sign}
use Rattle.ir_text_tokens.specs.Bodies as bodies
use Rattle.ir_text_tokens.proofs.KeptBodies.{string_within, name_within, some_after}
use Rattle.ir_text_aliases.specs.Lexemes.{ends_in_arrow, is_name_sign, is_quoted, line_len, named_len, own_len, lexeme_len, quoted_len, string_len, word_len}
use Rattle.ir_text_tokens.proofs.Facts.{string_token}

-- ---- strings

pub after_string : (cs rest : List ℕ) (t : Lexeme) → next (34 ∷ cs) ≡ Some (t, rest) → rest ≡ drop (quoted_len cs) cs
after_string cs rest t e = from (closing cs) (sym (string_token cs) ∙ e)
  where
    from : (o : Option ℕ) → option_map {U = Lexeme × List ℕ} (λ (x : List ℕ × List ℕ). (string x.0, x.1)) (option_map {U = List ℕ × List ℕ} (λ n. (take n cs, drop (n + 1) cs)) o) ≡ Some (t, rest)
        → rest ≡ drop (string_len o cs) cs
    from None e = absurd cc
    from (Some n) e =
        let k : n + 1 ≡ suc n = omega arith in
        sym (some_pair_parts (string (take n cs)) t (drop (n + 1) cs) rest e).1 ∙ ap (λ m. drop m cs) k

pub open_string : (cs rest : List ℕ) → next (34 ∷ cs) ≡ None → rest ≡ drop (length cs) cs → rest ≡ drop (quoted_len cs) cs
open_string cs rest e r = from (closing cs) (sym (string_token cs) ∙ e)
  where
    from : (o : Option ℕ) → option_map {U = Lexeme × List ℕ} (λ (x : List ℕ × List ℕ). (string x.0, x.1)) (option_map {U = List ℕ × List ℕ} (λ n. (take n cs, drop (n + 1) cs)) o) ≡ None → rest ≡ drop (string_len o cs) cs
    from None e = r
    from (Some n) e = absurd cc

nothing : (n : ℕ) → take {A = ℕ} n [] ≡ []
nothing zero = refl
nothing (suc n) = refl

pub at_the_end : (cs : List ℕ) → take (length cs - length cs) (drop (length cs) cs) ≡ drop (length cs) cs
at_the_end cs = rw (drop-length cs) (nothing (length cs - length cs))

-- ---- lengths

quoted_within : (cs : List ℕ) → quoted_len cs ≤ length cs
quoted_within cs = from (closing cs) (string_within cs)
  where
    from : (o : Option ℕ) → bodies.string_len o ≤ length cs → string_len o cs ≤ length cs
    from None h = omega arith
    from (Some n) h = h

symbol_within : (c : ℕ) (cs : List ℕ) → is_quoted c cs ≡ true → suc (quoted_len (drop 1 cs)) ≤ length cs
symbol_within c [] e = from (c == 64) e
  where
    from : (t : Bool) → (t && false) ≡ true → suc (quoted_len []) ≤ 0
    from true e = absurd cc
    from false e = absurd cc
symbol_within c (d ∷ ds) e = omega (arith, quoted_within ds)

own_within : (cs : List ℕ) → own_len cs ≤ length cs
own_within cs = from (ends_in_arrow cs (suffix_len cs)) (name_within cs)
  where
    from : (t : Bool) → suffix_len cs ≤ length cs → cond t (suffix_len cs - 1) (suffix_len cs) ≤ length cs
    from true h = omega (arith, h)
    from false h = h

named_within : (c : ℕ) (cs : List ℕ) → named_len c cs ≤ length cs
named_within c cs = from (is_sign c)
  where
    from : (t : Bool) → cond t (suffix_len cs) (own_len cs) ≤ length cs
    from true = name_within cs
    from false = own_within cs

pub lexeme_within : (c : ℕ) (cs : List ℕ) → lexeme_len c cs ≤ length cs
lexeme_within c cs = from (c == 34) (is_quoted c cs) refl (are_slashes c cs) (is_name_sign c) (is_letter c) (is_arrow c cs) refl
  where
    from : (t q : Bool) → is_quoted c cs ≡ q → (s u l v : Bool) → is_arrow c cs ≡ v
        → cond t (quoted_len cs) (cond q (suc (quoted_len (drop 1 cs))) (cond s (line_len cs) (cond u (named_len c cs) (cond l (word_len cs) (cond v 1 0))))) ≤ length cs
    from true q k s u l v e = quoted_within cs
    from false true k s u l v e = symbol_within c cs k
    from false false k true u l v e = prefix_len-le-length (λ b. not (b == 10)) cs
    from false false k false true l v e = named_within c cs
    from false false k false false true v e = prefix_len-le-length is_word cs
    from false false k false false false true e = some_after c cs e
    from false false k false false false false e = omega arith

-- the prefix that was read
pub scanned_is : (c n : ℕ) (all tail rest : List ℕ) → all ≡ c ∷ tail → n ≤ length tail → rest ≡ drop n tail → take (length all - length rest) all ≡ c ∷ take n tail
scanned_is c n all tail rest a le r =
    let k : length all - length rest ≡ suc n = omega (arith, ap length a, ap length r, length-drop n tail) in
    rw (k, a) refl
