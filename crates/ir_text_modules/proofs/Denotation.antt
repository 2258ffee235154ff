-- A text with nothing to remove and no definition.
use Rattle.std.proofs.Common.{◌≡◌, ◌∙◌, ◌<◌, ◌≤◌, refl, sym, ap, ℕ, zero, suc, Bool, true, false, cond, List, [], ◌∷◌, length, take, drop, Option, None, arith}
use Rattle.std.specs.Prelude.{◌==◌, ◌&&◌, ◌||◌, not, slice_index}
use Rattle.std.proofs.Math.Seq.{drop-length}
use Rattle.std.proofs.lemmas.Bool.{or_parts}
use Rattle.memchr.specs.Find.{NoneBefore, Nowhere, Passes, is_byte3}
use Rattle.ir_text_tokens.specs.Bodies.{begins, is_undivided}
use Rattle.ir_text_tokens.specs.Tokens.{skip, suffix_len}
use Rattle.ir_text_aliases.specs.Lexemes.{is_oc, lexeme_len, word_len}
use Rattle.ir_text_aliases.specs.Values.{after_equal, is_defined}
use Rattle.ir_text_modules.specs.Stays.{begins_more, has_more, stands}

-- no lexeme is what no byte begins
pub in_no_lexeme : (n : ℕ) (bytes : List ℕ) → stands bytes ≡ false → has_more n bytes ≡ false
unfolding stands has_more
in_no_lexeme n [] e = refl
in_no_lexeme (suc n) (c ∷ cs) e = in_no_lexeme n cs (or_parts (begins_more c cs) (stands cs) e).1
in_no_lexeme zero (c ∷ cs) e =
    let h = or_parts (begins_more c cs) (stands cs) e in
    rw h.0 (in_no_lexeme (lexeme_len c cs) cs h.1)

-- after a lexeme
passed : (n : ℕ) (cs : List ℕ) → has_more n cs ≡ has_more 0 (drop n cs)
unfolding has_more
passed zero cs = refl
passed (suc n) [] = refl
passed (suc n) (c ∷ cs) = passed n cs

begun : (c : ℕ) (cs : List ℕ) → begins_more c cs ≡ false → has_more 0 (c ∷ cs) ≡ has_more (lexeme_len c cs) cs
unfolding has_more
begun c cs e = rw e refl

starts : (c : ℕ) (cs : List ℕ) → begins_more c cs ≡ true → has_more 0 (c ∷ cs) ≡ true
unfolding has_more
starts c cs e = rw e refl

pub after_other : (c : ℕ) (all tail rest : List ℕ) → all ≡ c ∷ tail → begins_more c tail ≡ false → rest ≡ drop (lexeme_len c tail) tail → has_more 0 rest ≡ has_more 0 all
after_other c all tail rest a e r = ap (has_more 0) r ∙ sym (passed (lexeme_len c tail) tail) ∙ sym (begun c tail e) ∙ ap (has_more 0) (sym a)

pub found : (c : ℕ) (all tail : List ℕ) → all ≡ c ∷ tail → begins_more c tail ≡ true → has_more 0 all ≡ true
found c all tail a e = ap (has_more 0) a ∙ starts c tail e

-- ---- bytes that begin neither `loc` nor a definition

begins_none : (c : ℕ) (cs : List ℕ) → (is_byte3 108 35 33 c ≡ true → ⊥) → begins_more c cs ≡ false
begins_none c cs none = from (c == 108) (c == 35) (c == 33) (is_oc (take (word_len cs) cs)) (is_undivided (take (suffix_len cs) cs) && not (begins 60 (drop (suffix_len cs) cs))) (after_equal (skip (drop (suffix_len cs) cs))) none
  where
    from : (x y z a b : Bool) (o : Option (List ℕ)) → ((x || y || z) ≡ true → ⊥) → ((x && a) || is_defined (cond ((y || z) && b) o None)) ≡ false
    from true y z a b o none = absurd (none refl)
    from false true z a b o none = absurd (none refl)
    from false false true a b o none = absurd (none refl)
    from false false false a b o none = refl

one : (c : ℕ) (cs : List ℕ) → (is_byte3 108 35 33 c ≡ true → ⊥) → stands (c ∷ cs) ≡ stands cs
unfolding stands
one c cs none = rw (begins_none c cs none) refl

quiet : (bytes : List ℕ) (n : ℕ) → n ≤ length bytes → ((k : ℕ) → k < n → (is_byte3 108 35 33 (slice_index bytes k) ≡ true → ⊥)) → stands (drop n bytes) ≡ stands bytes
quiet bytes zero le none = refl
quiet [] (suc n) le none = refl
quiet (c ∷ cs) (suc n) le none = quiet cs n (omega (arith, le)) (λ k lt. none (suc k) (omega (arith, lt))) ∙ sym (one c cs (none 0 (omega arith)))

pub all_quiet : (bytes : List ℕ) → Nowhere (Passes (is_byte3 108 35 33) bytes) 0 (length bytes) → stands [] ≡ stands bytes
all_quiet bytes none = ap stands (sym (drop-length bytes)) ∙ quiet bytes (length bytes) (omega arith) (λ k lt. none k (omega arith) lt)

pub quiet_up_to : (bytes : List ℕ) (n : ℕ) → NoneBefore (Passes (is_byte3 108 35 33) bytes) 0 (length bytes) n → stands (drop n bytes) ≡ stands bytes
quiet_up_to bytes n h = let lt = h.high in quiet bytes n (omega (arith, lt)) (λ k lt. h.before k (omega arith) lt)
