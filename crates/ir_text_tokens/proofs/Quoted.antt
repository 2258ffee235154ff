-- Strings of word bytes end at the first byte that can't be in a word.
use Rattle.std.proofs.Common.{◌≡◌, refl, ap, ◌∙◌, sym, ℕ, zero, suc, Bool, true, false, cond, List, [], ◌∷◌, take, Option, Some, None, eqb, arith}
use Rattle.std.specs.Prelude.{◌==◌, slice_get, option_map}
use Rattle.std.specs.List.{prefix_len}
use Rattle.std.proofs.lemmas.Bool.Decides.{nat_tests}
use Rattle.std.proofs.lemmas.Option.{none-some, same_Some}
use Rattle.ir_text_tokens.specs.Bytes.{is_word, is_line_end}
use Rattle.ir_text_tokens.specs.Strings.{closing, string_bytes}

-- a word byte is no quote, no backslash and no line end
no_quote : (c : ℕ) → is_word c ≡ true → (c == 34) ≡ false
no_quote c h = grind (arith, nat_tests)

no_escape : (c : ℕ) → is_word c ≡ true → (c == 92) ≡ false
no_escape c h = grind (arith, nat_tests)

no_line : (c : ℕ) → is_word c ≡ true → is_line_end c ≡ false
no_line c h = grind (arith, nat_tests)

after_word : (c : ℕ) (cs : List ℕ) → is_word c ≡ true → closing (c ∷ cs) ≡ option_map suc (closing cs)
unfolding closing
after_word c cs h = rw (no_quote c h, no_escape c h, no_line c h) refl

at_quote : (c : ℕ) (cs : List ℕ) → c ≡ 34 → closing (c ∷ cs) ≡ Some 0
unfolding closing
at_quote c cs e = rw e refl

one_more : (c : ℕ) (cs : List ℕ) → is_word c ≡ true → prefix_len is_word (c ∷ cs) ≡ suc (prefix_len is_word cs)
one_more c cs t = rw t (omega arith)

pub closing_word : (bytes : List ℕ) → slice_get bytes (prefix_len is_word bytes) ≡ Some 34 → closing bytes ≡ Some (prefix_len is_word bytes)
closing_word [] e = absurd (none-some 34 e)
closing_word (c ∷ cs) e = by_byte (closing_word cs) (is_word c) refl
  where
    by_byte : (slice_get cs (prefix_len is_word cs) ≡ Some 34 → closing cs ≡ Some (prefix_len is_word cs)) → (b : Bool) → is_word c ≡ b → closing (c ∷ cs) ≡ Some (prefix_len is_word (c ∷ cs))
    by_byte go true h =
        let n : prefix_len is_word (c ∷ cs) ≡ suc (prefix_len is_word cs) = one_more c cs h in
        let at : slice_get cs (prefix_len is_word cs) ≡ Some 34 = ap (slice_get (c ∷ cs)) (sym n) ∙ e in
        after_word c cs h ∙ ap (option_map suc) (go at) ∙ ap Some (sym n)
    by_byte go false h =
        let n : prefix_len is_word (c ∷ cs) ≡ 0 = rw h refl in
        at_quote c cs (same_Some c 34 (ap (slice_get (c ∷ cs)) (sym n) ∙ e)) ∙ ap Some (sym n)

-- a string of word bytes denotes itself
not_escape_first : (c : ℕ) (cs : List ℕ) → is_word c ≡ true → string_bytes cs ≡ cs → string_bytes (c ∷ cs) ≡ c ∷ cs
unfolding string_bytes
not_escape_first c [] h rest = rw (no_escape c h) refl
not_escape_first c (d ∷ ds) h rest = rw (no_escape c h, rest) refl

nothing : string_bytes [] ≡ []
unfolding string_bytes
nothing = refl

pub word_string : (bytes : List ℕ) → string_bytes (take (prefix_len is_word bytes) bytes) ≡ take (prefix_len is_word bytes) bytes
word_string [] = nothing
word_string (c ∷ cs) = by_byte (word_string cs) (is_word c) refl
  where
    by_byte : string_bytes (take (prefix_len is_word cs) cs) ≡ take (prefix_len is_word cs) cs → (b : Bool) → is_word c ≡ b → string_bytes (take (prefix_len is_word (c ∷ cs)) (c ∷ cs)) ≡ take (prefix_len is_word (c ∷ cs)) (c ∷ cs)
    by_byte go true h =
        let l : take (prefix_len is_word (c ∷ cs)) (c ∷ cs) ≡ c ∷ take (prefix_len is_word cs) cs = ap (λ n. take n (c ∷ cs)) (one_more c cs h) in
        ap string_bytes l ∙ not_escape_first c (take (prefix_len is_word cs) cs) h go ∙ sym l
    by_byte go false h =
        let none : prefix_len is_word (c ∷ cs) ≡ 0 = rw h refl in
        let l : take (prefix_len is_word (c ∷ cs)) (c ∷ cs) ≡ [] = ap (λ n. take n (c ∷ cs)) none in
        ap string_bytes l ∙ nothing ∙ sym l
