-- Whether a token is a punctuation mark, by its first byte.
use Rattle.std.proofs.lemmas.List.{take_all}
use Rattle.std.proofs.Common.{take, ◌-◌, ◌<◌, ◌≤◌, length, get_or, sym, ◌∙◌, arith, ◌≡◌, ℕ, Bool, true, false, cond, List, [], ◌∷◌, drop, Option, Some, None, refl, ap}
use Rattle.std.specs.Prelude.{option_map, ◌==◌, ◌||◌}
use Rattle.std.specs.Char.{is_ascii_digit}
use Rattle.std.specs.Borrow.{Bor}
use Rattle.ir_text_tokens.specs.declared.token.Mark.{Mark}
use Rattle.ir_text_tokens.specs.declared.token.Mark.TheVariants.{End}
use Rattle.ir_text_tokens.specs.Bytes.{is_letter}
use Rattle.ir_text_tokens.specs.Tokens.{Lexeme, skip, first_token, next, next_mark, mark, string, value, label, hash, bang, symbol, quoted, mark_at, mark_with, only_mark, begins_other, token_at, sign_at, symbol_at, name_parts, number_at, string_parts, hex_len, digits_len, fraction_len}

none_if : (t : Bool) (a c : Option (Lexeme × List ℕ)) → only_mark a ≡ None → only_mark c ≡ None → only_mark (cond t a c) ≡ None
none_if true a c f g = f
none_if false a c f g = g

number_none : (bytes : List ℕ) → only_mark (number_at bytes) ≡ None
unfolding number_at
number_none bytes = none_if (hex_len bytes == 0) _ _ (none_if (fraction_len (drop (digits_len bytes) bytes) == 0) _ _ refl refl) refl

made_none : (make : List ℕ → Lexeme) → ((s rest : List ℕ) → mark_with (make s) rest ≡ None) → (o : Option (List ℕ × List ℕ)) → only_mark (option_map (λ x. (make x.0, x.1)) o) ≡ None
made_none make h None = refl
made_none make h (Some x) = h x.0 x.1

symbol_none : (bytes : List ℕ) → only_mark (symbol_at bytes) ≡ None
unfolding symbol_at
symbol_none [] = refl
symbol_none (c ∷ cs) = none_if (c == 34) _ _ (made_none quoted (λ s rest. refl) (string_parts cs)) (made_none symbol (λ s rest. refl) (name_parts (c ∷ cs)))

six : (a b c d e f : Bool) (u v w x y z m : Option (Lexeme × List ℕ)) → (a || b || c || d || e || f) ≡ true
    → only_mark u ≡ None → only_mark v ≡ None → only_mark w ≡ None → only_mark x ≡ None → only_mark y ≡ None → only_mark z ≡ None
    → only_mark (cond a u (cond b v (cond c w (cond d x (cond e y (cond f z m)))))) ≡ None
six true b c d e f u v w x y z m t p q r s g h = p
six false true c d e f u v w x y z m t p q r s g h = q
six false false true d e f u v w x y z m t p q r s g h = r
six false false false true e f u v w x y z m t p q r s g h = s
six false false false false true f u v w x y z m t p q r s g h = g
six false false false false false true u v w x y z m t p q r s g h = h
six false false false false false false u v w x y z m t p q r s g h = absurd (cc)

sign_none : (b : ℕ) (bs : List ℕ) → (b == 34 || b == 37 || b == 94 || b == 35 || b == 33 || b == 64) ≡ true → only_mark (sign_at b bs) ≡ None
sign_none b bs e =
    six (b == 34) (b == 37) (b == 94) (b == 35) (b == 33) (b == 64) _ _ _ _ _ _ _ e
    (made_none string (λ s rest. refl) (string_parts bs))
    (made_none value (λ s rest. refl) (name_parts bs))
    (made_none label (λ s rest. refl) (name_parts bs))
    (made_none hash (λ s rest. refl) (name_parts bs))
    (made_none bang (λ s rest. refl) (name_parts bs))
    (symbol_none bs)

three : (d l s : Bool) (n w g : Option (Lexeme × List ℕ)) → (d || l || s) ≡ true → only_mark n ≡ None → only_mark w ≡ None → (s ≡ true → only_mark g ≡ None) → only_mark (cond d n (cond l w g)) ≡ None
three true l s n w g e p q r = p
three false true s n w g e p q r = q
three false false s n w g e p q r = r e

-- a token that begins with such a byte is no mark
pub other_is_none : (b : ℕ) (bs : List ℕ) → begins_other b ≡ true → only_mark (token_at b bs) ≡ None
other_is_none b bs e = three (is_ascii_digit b) (is_letter b) _ _ _ _ e (number_none (b ∷ bs)) refl (sign_none b bs)

past : (a b c d e f : Bool) (u v w x y z m : Option (Lexeme × List ℕ)) → (a || b || c || d || e || f) ≡ false → cond a u (cond b v (cond c w (cond d x (cond e y (cond f z m))))) ≡ m
past false false false false false false u v w x y z m t = refl
past true b c d e f u v w x y z m t = absurd (cc)
past false true c d e f u v w x y z m t = absurd (cc)
past false false true d e f u v w x y z m t = absurd (cc)
past false false false true e f u v w x y z m t = absurd (cc)
past false false false false true f u v w x y z m t = absurd (cc)
past false false false false false true u v w x y z m t = absurd (cc)

trailing : (d l s : Bool) (n w g m : Option (Lexeme × List ℕ)) → (d || l || s) ≡ false → (s ≡ false → g ≡ m) → cond d n (cond l w g) ≡ m
trailing true l s n w g m e r = absurd (cc)
trailing false true s n w g m e r = absurd (cc)
trailing false false s n w g m e r = r e

-- a token that begins with any other byte is a mark or nothing
pub mark_is_one : (b : ℕ) (bs : List ℕ) → begins_other b ≡ false → token_at b bs ≡ mark_at b bs
mark_is_one b bs e = trailing (is_ascii_digit b) (is_letter b) _ _ _ _ _ e (λ f. past (b == 34) (b == 37) (b == 94) (b == 35) (b == 33) (b == 64) _ _ _ _ _ _ _ f)

-- the mark that was found is the token's mark
pub found_mark : (r : Option (Mark × List ℕ)) → only_mark (option_map (λ x. (mark x.0, x.1)) r) ≡ r
found_mark None = refl
found_mark (Some x) = refl

-- ---- the next mark by the text after blanks

pub no_byte : (bytes all : List ℕ) → all ≡ skip bytes → length all < 1 → Some (End, all) ≡ next_mark bytes
unfolding next_mark next
no_byte bytes [] e l = ap (λ s. only_mark (first_token s)) e
no_byte bytes (b ∷ bs) e l = absurd (omega (arith, l))

pub other_byte : (bytes all : List ℕ) → all ≡ skip bytes → 1 ≤ length all → begins_other (get_or all 0 0) ≡ true → None ≡ next_mark bytes
unfolding next_mark next
other_byte bytes [] e l t = absurd (omega (arith, l))
other_byte bytes (b ∷ bs) e l t = sym (other_is_none b bs t) ∙ ap (λ s. only_mark (first_token s)) e

by_view : (o : Option (Mark × Bor (List ℕ))) → option_map (λ x. (mark x.0, x.1)) (option_map {U = Mark × List ℕ} (λ x. (x.0, x.1.now)) o) ≡ option_map {U = Lexeme × List ℕ} (λ x. (mark x.0, x.1.now)) o
by_view None = refl
by_view (Some x) = refl

pub mark_byte : (bytes all : List ℕ) (o : Option (Mark × Bor (List ℕ))) → all ≡ skip bytes → 1 ≤ length all → begins_other (get_or all 0 0) ≡ false → option_map {U = Lexeme × List ℕ} (λ x. (mark x.0, x.1.now)) o ≡ mark_at (get_or all 0 0) (take (length all - 1) (drop 1 all))
    → option_map {U = Mark × List ℕ} (λ x. (x.0, x.1.now)) o ≡ next_mark bytes
unfolding next_mark next
mark_byte bytes [] o e l t h = absurd (omega (arith, l))
mark_byte bytes (b ∷ bs) o e l t h =
    let all : take (length (b ∷ bs) - 1) bs ≡ bs = take_all (length (b ∷ bs) - 1) bs (omega arith) in
    sym (found_mark (option_map {U = Mark × List ℕ} (λ x. (x.0, x.1.now)) o)) ∙ ap only_mark (by_view o ∙ h ∙ ap (mark_at b) all ∙ sym (mark_is_one b bs t)) ∙ ap (λ s. only_mark (first_token s)) e
