-- A mark that is the next token.
use Rattle.std.proofs.Common.{◌≡◌, ◌∙◌, ℕ, Bool, true, false, cond, List, [], ◌∷◌, Option, Some, None, refl, sym, ap, subst}
use Rattle.std.specs.Prelude.{option_and_then, option_map, ◌==◌, if◌then◌else◌}
use Rattle.std.proofs.lemmas.Bool.{eqb-true}
use Rattle.std.proofs.lemmas.Option.{same_Some}
use Rattle.ir_text_tokens.specs.declared.token.Mark.{Mark}
use Rattle.ir_text_tokens.specs.declared.token.Mark.TheVariants.{OpenRound, CloseRound, OpenCurly, CloseCurly, OpenSquare, CloseSquare, Less, Greater, Comma, Equal, Colon, DoubleColon, Minus, Arrow, Question, Star, End}
use Rattle.ir_text_tokens.specs.Tokens.{Lexeme, mark, integer, float, string, bare, value, label, hash, bang, symbol, quoted, skip, next, next_mark, only_mark, first_token, token_at, mark_at, mark_of, longer, begins_other, trailing_first}
use Rattle.ir_text_tokens.proofs.Marks.{other_is_none, mark_is_one}
use Rattle.ir_text_types.specs.Marks.{mark_code, is_single, is_mark, after}

-- the rest of the text after the mark that was found, if it is m
abbrev picked : Mark → Option (Mark × List ℕ) → Option (List ℕ)
picked m o = option_and_then (λ (x : Mark × List ℕ). if mark_code x.0 == mark_code m then Some x.1 else None) o

of_token : (m : Mark) (o : Option (Lexeme × List ℕ)) → option_and_then (λ t. if is_mark m t.0 then Some t.1 else None) o ≡ picked m (only_mark o)
of_token m None = refl
of_token m (Some (mark k, rest)) = refl
of_token m (Some (integer s, rest)) = refl
of_token m (Some (float s, rest)) = refl
of_token m (Some (string s, rest)) = refl
of_token m (Some (bare s, rest)) = refl
of_token m (Some (value s, rest)) = refl
of_token m (Some (label s, rest)) = refl
of_token m (Some (hash s, rest)) = refl
of_token m (Some (bang s, rest)) = refl
of_token m (Some (symbol s, rest)) = refl
of_token m (Some (quoted s, rest)) = refl

-- the rest of the text after a mark, given the mark that is the next token
pub after_is : (m : Mark) (bytes : List ℕ) → after m bytes ≡ picked m (next_mark bytes)
unfolding after next_mark
after_is m bytes = of_token m (next bytes)

-- ---- a mark of one byte

-- its code differs from the codes of the other marks
abbrev Others : Mark → Type 0
Others m = ((58 == mark_code m) ≡ false) × ((2 == mark_code m) ≡ false) × ((45 == mark_code m) ≡ false) × ((1 == mark_code m) ≡ false) × ((0 == mark_code m) ≡ false)

others : (m : Mark) → is_single m ≡ true → Others m
others OpenRound e = (refl, refl, refl, refl, refl)
others CloseRound e = (refl, refl, refl, refl, refl)
others OpenCurly e = (refl, refl, refl, refl, refl)
others CloseCurly e = (refl, refl, refl, refl, refl)
others OpenSquare e = (refl, refl, refl, refl, refl)
others CloseSquare e = (refl, refl, refl, refl, refl)
others Less e = (refl, refl, refl, refl, refl)
others Greater e = (refl, refl, refl, refl, refl)
others Comma e = (refl, refl, refl, refl, refl)
others Equal e = (refl, refl, refl, refl, refl)
others Colon e = absurd (cc)
others DoubleColon e = absurd (cc)
others Minus e = absurd (cc)
others Arrow e = absurd (cc)
others Question e = (refl, refl, refl, refl, refl)
others Star e = (refl, refl, refl, refl, refl)
others End e = absurd (cc)

-- a mark of one byte is the token that its byte begins
own : (m : Mark) (bs : List ℕ) → is_single m ≡ true → picked m (only_mark (token_at (mark_code m) bs)) ≡ Some bs
own OpenRound bs e = refl
own CloseRound bs e = refl
own OpenCurly bs e = refl
own CloseCurly bs e = refl
own OpenSquare bs e = refl
own CloseSquare bs e = refl
own Less bs e = refl
own Greater bs e = refl
own Comma bs e = refl
own Equal bs e = refl
own Colon bs e = absurd (cc)
own DoubleColon bs e = absurd (cc)
own Minus bs e = absurd (cc)
own Arrow bs e = absurd (cc)
own Question bs e = refl
own Star bs e = refl
own End bs e = absurd (cc)

-- the code of a mark of one byte is the byte
coded : (c : ℕ) (t : Bool) (j k : Mark) (others : Option Mark) → cond t (Some j) others ≡ Some k → (t ≡ true → mark_code j ≡ c) → (others ≡ Some k → mark_code k ≡ c) → mark_code k ≡ c
coded c true j k others e f g = subst (λ x. mark_code x ≡ c) (same_Some j k e) (f refl)
coded c false j k others e f g = g e

by_byte : (c n : ℕ) → (c == n) ≡ true → n ≡ c
by_byte c n e = sym (eqb-true c n e)

code_is : (c : ℕ) (k : Mark) → mark_of c ≡ Some k → mark_code k ≡ c
code_is c k e =
    coded c (c == 40) OpenRound k _ e (by_byte c 40) (λ e. coded c (c == 41) CloseRound k _ e (by_byte c 41) (λ e. coded c (c == 123) OpenCurly k _ e (by_byte c 123)
    (λ e. coded c (c == 125) CloseCurly k _ e (by_byte c 125) (λ e. coded c (c == 91) OpenSquare k _ e (by_byte c 91) (λ e. coded c (c == 93) CloseSquare k _ e (by_byte c 93)
    (λ e. coded c (c == 60) Less k _ e (by_byte c 60) (λ e. coded c (c == 62) Greater k _ e (by_byte c 62) (λ e. coded c (c == 44) Comma k _ e (by_byte c 44)
    (λ e. coded c (c == 61) Equal k _ e (by_byte c 61) (λ e. coded c (c == 63) Question k _ e (by_byte c 63) (λ e. coded c (c == 42) Star k _ e (by_byte c 42) (λ e. absurd (cc)))))))))))))

not_if : (m : Mark) (t : Bool) (a b : Option (Lexeme × List ℕ)) → picked m (only_mark a) ≡ None → picked m (only_mark b) ≡ None → picked m (only_mark (cond t a b)) ≡ None
not_if m true a b f g = f
not_if m false a b f g = g

not_longer : (m : Mark) (c : ℕ) (long short : Mark) (bs : List ℕ) → (mark_code long == mark_code m) ≡ false → (mark_code short == mark_code m) ≡ false → picked m (only_mark (longer c long short bs)) ≡ None
not_longer m c long short [] f g = rw g refl
not_longer m c long short (b ∷ bs) f g = not_if m (b == c) _ _ (rw f refl) (rw g refl)

not_of : (m : Mark) (c : ℕ) (bs : List ℕ) (o : Option Mark) → ((k : Mark) → o ≡ Some k → mark_code k ≡ c) → (c == mark_code m) ≡ false → picked m (only_mark (option_map (λ k. (mark k, bs)) o)) ≡ None
not_of m c bs None code e = refl
not_of m c bs (Some k) code e = rw (code k refl, e) refl

not_mark : (m : Mark) (c : ℕ) (bs : List ℕ) → is_single m ≡ true → (c == mark_code m) ≡ false → picked m (only_mark (mark_at c bs)) ≡ None
not_mark m c bs single e =
    let far = others m single in
    not_if m (c == 58) _ _ (not_longer m 58 DoubleColon Colon bs far.1 far.0) (not_if m (c == 45) _ _ (not_longer m 62 Arrow Minus bs far.3 far.2) (not_of m c bs (mark_of c) (code_is c) e))

no_token : (m : Mark) (c : ℕ) (bs : List ℕ) → picked m (only_mark (mark_at c bs)) ≡ None → picked m (only_mark (token_at c bs)) ≡ None
no_token m c bs e =
    (elim (begins_other c) as (λ t. begins_other c ≡ t → picked m (only_mark (token_at c bs)) ≡ None) [
      | true ↦ λ t. ap (picked m) (other_is_none c bs t)
      | false ↦ λ t. ap (λ o. picked m (only_mark o)) (mark_is_one c bs t) ∙ e
    ]) refl

not_token : (m : Mark) (c : ℕ) (bs : List ℕ) → is_single m ≡ true → (c == mark_code m) ≡ false → picked m (only_mark (token_at c bs)) ≡ None
not_token m c bs single e = no_token m c bs (not_mark m c bs single e)

first_is : (m : Mark) (bytes : List ℕ) → is_single m ≡ true → picked m (only_mark (first_token bytes)) ≡ trailing_first (mark_code m) bytes
first_is m [] single = rw (others m single).4 refl
first_is m (c ∷ cs) single =
    (elim (c == mark_code m) as (λ t. (c == mark_code m) ≡ t → picked m (only_mark (token_at c cs)) ≡ cond t (Some cs) None) [
      | true ↦ λ t. ap (λ b. picked m (only_mark (token_at b cs))) (eqb-true c (mark_code m) t) ∙ own m cs single
      | false ↦ λ t. not_token m c cs single t
    ]) refl

-- a mark of one byte is next if its byte is the first one after blanks
pub single_is : (m : Mark) (bytes : List ℕ) → is_single m ≡ true → after m bytes ≡ trailing_first (mark_code m) (skip bytes)
unfolding next_mark next
single_is m bytes single = after_is m bytes ∙ first_is m (skip bytes) single

-- ---- a colon, and an arrow

-- the rest of the text after a colon, given the text after its byte
abbrev pub colon_after : Option (List ℕ) → Option (List ℕ)
colon_after None = None
colon_after (Some []) = Some []
colon_after (Some (c ∷ cs)) = if c == 58 then None else Some (c ∷ cs)

-- the same for an arrow
abbrev pub arrow_after : Option (List ℕ) → Option (List ℕ)
arrow_after None = None
arrow_after (Some bs) = trailing_first 62 bs

if_other : (m : Mark) (t : Bool) (a b : Option (Lexeme × List ℕ)) → t ≡ false → picked m (only_mark b) ≡ None → picked m (only_mark (cond t a b)) ≡ None
if_other m true a b e f = absurd cc
if_other m false a b e f = f

no_colon : (c : ℕ) (bs : List ℕ) → (c == 58) ≡ false → picked Colon (only_mark (mark_at c bs)) ≡ None
no_colon c bs e = if_other Colon (c == 58) _ _ e (not_if Colon (c == 45) _ _ (not_longer Colon 62 Arrow Minus bs refl refl) (not_of Colon c bs (mark_of c) (code_is c) e))

colon_token : (bs : List ℕ) → picked Colon (only_mark (token_at 58 bs)) ≡ colon_after (Some bs)
colon_token [] = refl
colon_token (c ∷ cs) = elim (c == 58) as (λ t. picked Colon (only_mark (cond t (Some (mark DoubleColon, cs)) (Some (mark Colon, c ∷ cs)))) ≡ cond t None (Some (c ∷ cs))) [ true ↦ refl | false ↦ refl ]

colon_first : (bytes : List ℕ) → picked Colon (only_mark (first_token bytes)) ≡ colon_after (trailing_first 58 bytes)
colon_first [] = refl
colon_first (c ∷ cs) =
    (elim (c == 58) as (λ t. (c == 58) ≡ t → picked Colon (only_mark (token_at c cs)) ≡ colon_after (cond t (Some cs) None)) [
      | true ↦ λ t. ap (λ b. picked Colon (only_mark (token_at b cs))) (eqb-true c 58 t) ∙ colon_token cs
      | false ↦ λ t. no_token Colon c cs (no_colon c cs t)
    ]) refl

pub colon_is : (bytes : List ℕ) → after Colon bytes ≡ colon_after (trailing_first 58 (skip bytes))
unfolding next_mark next
colon_is bytes = after_is Colon bytes ∙ colon_first (skip bytes)

-- the byte that is the code of an arrow begins no mark
no_arrow : (c : ℕ) (bs : List ℕ) → (c == 45) ≡ false → picked Arrow (only_mark (mark_at c bs)) ≡ None
no_arrow c bs e = not_if Arrow (c == 58) _ _ (not_longer Arrow 58 DoubleColon Colon bs refl refl) (if_other Arrow (c == 45) _ _ e (no_of c bs))
  where
    no_of : (c : ℕ) (bs : List ℕ) → picked Arrow (only_mark (option_map (λ k. (mark k, bs)) (mark_of c))) ≡ None
    no_of c bs =
        (elim (c == 1) as (λ t. (c == 1) ≡ t → picked Arrow (only_mark (option_map (λ k. (mark k, bs)) (mark_of c))) ≡ None) [
          | true ↦ λ t. ap (λ b. picked Arrow (only_mark (option_map (λ k. (mark k, bs)) (mark_of b)))) (eqb-true c 1 t)
          | false ↦ λ t. not_of Arrow c bs (mark_of c) (code_is c) t
        ]) refl

arrow_token : (bs : List ℕ) → picked Arrow (only_mark (token_at 45 bs)) ≡ arrow_after (Some bs)
arrow_token [] = refl
arrow_token (c ∷ cs) = elim (c == 62) as (λ t. picked Arrow (only_mark (cond t (Some (mark Arrow, cs)) (Some (mark Minus, c ∷ cs)))) ≡ cond t (Some cs) None) [ true ↦ refl | false ↦ refl ]

arrow_first : (bytes : List ℕ) → picked Arrow (only_mark (first_token bytes)) ≡ arrow_after (trailing_first 45 bytes)
arrow_first [] = refl
arrow_first (c ∷ cs) =
    (elim (c == 45) as (λ t. (c == 45) ≡ t → picked Arrow (only_mark (token_at c cs)) ≡ arrow_after (cond t (Some cs) None)) [
      | true ↦ λ t. ap (λ b. picked Arrow (only_mark (token_at b cs))) (eqb-true c 45 t) ∙ arrow_token cs
      | false ↦ λ t. no_token Arrow c cs (no_arrow c cs t)
    ]) refl

pub arrow_is : (bytes : List ℕ) → after Arrow bytes ≡ arrow_after (trailing_first 45 (skip bytes))
unfolding next_mark next
arrow_is bytes = after_is Arrow bytes ∙ arrow_first (skip bytes)
