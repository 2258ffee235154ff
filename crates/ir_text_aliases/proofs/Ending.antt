-- The rest of the text after a value is a suffix of the text.
use Rattle.std.proofs.Common.{◌≡◌, ℕ, zero, suc, Bool, true, false, cond, List, [], ◌∷◌, length, drop, Option, Some, None, refl, ap, subst}
use Rattle.std.specs.Prelude.{◌==◌, ◌&&◌, ◌||◌, Ok, Err}
use Rattle.ir_text_tokens.specs.declared.refusal.TextRefusal.{TextRefusal}
use Rattle.ir_text_tokens.specs.declared.refusal.TextRefusal.TheVariants.{LeftOut, Unexpected}
use Rattle.ir_text_tokens.specs.Tokens.{Lexeme, mark, integer, float, string, bare, value, label, hash, bang, symbol, quoted, trailing_first, next, skip}
use Rattle.ir_text_tokens.proofs.Precedings.{next_preceding}
use Rattle.ir_text_tokens.specs.Bodies.{begins, has_dot, is_arrow, refused_at}
use Rattle.ir_text_aliases.specs.Lexemes.{from_quote, lexeme_len}
use Rattle.ir_text_aliases.specs.Values.{Ends, coming_after, enclosed, group_end, unless, value_fault}
use Rattle.ir_text_aliases.specs.Words.{is_distinct, is_element, is_listed, is_lone, is_place_word, is_scalar, is_shaped}
use Rattle.ir_text_aliases.specs.Terms.{arrow_end, at_token, attr_end, attr_from, begins_digit, trailing, after_colons, distinct_end, elements_end, function_end, hash_end, name_end, needed_end, number_end, number_from, plain_attr_end, plain_type_end, results_end, symbol_end, symbol_from, symbols_end, symbols_or, type_end, type_from, type_or, typed_end, value_end, word_end, word_type_end}
use Rattle.ir_text_aliases.proofs.Tails.{IsTail, dropped, longer, same, skipped, within}

abbrev rest_of : Ends → List ℕ
rest_of (Ok rest) = rest
rest_of (Err fault) = []

here : (bs r : List ℕ) → ◌≡◌ {A = Ends} (Ok bs) (Ok r) → IsTail bs r
here bs r e = subst (IsTail bs) (ap rest_of e) (same bs)

-- the results of the function are suffixes of its argument
abbrev AreTails : (List ℕ → Ends) → Type 0
AreTails f = (bs r : List ℕ) → f bs ≡ Ok r → IsTail bs r

skipped_to : (f : List ℕ → Ends) → AreTails f → (bs r : List ℕ) → f (skip bs) ≡ Ok r → IsTail bs r
skipped_to f h bs r e = within bs (skip bs) r (skipped bs) (h (skip bs) r e)

one_more : (x : Ends) (more : List ℕ → Ends) (bs r : List ℕ) → ((m : List ℕ) → x ≡ Ok m → IsTail bs m) → AreTails more → trailing x more ≡ Ok r → IsTail bs r
one_more (Ok m) more bs r h k e = within bs m r (h m refl) (k m r e)
one_more (Err fault) more bs r h k e = absurd cc

-- ---- groups

grouped : (os : List ℕ) (n : ℕ) (bs r : List ℕ) → group_end os n bs ≡ Ok r → IsTail bs r
unfolding group_end
grouped [] n bs r e = subst (IsTail bs) (ap rest_of e) (dropped n bs)
grouped (o ∷ os) n [] r e = absurd cc
grouped (o ∷ os) (suc n) (c ∷ cs) r e = longer c cs r (grouped (o ∷ os) n cs r e)
grouped (o ∷ os) zero (c ∷ cs) r e = from (value_fault c cs (o ∷ os)) e (grouped (coming_after c (o ∷ os)) (lexeme_len c cs) cs r)
  where
    from : (x : Option TextRefusal) → unless x (from_quote c cs) (group_end (coming_after c (o ∷ os)) (lexeme_len c cs) cs) ≡ Ok r → (group_end (coming_after c (o ∷ os)) (lexeme_len c cs) cs ≡ Ok r → IsTail cs r) → IsTail (c ∷ cs) r
    from None k h = longer c cs r (h k)
    from (Some x) k h = absurd cc

enclosed_tail : (first closer : ℕ) → AreTails (enclosed first closer)
enclosed_tail first closer [] r e = absurd cc
enclosed_tail first closer (c ∷ cs) r e = from (c == first) e
  where
    from : (t : Bool) → cond t (group_end (closer ∷ []) 0 cs) (refused_at Unexpected (c ∷ cs)) ≡ Ok r → IsTail (c ∷ cs) r
    from true k = longer c cs r (grouped (closer ∷ []) 0 cs r k)
    from false k = absurd cc

next_enclosed : (first closer : ℕ) (bs r : List ℕ) → enclosed first closer (skip bs) ≡ Ok r → IsTail bs r
next_enclosed first closer = skipped_to (enclosed first closer) (enclosed_tail first closer)

-- ---- tokens

token_tail : (bs rest : List ℕ) (t : Lexeme) → next bs ≡ Some (t, rest) → IsTail bs rest
token_tail bs rest t e = within bs (skip bs) rest (skipped bs) (_, next_preceding bs rest t e)

abbrev FollowTokens : (List ℕ → Lexeme → List ℕ → Ends) → Type 0
FollowTokens f = (all : List ℕ) (t : Lexeme) (rest r : List ℕ) → f all t rest ≡ Ok r → IsTail rest r

by_token : (f : List ℕ → Lexeme → List ℕ → Ends) → FollowTokens f → (bs : List ℕ) (o : Option (Lexeme × List ℕ)) → next bs ≡ o → (r : List ℕ) → at_token f bs o ≡ Ok r → IsTail bs r
by_token f h bs None n r e = absurd cc
by_token f h bs (Some t) n r e = within bs t.1 r (token_tail bs t.1 t.0 n) (h bs t.0 t.1 r e)

-- ---- types

name_tail : (all name rest r : List ℕ) → name_end all name rest ≡ Ok r → IsTail rest r
name_tail all name rest r e = from (begins 60 rest) (begins_digit name) e
  where
    from : (t u : Bool) → cond t (enclosed 60 62 rest) (cond u (refused_at LeftOut all) (Ok rest)) ≡ Ok r → IsTail rest r
    from true u k = enclosed_tail 60 62 rest r k
    from false true k = absurd cc
    from false false k = here rest r k

word_type_tail : (all word rest r : List ℕ) → word_type_end all word rest ≡ Ok r → IsTail rest r
word_type_tail all word rest r e = from (is_shaped word) (is_scalar word) e
  where
    from : (t u : Bool) → cond t (enclosed 60 62 (skip rest)) (cond u (Ok rest) (refused_at Unexpected all)) ≡ Ok r → IsTail rest r
    from true u k = next_enclosed 60 62 rest r k
    from false true k = here rest r k
    from false false k = absurd cc

types_follow : FollowTokens type_from
types_follow all (bare word) rest r e = word_type_tail all word rest r e
types_follow all (bang name) rest r e = name_tail all name rest r e
types_follow all (mark m) rest r e = absurd cc
types_follow all (integer s) rest r e = absurd cc
types_follow all (float s) rest r e = absurd cc
types_follow all (string s) rest r e = absurd cc
types_follow all (value s) rest r e = absurd cc
types_follow all (label s) rest r e = absurd cc
types_follow all (hash s) rest r e = absurd cc
types_follow all (symbol s) rest r e = absurd cc
types_follow all (quoted s) rest r e = absurd cc

plain_type_tail : AreTails plain_type_end
unfolding plain_type_end
plain_type_tail bs r e = by_token type_from types_follow bs (next bs) refl r e

results_tail : AreTails results_end
results_tail bs r e = from (begins 40 bs) e
  where
    from : (t : Bool) → cond t (enclosed 40 41 bs) (plain_type_end bs) ≡ Ok r → IsTail bs r
    from true k = enclosed_tail 40 41 bs r k
    from false k = plain_type_tail bs r k

arrow_tail : AreTails arrow_end
arrow_tail [] r e = absurd cc
arrow_tail (c ∷ cs) r e = from (is_arrow c cs) e
  where
    from : (t : Bool) → cond t (results_end (skip (drop 1 cs))) (refused_at Unexpected (c ∷ cs)) ≡ Ok r → IsTail (c ∷ cs) r
    from true k = longer c cs r (within cs (drop 1 cs) r (dropped 1 cs) (skipped_to results_end results_tail (drop 1 cs) r k))
    from false k = absurd cc

function_tail : AreTails function_end
unfolding function_end
function_tail bs r e = one_more (enclosed 40 41 bs) (λ rest. arrow_end (skip rest)) bs r (λ m k. enclosed_tail 40 41 bs m k) (λ m r k. skipped_to arrow_end arrow_tail m r k) e

type_tail : AreTails type_end
type_tail bs r e = from (begins 40 bs) e
  where
    from : (t : Bool) → cond t (function_end bs) (plain_type_end bs) ≡ Ok r → IsTail bs r
    from true k = function_tail bs r k
    from false k = plain_type_tail bs r k

-- ---- a type after a colon

first_tail : (b : ℕ) (bs rest : List ℕ) → trailing_first b bs ≡ Some rest → IsTail bs rest
first_tail b [] rest e = absurd cc
first_tail b (c ∷ cs) rest e = from (c == b) e
  where
    in' : Option (List ℕ) → List ℕ
    in' None = []
    in' (Some v) = v

    from : (t : Bool) → cond t (Some cs) None ≡ Some rest → IsTail (c ∷ cs) rest
    from true k = subst (IsTail (c ∷ cs)) (ap in' k) (longer c cs cs (same cs))
    from false k = absurd cc

colon_tail : (bs rest : List ℕ) → trailing_first 58 (skip bs) ≡ Some rest → IsTail bs rest
colon_tail bs rest e = within bs (skip bs) rest (skipped bs) (first_tail 58 (skip bs) rest e)

or_tail : (other : Ends) (bs r : List ℕ) (o : Option (List ℕ)) → trailing_first 58 (skip bs) ≡ o → (other ≡ Ok r → IsTail bs r) → type_or other o ≡ Ok r → IsTail bs r
or_tail other bs r None n h e = h e
or_tail other bs r (Some rest) n h e = within bs rest r (colon_tail bs rest n) (skipped_to type_end type_tail rest r e)

typed_tail : AreTails typed_end
unfolding typed_end
typed_tail bs r e = or_tail (Ok bs) bs r (trailing_first 58 (skip bs)) refl (λ k. here bs r k) e

needed_tail : AreTails needed_end
unfolding needed_end
needed_tail bs r e = or_tail (refused_at Unexpected (skip bs)) bs r (trailing_first 58 (skip bs)) refl (λ k. absurd cc) e

-- ---- attributes

numbers_follow : FollowTokens number_from
numbers_follow all (integer s) rest r e = typed_tail rest r e
numbers_follow all (float s) rest r e = typed_tail rest r e
numbers_follow all (bare word) rest r e = absurd cc
numbers_follow all (bang name) rest r e = absurd cc
numbers_follow all (mark m) rest r e = absurd cc
numbers_follow all (string s) rest r e = absurd cc
numbers_follow all (value s) rest r e = absurd cc
numbers_follow all (label s) rest r e = absurd cc
numbers_follow all (hash s) rest r e = absurd cc
numbers_follow all (symbol s) rest r e = absurd cc
numbers_follow all (quoted s) rest r e = absurd cc

number_tail : AreTails number_end
unfolding number_end
number_tail bs r e = by_token number_from numbers_follow bs (next bs) refl r e

hash_tail : (all name rest r : List ℕ) → hash_end all name rest ≡ Ok r → IsTail rest r
hash_tail all name rest r e = from (begins 60 rest || has_dot name) e
  where
    from : (t : Bool) → cond t (trailing (name_end all name rest) typed_end) (name_end all name rest) ≡ Ok r → IsTail rest r
    from true k = one_more (name_end all name rest) typed_end rest r (λ m k. name_tail all name rest m k) typed_tail k
    from false k = name_tail all name rest r k

elements_tail : AreTails elements_end
elements_tail bs r e = one_more (enclosed 60 62 bs) needed_end bs r (λ m k. enclosed_tail 60 62 bs m k) needed_tail e

distinct_tail : AreTails distinct_end
distinct_tail bs r e = one_more (enclosed 91 93 bs) (λ rest. enclosed 60 62 (skip rest)) bs r (λ m k. enclosed_tail 91 93 bs m k) (λ m r k. next_enclosed 60 62 m r k) e

word_tail : (all word rest r : List ℕ) → word_end all word rest ≡ Ok r → IsTail rest r
word_tail all word rest r e = from (is_lone word) (is_element word) (is_listed word) (is_place_word word) (is_distinct word) e
  where
    from : (t u v w x : Bool)
        → cond t (Ok rest) (cond u (elements_end (skip rest)) (cond v (enclosed 60 62 (skip rest)) (cond w (enclosed 40 41 (skip rest)) (cond x (distinct_end (skip rest)) (word_type_end all word rest))))) ≡ Ok r
        → IsTail rest r
    from true u v w x k = here rest r k
    from false true v w x k = skipped_to elements_end elements_tail rest r k
    from false false true w x k = next_enclosed 60 62 rest r k
    from false false false true x k = next_enclosed 40 41 rest r k
    from false false false false true k = skipped_to distinct_end distinct_tail rest r k
    from false false false false false k = word_type_tail all word rest r k

symbols_follow : FollowTokens symbol_from
symbols_follow all (symbol s) rest r e = here rest r e
symbols_follow all (quoted s) rest r e = here rest r e
symbols_follow all (integer s) rest r e = absurd cc
symbols_follow all (float s) rest r e = absurd cc
symbols_follow all (bare word) rest r e = absurd cc
symbols_follow all (bang name) rest r e = absurd cc
symbols_follow all (mark m) rest r e = absurd cc
symbols_follow all (string s) rest r e = absurd cc
symbols_follow all (value s) rest r e = absurd cc
symbols_follow all (label s) rest r e = absurd cc
symbols_follow all (hash s) rest r e = absurd cc

symbol_tail : AreTails symbol_end
unfolding symbol_end
symbol_tail bs r e = by_token symbol_from symbols_follow bs (next bs) refl r e

colons_tail : (bs rest : List ℕ) → after_colons bs ≡ Some rest → IsTail bs rest
colons_tail [] rest e = absurd cc
colons_tail (c ∷ []) rest e = absurd cc
colons_tail (c ∷ d ∷ cs) rest e = from (c == 58 && d == 58) e
  where
    in' : Option (List ℕ) → List ℕ
    in' None = []
    in' (Some v) = v

    from : (t : Bool) → cond t (Some cs) None ≡ Some rest → IsTail (c ∷ d ∷ cs) rest
    from true k = subst (IsTail (c ∷ d ∷ cs)) (ap in' k) (longer c (d ∷ cs) cs (longer d cs cs (same cs)))
    from false k = absurd cc

extra_tail : (more : List ℕ → Ends) → AreTails more → (bs r : List ℕ) (o : Option (List ℕ)) → after_colons (skip bs) ≡ o → symbols_or (Ok bs) more o ≡ Ok r → IsTail bs r
extra_tail more h bs r None n e = here bs r e
extra_tail more h bs r (Some rest) n e =
    within bs rest r (within bs (skip bs) rest (skipped bs) (colons_tail (skip bs) rest n))
    (one_more (symbol_end (skip rest)) more rest r (λ m k. skipped_to symbol_end symbol_tail rest m k) h e)

symbols_tail : (headroom : ℕ) → AreTails (symbols_end headroom)
unfolding symbols_end
symbols_tail zero bs r e = here bs r e
symbols_tail (suc headroom) bs r e = extra_tail (symbols_end headroom) (symbols_tail headroom) bs r (after_colons (skip bs)) refl e

attrs_follow : FollowTokens attr_from
attrs_follow all (integer s) rest r e = typed_tail rest r e
attrs_follow all (float s) rest r e = typed_tail rest r e
attrs_follow all (string s) rest r e = typed_tail rest r e
attrs_follow all (bare word) rest r e = word_tail all word rest r e
attrs_follow all (hash name) rest r e = hash_tail all name rest r e
attrs_follow all (bang name) rest r e = name_tail all name rest r e
attrs_follow all (symbol s) rest r e = symbols_tail (length rest) rest r e
attrs_follow all (quoted s) rest r e = symbols_tail (length rest) rest r e
attrs_follow all (mark m) rest r e = absurd cc
attrs_follow all (value s) rest r e = absurd cc
attrs_follow all (label s) rest r e = absurd cc

plain_attr_tail : AreTails plain_attr_end
unfolding plain_attr_end
plain_attr_tail bs r e = by_token attr_from attrs_follow bs (next bs) refl r e

attr_tail : AreTails attr_end
attr_tail [] r e = absurd cc
attr_tail (c ∷ cs) r e = from (c == 91) (c == 123) (c == 45) (c == 40) e
  where
    from : (t u v w : Bool)
        → cond t (group_end (93 ∷ []) 0 cs) (cond u (group_end (125 ∷ []) 0 cs) (cond v (number_end (skip cs)) (cond w (function_end (c ∷ cs)) (plain_attr_end (c ∷ cs))))) ≡ Ok r
        → IsTail (c ∷ cs) r
    from true u v w k = longer c cs r (grouped (93 ∷ []) 0 cs r k)
    from false true v w k = longer c cs r (grouped (125 ∷ []) 0 cs r k)
    from false false true w k = longer c cs r (skipped_to number_end number_tail cs r k)
    from false false false true k = function_tail (c ∷ cs) r k
    from false false false false k = plain_attr_tail (c ∷ cs) r k

-- ---- values

pub value_tail : (of_type : Bool) (bs r : List ℕ) → value_end of_type bs ≡ Ok r → IsTail bs r
value_tail true bs r e = type_tail bs r e
value_tail false bs r e = attr_tail bs r e
