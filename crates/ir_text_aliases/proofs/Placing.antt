-- One step of the search for the end of a location.
use Rattle.std.proofs.Common.{◌≡◌, ℕ, zero, suc, ◌<◌, ◌≤◌, true, false, List, [], ◌∷◌, length, drop, Some, None, refl, sym, ap, ◌∙◌, arith}
use Rattle.std.specs.Prelude.{◌==◌, reverse, Ok, Err}
use Rattle.std.proofs.lemmas.List.{length-reverse}
use Rattle.std.proofs.lemmas.Bool.{eqb-true}
use Rattle.ir_text_tokens.specs.declared.refusal.TextRefusal.{TextRefusal}
use Rattle.ir_text_tokens.specs.declared.refusal.TextRefusal.TheVariants.{Unexpected}
use Rattle.ir_text_tokens.specs.declared.fault.Fault.{Fault}
use Rattle.ir_text_aliases.specs.Lexemes.{lexeme_len}
use Rattle.ir_text_aliases.specs.Places.{place_end, place_fault, unless}
use Rattle.ir_text_aliases.specs.Values.{coming_after}
use Rattle.ir_text_aliases.proofs.Parted.{lexeme_within}

extra : (c o : ℕ) (os cs : List ℕ) → place_end (o ∷ os) 0 (c ∷ cs) ≡ unless (place_fault c cs (o ∷ os)) (c ∷ cs) (place_end (coming_after c (o ∷ os)) (lexeme_len c cs) cs)
unfolding place_end
extra c o os cs = refl

passed : (os : List ℕ) (n : ℕ) (cs : List ℕ) → n ≤ length cs → place_end os n cs ≡ place_end os 0 (drop n cs)
unfolding place_end
passed [] n cs le = refl
passed (o ∷ os) zero cs le = refl
passed (o ∷ os) (suc n) [] le = absurd (omega (arith, le))
passed (o ∷ os) (suc n) (c ∷ cs) le = passed (o ∷ os) n cs (omega (arith, le))

by_one : (c : ℕ) (os new all tail trailing : List ℕ) → 0 < length os → all ≡ c ∷ tail → place_fault c tail os ≡ None → new ≡ coming_after c os → trailing ≡ drop (lexeme_len c tail) tail → place_end os 0 all ≡ place_end new 0 trailing
by_one c [] new all tail trailing lt a f n b = absurd (omega (arith, lt))
by_one c (o ∷ os) new all tail trailing lt a f n b =
    ap (place_end (o ∷ os) 0) a ∙ extra c o os tail
    ∙ ap (λ x. unless x (c ∷ tail) (place_end (coming_after c (o ∷ os)) (lexeme_len c tail) tail)) f
    ∙ passed (coming_after c (o ∷ os)) (lexeme_len c tail) tail (lexeme_within c tail)
    ∙ (λ i. place_end (sym n i) 0 (sym b i))

pub goes_on : (c : ℕ) (items new all tail trailing : List ℕ) → 0 < length items → all ≡ c ∷ tail → place_fault c tail (reverse items) ≡ None → new ≡ coming_after c (reverse items) → trailing ≡ drop (lexeme_len c tail) tail → place_end (reverse items) 0 all ≡ place_end new 0 trailing
goes_on c items new all tail trailing lt a f n b = by_one c (reverse items) new all tail trailing (omega (arith, lt, length-reverse items)) a f n b

refused : (c : ℕ) (os all tail : List ℕ) (f : Fault) (x : TextRefusal) → 0 < length os → all ≡ c ∷ tail → place_fault c tail os ≡ Some x → f.refusal ≡ x → f.left ≡ length all → place_end os 0 all ≡ Err f
refused c [] all tail f x lt a k h l = absurd (omega (arith, lt))
refused c (o ∷ os) all tail f x lt a k h l =
    ap (place_end (o ∷ os) 0) a ∙ extra c o os tail
    ∙ ap (λ x. unless x (c ∷ tail) (place_end (coming_after c (o ∷ os)) (lexeme_len c tail) tail)) k
    ∙ (λ i. Err (record { refusal = sym h i; left = (ap length (sym a) ∙ sym l) i }))

pub stops : (c : ℕ) (items all tail : List ℕ) (f : Fault) (x : TextRefusal) → 0 < length items → all ≡ c ∷ tail → place_fault c tail (reverse items) ≡ Some x → f.refusal ≡ x → f.left ≡ length all → place_end (reverse items) 0 all ≡ Err f
stops c items all tail f x lt a k h l = refused c (reverse items) all tail f x (omega (arith, lt, length-reverse items)) a k h l

-- ---- ends

pub closed : (items rest : List ℕ) → (length items == 0) ≡ true → place_end (reverse items) 0 rest ≡ Ok rest
unfolding place_end
closed [] rest e = refl
closed (o ∷ os) rest e = absurd (omega (arith, eqb-true (length (o ∷ os)) 0 e))

at_the_end : (os rest : List ℕ) (f : Fault) → 0 < length os → length rest < 1 → f.refusal ≡ Unexpected → f.left ≡ length rest → place_end os 0 rest ≡ Err f
unfolding place_end
at_the_end [] rest f lt e h l = absurd (omega (arith, lt))
at_the_end (o ∷ os) [] f lt e h l = λ i. Err (record { refusal = sym h i; left = sym l i })
at_the_end (o ∷ os) (c ∷ cs) f lt e h l = absurd (omega (arith, e))

some_items : (items : List ℕ) → (length items == 0) ≡ false → 0 < length items
some_items [] e = absurd cc
some_items (o ∷ os) e = omega arith

pub open_at_the_end : (items rest : List ℕ) (f : Fault) → (length items == 0) ≡ false → length rest < 1 → f.refusal ≡ Unexpected → f.left ≡ length rest → place_end (reverse items) 0 rest ≡ Err f
open_at_the_end items rest f n e h l = at_the_end (reverse items) rest f (omega (arith, some_items items n, length-reverse items)) e h l
