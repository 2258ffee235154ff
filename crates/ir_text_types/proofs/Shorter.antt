-- The rest of the text after an opaque type is no longer than the text.
use Rattle.std.specs.Prelude.{if◌then◌else◌, option_map}
use Rattle.std.proofs.Common.{◌≡◌, ◌∙◌, ◌≤◌, ◌+◌, ℕ, Bool, true, false, List, ◌∷◌, ◌++◌, length, Option, Some, None, refl, ap, length-append, arith}
use Rattle.ir_text_tokens.specs.Tokens.{skip}
use Rattle.ir_text_tokens.specs.Bodies.{begins, has_dot, body_at}
use Rattle.ir_text_tokens.proofs.Again.{stands_at_the_start}
use Rattle.ir_text_types.specs.OpaqueTypes.{is_alone, with_body, bracketed, word_text, dialect_text}

-- a result leaves at most n bytes
abbrev pub IsWithin : ℕ → Option (List ℕ × List ℕ) → Type 0
IsWithin n None = Unit {0}
IsWithin n (Some x) = length x.1 ≤ n

pub with_body_within : (preceding bytes : List ℕ) → IsWithin (length bytes) (with_body preceding bytes)
with_body_within preceding bytes = go (body_at bytes) refl
  where
    go : (o : Option (List ℕ × List ℕ)) → body_at bytes ≡ o → IsWithin (length bytes) (option_map (λ (b : List ℕ × List ℕ). (preceding ++ b.0, b.1)) o)
    go None e = tt
    go (Some b) e = let l = ap length (stands_at_the_start bytes b.0 b.1 e) ∙ length-append b.0 b.1 in omega (arith, l)

pub within_if : (n : ℕ) (b : Bool) (x y : Option (List ℕ × List ℕ)) → IsWithin n x → IsWithin n y → IsWithin n (if b then x else y)
within_if n true x y h k = h
within_if n false x y h k = k

pub bracketed_within : (bracket : ℕ) (preceding bytes : List ℕ) → IsWithin (length bytes) (bracketed bracket preceding bytes)
bracketed_within bracket preceding bytes = within_if (length bytes) (begins bracket bytes) (with_body preceding bytes) None (with_body_within preceding bytes) tt

pub within_more : (m n : ℕ) (o : Option (List ℕ × List ℕ)) → m ≤ n → IsWithin m o → IsWithin n o
within_more m n None le h = tt
within_more m n (Some x) le h = omega (arith, le, h)

pub word_within : (word rest : List ℕ) → length (skip rest) ≤ length rest → IsWithin (length rest) (word_text word rest)
word_within word rest le =
    within_if (length rest) (is_alone word) (Some (word, rest)) (bracketed 60 word (skip rest)) (omega arith) (within_more (length (skip rest)) (length rest) (bracketed 60 word (skip rest)) le (bracketed_within 60 word (skip rest)))

pub dialect_within : (sign : ℕ) (name rest : List ℕ) → IsWithin (length rest) (dialect_text sign name rest)
dialect_within sign name rest =
    within_if (length rest) (begins 60 rest) (with_body (sign ∷ name) rest) (if has_dot name then Some (sign ∷ name, rest) else None) (with_body_within (sign ∷ name) rest)
    (within_if (length rest) (has_dot name) (Some (sign ∷ name, rest)) None (omega arith) tt)
