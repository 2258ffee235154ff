-- Small lemmas about tests, numbers, bytes and tokens.
use Rattle.std.proofs.Common.{◌≡◌, ℕ, ◌≤◌, ◌<◌, Bool, true, false, List, [], ◌∷◌, refl, sym, ◌∙◌, arith, inl, inr}
use Rattle.std.specs.Prelude.{◌&&◌, nat_le, nat_lt}
use Rattle.std.specs.List.{list_all}
use Rattle.std.proofs.lemmas.Bool.Decides.{nat_tests}
use Rattle.std.proofs.lemmas.Option.{some_pair_parts}
use Rattle.ir_text_tokens.specs.declared.token.Mark.{Mark}
use Rattle.ir_text_tokens.specs.Tokens.{Lexeme, mark}
use Rattle.ir_text_tokens.specs.Printing.{AreBytes, Stops}
use Rattle.ir_text_tokens.specs.Bytes.{is_word, is_suffix}
use Rattle.ir_text_types.specs.Grammars.{Not, Token, IsMark}
use Rattle.std.proofs.lemmas.Bool.{and_parts, cases_Bool, leb-true}

-- a text that begins with another token
pub lacks_token : (t : Lexeme) (m : Mark) (a new : List ℕ) → Token t a new → (t ≡ mark m → ⊥) → Not IsMark m a
lacks_token t m a new h other = λ n k. other (some_pair_parts t (mark m) new n (sym h ∙ k)).0

no_word : (c : ℕ) → is_suffix c ≡ false → is_word c ≡ false
no_word c e = elim (cases_Bool (is_word c)) [
  | inl t ↦ let z : is_suffix c ≡ true = rw t refl in absurd cc
  | inr f ↦ f
]

-- a text that doesn't extend a name doesn't extend a word
pub ends_word : (rest : List ℕ) → Stops is_suffix rest → Stops is_word rest
ends_word [] s = tt
ends_word (c ∷ cs) s = no_word c s

pub is_byte : (c : ℕ) → nat_lt c 256 ≡ true → c < 256
is_byte c e = grind (arith, nat_tests)

pub are_bytes : (v : List ℕ) → list_all (λ c. nat_lt c 256) v ≡ true → AreBytes v
are_bytes [] e = tt
are_bytes (c ∷ cs) e = let p = and_parts (nat_lt c 256) (list_all (λ c'. nat_lt c' 256) cs) e in (is_byte c p.0, are_bytes cs p.1)
