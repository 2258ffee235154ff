-- A text that begins with a quote begins with a string literal or with no token.
use Rattle.std.proofs.Common.{◌≡◌, ◌∙◌, ap, sym, refl, ℕ, List, ◌∷◌, Option, Some, None}
use Rattle.std.specs.Prelude.{option_map, option_and_then}
use Rattle.ir_text_tokens.specs.Tokens.{Lexeme, string, next, string_parts}
use Rattle.mlir_work_script_base.specs.Keys.{raw_in}
use Rattle.ir_text_tokens.proofs.Facts.{string_token}

raws : (p : Option (List ℕ × List ℕ)) → option_and_then (λ (x : Lexeme × List ℕ). option_map (λ raw. (raw, x.1)) (raw_in x.0)) (option_map (λ x. (string x.0, x.1)) p) ≡ p
raws None = refl
raws (Some p) = refl

parts_from : (tail : List ℕ) → option_and_then (λ (x : Lexeme × List ℕ). option_map (λ raw. (raw, x.1)) (raw_in x.0)) (next (34 ∷ tail)) ≡ string_parts tail
parts_from tail = ap (option_and_then (λ (x : Lexeme × List ℕ). option_map (λ raw. (raw, x.1)) (raw_in x.0))) (string_token tail) ∙ raws (string_parts tail)

-- the parts of a string literal, from the token at the start of the text
pub no_parts : (text tail : List ℕ) → text ≡ 34 ∷ tail → next text ≡ None → string_parts tail ≡ None
no_parts text tail e h = sym (parts_from tail) ∙ ap (option_and_then (λ (x : Lexeme × List ℕ). option_map (λ raw. (raw, x.1)) (raw_in x.0))) (ap next (sym e) ∙ h)

pub parts_are : (text tail : List ℕ) (t : Lexeme) (rest : List ℕ) → text ≡ 34 ∷ tail → next text ≡ Some (t, rest) → string_parts tail ≡ option_map (λ raw. (raw, rest)) (raw_in t)
parts_are text tail t rest e h = sym (parts_from tail) ∙ ap (option_and_then (λ (x : Lexeme × List ℕ). option_map (λ raw. (raw, x.1)) (raw_in x.0))) (ap next (sym e) ∙ h)
