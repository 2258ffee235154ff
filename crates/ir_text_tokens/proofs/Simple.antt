-- Word bytes are printed in a string without escapes.
use Rattle.std.proofs.Common.{◌≡◌, ℕ, true, false, List, [], ◌∷◌, length, refl, ap, arith}
use Rattle.std.specs.Prelude.{◌==◌, ◌&&◌, not, nat_le}
use Rattle.std.specs.List.{prefix_len}
use Rattle.std.proofs.lemmas.Bool.Decides.{nat_tests}
use Rattle.ir_text_tokens.specs.Bytes.{is_word}
use Rattle.ir_text_tokens.specs.Printing.{byte_text, raw_text}
use Rattle.ir_text_tokens.proofs.Decimals.{first_passes, rest_passes}

plain_byte : (c : ℕ) → is_word c ≡ true → byte_text c ≡ c ∷ []
plain_byte c word =
    let slash : (c == 92) ≡ false = grind (arith, nat_tests) in
    let fits : (nat_le 32 c && nat_le c 126) && not (c == 34) ≡ true = grind (arith, nat_tests) in
    rw (slash, fits) refl

pub plain_text : (v : List ℕ) → prefix_len is_word v ≡ length v → raw_text v ≡ v
plain_text [] h = refl
plain_text (c ∷ cs) h = rw (plain_byte c (first_passes is_word c cs h)) (ap (λ l. c ∷ l) (plain_text cs (rest_passes is_word c cs h)))
