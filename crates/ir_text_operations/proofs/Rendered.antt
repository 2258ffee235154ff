-- Strings without escapes.
use Rattle.std.specs.Prelude.{eqb, ◌||◌}
use Rattle.std.specs.List.{list_any}
use Rattle.std.proofs.Common.{◌≡◌, ℕ, Bool, true, false, true≢false, List, [], ◌∷◌, refl, sym, ap}
use Rattle.ir_text_tokens.specs.Strings.{string_bytes}
use Rattle.std.proofs.lemmas.Bool.{or_parts}

-- a string without a backslash denotes its own bytes
pub plain_is : (raw : List ℕ) → list_any (λ byte. eqb byte 92) raw ≡ false → string_bytes raw ≡ raw
unfolding string_bytes
plain_is [] e = refl
plain_is (c ∷ cs) e =
    let both = or_parts (eqb c 92) (list_any (λ byte. eqb byte 92) cs) e in
    rw both.0 (ap (λ z. c ∷ z) (plain_is cs both.1))
