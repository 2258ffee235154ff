-- Leading blanks.
use Rattle.std.proofs.Common.{◌≡◌, ℕ, ◌≤◌, true, false, not, nat_eq, ◌<◌, List, [], ◌∷◌, length, get_or, refl, arith}
use Rattle.std.specs.Prelude.{◌==◌, IsTrue}
use Rattle.std.proofs.lemmas.Bool.Decides.{nat_tests}
use Rattle.ir_text_tokens.specs.Bytes.{is_blank}
use Rattle.ir_text_tokens.specs.Tokens.{skip}

pub one_space : (cs : List ℕ) → skip (32 ∷ cs) ≡ skip cs
unfolding skip
one_space [] = refl
one_space (c ∷ cs) = refl

pub line_feed : (cs : List ℕ) → skip (10 ∷ cs) ≡ skip cs
unfolding skip
line_feed [] = refl
line_feed (c ∷ cs) = refl

-- a byte that is neither a blank nor a slash is not skipped
pub skip_nothing : (b : ℕ) (bs : List ℕ) → (b == 47) ≡ false → is_blank b ≡ false → skip (b ∷ bs) ≡ b ∷ bs
unfolding skip
skip_nothing b [] slash blank = rw blank refl
skip_nothing b (c ∷ cs) slash blank = rw (slash, blank) refl

-- a text whose first byte is over 32 and no slash has no leading blanks or comments
pub begun : (bytes : List ℕ) → 1 ≤ length bytes → 32 < get_or bytes 0 0 → IsTrue (not (nat_eq (get_or bytes 0 0) 47)) → skip bytes ≡ bytes
begun [] le past other = absurd (omega (arith, le))
begun (b ∷ bs) le past other =
    let slash : (b == 47) ≡ false = grind (arith, nat_tests) in
    let blank : is_blank b ≡ false = grind (arith, nat_tests) in
    skip_nothing b bs slash blank
