-- The words of scalar types.
use Rattle.std.proofs.Common.{◌≡◌, ℕ, ◌^◌, ◌<◌, ◌≤◌, Bool, true, false, List, [], ◌∷◌, ◌++◌, length, get_or, Some, refl, arith}
use Rattle.std.specs.Prelude.{◌==◌}
use Rattle.std.specs.List.{prefix_len, list_all}
use Rattle.std.specs.Char.{is_ascii_digit}
use Rattle.std.specs.Fmt.{decimal}
use Rattle.std.specs.Str.{bytes_eq}
use Rattle.std.proofs.lemmas.Bool.Decides.{nat_tests}
use Rattle.std.proofs.lemmas.Fmt.{first_decimal}
use Rattle.ir_types.specs.declared.node.Sign.{Sign}
use Rattle.ir_types.specs.declared.node.Sign.TheVariants.{Signless, Signed, Unsigned}
use Rattle.ir_types.specs.declared.node.TypeNode.TheVariants.{Int}
use Rattle.ir_types.specs.Reasons.{is_width}
use Rattle.ir_text_tokens.specs.Bytes.{is_word}
use Rattle.ir_text_tokens.specs.Printing.{is_bare_id}
use Rattle.ir_text_tokens.proofs.Decimals.{eqb_self, decimal_number, first_passes, rest_passes, integer_again}
use Rattle.ir_text_types.specs.Scalars.{begins_zero, width_of, within, index_word, memref_word, scalar_of}
use Rattle.ir_text.specs.TypeText.{sign_text}

-- a run of one class is a run of a larger class
pub run_within : (p q : ℕ → Bool) → ((c : ℕ) → p c ≡ true → q c ≡ true) → (w : List ℕ) → prefix_len p w ≡ length w → prefix_len q w ≡ length w
run_within p q h [] e = refl
run_within p q h (c ∷ cs) e =
    let t : q c ≡ true = h c (first_passes p c cs e) in
    rw (t, run_within p q h cs (rest_passes p c cs e)) (omega arith)

pub digit_word : (c : ℕ) → is_ascii_digit c ≡ true → is_word c ≡ true
digit_word c e = grind (arith, nat_tests)

pub all_digits : (w : List ℕ) → prefix_len is_ascii_digit w ≡ length w → list_all is_ascii_digit w ≡ true
all_digits [] e = refl
all_digits (c ∷ cs) e = rw (first_passes is_ascii_digit c cs e, all_digits cs (rest_passes is_ascii_digit c cs e)) refl

-- facts about a width in decimal
record IsWidth (w : ℕ) (ds : List ℕ) : Type 0 where
  pub width : width_of ds ≡ Some w
  pub digits : prefix_len is_ascii_digit ds ≡ length ds
  pub some : 1 ≤ length ds

no_zero : (ds : List ℕ) → 1 ≤ length ds → 48 < get_or ds 0 0 → begins_zero ds ≡ false
no_zero [] le h = absurd (omega (arith, le))
no_zero (d ∷ ds) le h = grind (arith, nat_tests)

within_width : (w : ℕ) → is_width w ≡ true → within w ≡ Some w
within_width w e = rw e refl

wide : (w : ℕ) → is_width w ≡ true → (0 < w) × (w < 2 ^ 64) × (w < 2 ^ 128)
wide w e = (grind (arith, nat_tests), grind (arith, nat_tests), grind (arith, nat_tests))

width_again : (w : ℕ) → is_width w ≡ true → IsWidth w (decimal w)
width_again w e =
    let k = wide w e in
    let n = decimal_number w k.2 in
    record {
      width = rw (no_zero (decimal w) n.some (first_decimal w k.0 k.1), all_digits (decimal w) n.digits, integer_again w k.2) (within_width w e);
      digits = n.digits;
      some = n.some;
    }

no_index : (ds : List ℕ) → prefix_len is_ascii_digit ds ≡ length ds → 1 ≤ length ds → bytes_eq (105 ∷ ds) index_word ≡ false
no_index [] h le = absurd (omega (arith, le))
no_index (d ∷ ds) h le =
    let t = first_passes is_ascii_digit d ds h in
    let e : (d == 110) ≡ false = grind (arith, nat_tests) in
    rw e refl

pub scalar_again : (sign : Sign) (w : ℕ) → is_width w ≡ true → scalar_of (sign_text sign ++ decimal w) ≡ Some (Int sign w)
unfolding scalar_of
scalar_again Signless w e = let k = width_again w e in rw (no_index (decimal w) k.digits k.some, k.width) refl
scalar_again Signed w e = let k = width_again w e in rw k.width refl
scalar_again Unsigned w e = let k = width_again w e in rw k.width refl

letter_run : (w : List ℕ) → prefix_len is_ascii_digit w ≡ length w → (c : ℕ) → is_word c ≡ true → prefix_len is_word (c ∷ w) ≡ length (c ∷ w)
letter_run w h c e = rw (e, run_within is_ascii_digit is_word digit_word w h) (omega arith)

pub scalar_word : (sign : Sign) (w : ℕ) → is_width w ≡ true → is_bare_id (sign_text sign ++ decimal w) ≡ true
scalar_word Signless w e = let k = width_again w e in rw (run_within is_ascii_digit is_word digit_word (decimal w) k.digits) (eqb_self (length (decimal w)))
scalar_word Signed w e = let k = width_again w e in rw (letter_run (decimal w) k.digits 105 refl) (eqb_self (length (105 ∷ decimal w)))
scalar_word Unsigned w e = let k = width_again w e in rw (letter_run (decimal w) k.digits 105 refl) (eqb_self (length (105 ∷ decimal w)))

pub scalar_no_memref : (sign : Sign) (w : ℕ) → bytes_eq (sign_text sign ++ decimal w) memref_word ≡ false
scalar_no_memref Signless w = refl
scalar_no_memref Signed w = refl
scalar_no_memref Unsigned w = refl
