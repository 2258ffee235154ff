-- The words of value names: which words differ, and what they are bound to in scopes.
use Rattle.std.proofs.Common.{◌≡◌, ℕ, ◌^◌, ◌<◌, true, false, List, [], ◌∷◌, ◌++◌, length, Some, None, refl, sym, ap, ◌∙◌, inl, inr}
use Rattle.std.specs.Prelude.{codes, if◌then◌else◌}
use Rattle.std.specs.Char.{is_ascii_digit}
use Rattle.std.specs.Fmt.{decimal}
use Rattle.std.specs.Str.{bytes_eq}
use Rattle.ir_types.proofs.Growth.{name_is, name_refl}
use Rattle.ir_text_tokens.specs.Tokens.{digits_len}
use Rattle.ir_text_tokens.specs.Numbers.{place_value}
use Rattle.ir_text_tokens.specs.Scopes.{Binding, or_else, find}
use Rattle.ir_text_tokens.proofs.Decimals.{decimal_number, first_passes}
use Rattle.std.proofs.lemmas.Bool.{cases_Bool}

-- the word of an argument
abbrev pub argument_word : ℕ → List ℕ
argument_word n = codes "arg" ++ decimal n

-- two different texts
pub unlike : (v w : List ℕ) → (v ≡ w → ⊥) → bytes_eq v w ≡ false
unlike v w h = elim (cases_Bool (bytes_eq v w)) [
  | inl t ↦ absurd (h (name_is v w t))
  | inr f ↦ f
]

pub decimals_apart : (j k : ℕ) → j < 2 ^ 128 → k < 2 ^ 128 → (j ≡ k → ⊥) → bytes_eq (decimal j) (decimal k) ≡ false
decimals_apart j k lj lk h = unlike (decimal j) (decimal k) (λ e. h (sym (decimal_number j lj).value ∙ ap (place_value 10) e ∙ (decimal_number k lk).value))

pub arguments_apart : (j k : ℕ) → j < 2 ^ 128 → k < 2 ^ 128 → (j ≡ k → ⊥) → bytes_eq (argument_word j) (argument_word k) ≡ false
arguments_apart j k lj lk h = decimals_apart j k lj lk h

no_digit : (w : List ℕ) → digits_len w ≡ length w → (rest : List ℕ) → w ≡ 97 ∷ rest → ⊥
no_digit w h rest e =
    let k : is_ascii_digit 97 ≡ true = first_passes is_ascii_digit 97 rest (sym (ap digits_len e) ∙ h ∙ ap (λ (l : List ℕ). length l) e) in
    absurd cc

pub argument_no_decimal : (j k : ℕ) → k < 2 ^ 128 → bytes_eq (argument_word j) (decimal k) ≡ false
argument_no_decimal j k lt = unlike (argument_word j) (decimal k) (λ e. no_digit (decimal k) (decimal_number k lt).digits (114 ∷ 103 ∷ decimal j) (sym e))

pub decimal_no_argument : (j k : ℕ) → j < 2 ^ 128 → bytes_eq (decimal j) (argument_word k) ≡ false
decimal_no_argument j k lt = unlike (decimal j) (argument_word k) (λ e. no_digit (decimal j) (decimal_number j lt).digits (114 ∷ 103 ∷ decimal k) e)

-- ---- the binding of a name after one more is bound

module _ {T : Type 0} where
  pub find_last : (name : List ℕ) (bs : List (Binding T)) (b : Binding T) → find name (bs ++ b ∷ []) ≡ (if bytes_eq b.name name then Some b.value else find name bs)
  unfolding find
  find_last name [] b = refl
  find_last name (c ∷ bs) b =
      ap (λ o. or_else o (if bytes_eq c.name name then Some c.value else None)) (find_last name bs b)
      ∙ elim (bytes_eq b.name name) as (λ t. or_else (if t then Some b.value else find name bs) (if bytes_eq c.name name then Some c.value else None) ≡ (if t then Some b.value else or_else (find name bs) (if bytes_eq c.name name then Some c.value else None))) [ true ↦ refl | false ↦ refl ]

  pub find_new : (name : List ℕ) (bs : List (Binding T)) (value : T) → find name (bs ++ (record { name = name; value = value }) ∷ []) ≡ Some value
  find_new name bs value = find_last name bs (record { name = name; value = value }) ∙ rw (name_refl name) refl

  pub find_old : (name other : List ℕ) (bs : List (Binding T)) (value : T) → bytes_eq other name ≡ false → find name (bs ++ (record { name = other; value = value }) ∷ []) ≡ find name bs
  find_old name other bs value e = find_last name bs (record { name = other; value = value }) ∙ rw e refl

  -- a bound name keeps its value when a new name is bound
  pub find_kept : (name other : List ℕ) (bs : List (Binding T)) (value old : T) → find other bs ≡ None → find name bs ≡ Some old → find name (bs ++ (record { name = other; value = value }) ∷ []) ≡ Some old
  find_kept name other bs value old fresh e = find_old name other bs value (unlike other name apart) ∙ e
    where
      apart : other ≡ name → ⊥
      apart same = let k : Some old ≡ None = sym e ∙ sym (ap (λ w. find w bs) same) ∙ fresh in absurd cc
