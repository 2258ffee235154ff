-- The word of a kind, and the kind of a word.
use Rattle.std.proofs.Common.{take-append-drop, if◌then◌else◌, ◌≡◌, ℕ, ◌<◌, List, ◌++◌, take, drop, Bool, true, false, not, Option, Some, None, inl, inr, refl, sym, subst, ◌∙◌, arith}
use Rattle.std.specs.Prelude.{◌==◌, ◌&&◌, codes, nat_lt, nat_eq}
use Rattle.std.specs.Fmt.{decimal}
use Rattle.std.specs.List.{starts_with}
use Rattle.std.specs.Option.{is_some}
use Rattle.std.specs.Str.{bytes_eq}
use Rattle.ir_event.proofs.of_types.Growth.{name_refl, name_is}
use Rattle.mlir_work_script_base.specs.Kinds.{kind_name, kind_word, kind_of, numbered_from}
use Rattle.mlir_work_script_base.specs.Numbers.{number_of}
use Rattle.mlir_work_script_base.proofs.Printed.{number_again}
use Rattle.std.proofs.lemmas.Bool.{lt-ltb, and_parts, cases_Bool, ltb-true}
use Rattle.ir_event.proofs.of_types.SameTerms.{number_is}

numbered_again : (n : ℕ) → n < 256 → kind_name n ≡ None → numbered_from (Some n) (decimal n) ≡ Some n
numbered_again n h e =
    let small : nat_lt n 256 ≡ true = lt-ltb n 256 h in
    let same : bytes_eq (decimal n) (decimal n) ≡ true = name_refl (decimal n) in
    rw (small, e, same) refl

unnamed_again : (n : ℕ) → n < 256 → kind_name n ≡ None → kind_of (kind_word n) ≡ Some n
unnamed_again n h e = rw e (rw (number_again n (omega arith)) (numbered_again n h e))

named_again : (n k : ℕ) → (n == k) ≡ true → kind_of (kind_word k) ≡ Some k → kind_of (kind_word n) ≡ Some n
named_again n k e h = subst (λ m. kind_of (kind_word m) ≡ Some m) (sym (number_is n k e)) h

no_name : (n : ℕ) → (n == 1) ≡ false → (n == 2) ≡ false → (n == 3) ≡ false → (n == 4) ≡ false → (n == 5) ≡ false → (n == 6) ≡ false → (n == 7) ≡ false → kind_name n ≡ None
no_name n a b c d e f g = rw (a, b, c, d, e, f, g) refl

pub word_again : (n : ℕ) → n < 256 → kind_of (kind_word n) ≡ Some n
word_again n h = elim (cases_Bool (n == 1)) [
  | inl e ↦ named_again n 1 e refl
  | inr a ↦ elim (cases_Bool (n == 2)) [
    | inl e ↦ named_again n 2 e refl
    | inr b ↦ elim (cases_Bool (n == 3)) [
      | inl e ↦ named_again n 3 e refl
      | inr c ↦ elim (cases_Bool (n == 4)) [
        | inl e ↦ named_again n 4 e refl
        | inr d ↦ elim (cases_Bool (n == 5)) [
          | inl e ↦ named_again n 5 e refl
          | inr f ↦ elim (cases_Bool (n == 6)) [
            | inl e ↦ named_again n 6 e refl
            | inr g ↦ elim (cases_Bool (n == 7)) [
              | inl e ↦ named_again n 7 e refl
              | inr k ↦ unnamed_again n h (no_name n a b c d f g k)
            ]
          ]
        ]
      ]
    ]
  ]
]

-- ---- from words to kinds

-- kind `n` has this word
pub record HasWord (word : List ℕ) (n : ℕ) : Type 0 where
  pub small : n < 256
  pub is : word ≡ kind_word n

has_named : (word : List ℕ) (k n : ℕ) → k < 256 → bytes_eq word (kind_word k) ≡ true → Some k ≡ Some n → HasWord word n
has_named word k n h e s =
    let same : k ≡ n = cc in
    subst (HasWord word) same (record { small = h; is = name_is word (kind_word k) e })

-- a test for one word, before the tests for the others
first_of_words : (word : List ℕ) (k n : ℕ) (t : Bool) (rest : Option ℕ) → bytes_eq word (kind_word k) ≡ t → k < 256 → (rest ≡ Some n → HasWord word n) → (if t then Some k else rest) ≡ Some n → HasWord word n
first_of_words word k n true rest e h others s = has_named word k n h e s
first_of_words word k n false rest e h others s = others s

without_name : (name : Option (List ℕ)) → not (is_some name) ≡ true → name ≡ None
without_name None e = refl
without_name (Some x) e = absurd cc

pub record IsNumbered (digits : List ℕ) (n : ℕ) : Type 0 where
  pub small : n < 256
  pub unnamed : kind_name n ≡ None
  pub is : digits ≡ decimal n

numbered_if : (t : Bool) (m n : ℕ) (digits : List ℕ) → (nat_lt m 256 && (not (is_some (kind_name m)) && bytes_eq digits (decimal m))) ≡ t → (if t then Some m else None) ≡ Some n → IsNumbered digits n
numbered_if true m n digits e s =
    let same : m ≡ n = cc in
    let h = and_parts (nat_lt m 256) (not (is_some (kind_name m)) && bytes_eq digits (decimal m)) e in
    let k = and_parts (not (is_some (kind_name m))) (bytes_eq digits (decimal m)) h.1 in
    subst (IsNumbered digits) same (record { small = ltb-true m 256 h.0; unnamed = without_name (kind_name m) k.0; is = name_is digits (decimal m) k.1 })
numbered_if false m n digits e s = absurd cc

is_numbered : (m : Option ℕ) (n : ℕ) (digits : List ℕ) → numbered_from m digits ≡ Some n → IsNumbered digits n
is_numbered None n digits s = absurd cc
is_numbered (Some m) n digits s = numbered_if (nat_lt m 256 && (not (is_some (kind_name m)) && bytes_eq digits (decimal m))) m n digits refl s

numbered_word : (word : List ℕ) (n : ℕ) → codes "kind" ≡ take 4 word → IsNumbered (drop 4 word) n → HasWord word n
numbered_word word n e h =
    let whole : word ≡ codes "kind" ++ decimal n = sym (take-append-drop 4 word) ∙ ap2 (sym e) h.is in
    record { small = h.small; is = rw h.unnamed whole }
  where
    ap2 : {a b c d : List ℕ} → a ≡ b → c ≡ d → a ++ c ≡ b ++ d
    ap2 p q = rw (p, q) refl

numbered_only : (word : List ℕ) (n : ℕ) (t : Bool) → starts_with nat_eq word (codes "kind") ≡ t → (if t then numbered_from (number_of (drop 4 word)) (drop 4 word) else None) ≡ Some n → HasWord word n
numbered_only word n true e s = numbered_word word n (name_is (codes "kind") (take 4 word) e) (is_numbered (number_of (drop 4 word)) n (drop 4 word) s)
numbered_only word n false e s = absurd cc

pub word_only : (word : List ℕ) (n : ℕ) → kind_of word ≡ Some n → HasWord word n
word_only word n =
    first_of_words word 1 n (bytes_eq word (codes "uses")) _ refl (omega arith)
    (first_of_words word 2 n (bytes_eq word (codes "symbols")) _ refl (omega arith)
    (first_of_words word 3 n (bytes_eq word (codes "diagnostics")) _ refl (omega arith)
    (first_of_words word 4 n (bytes_eq word (codes "effects")) _ refl (omega arith)
    (first_of_words word 5 n (bytes_eq word (codes "dead")) _ refl (omega arith)
    (first_of_words word 6 n (bytes_eq word (codes "constants")) _ refl (omega arith)
    (first_of_words word 7 n (bytes_eq word (codes "unreached")) _ refl (omega arith)
    (numbered_only word n (starts_with nat_eq word (codes "kind")) refl)))))))
