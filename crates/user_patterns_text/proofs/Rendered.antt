-- Each reader returns what its grammar spells.
use Rattle.std.proofs.Common.{ℕ, zero, suc, Bool, true, false, List, [], ◌∷◌, codes, Some, None, sym}
use Rattle.ir_text_tokens.specs.declared.token.Mark.TheVariants.{OpenRound, CloseRound, Less, Greater, Equal, Colon, End}
use Rattle.ir_text_types.specs.Grammars.{Grammar}
use Rattle.ir_text_types.specs.Typed.{Text}
use Rattle.user_patterns_text.specs.Syntax.{Number, literal, named, called, numbers_of, Term, operation, value_of, constant_of, terms_of, narrower, asking, is_operation}
use Rattle.user_patterns_text.specs.Heads.{Head, of_value, of_operation, of_word, of_digits, of_minus, of_other, head_of, magnitude_of, is_type_word, is_one_of, folding, is_allowed_word, may_be_requested, must_be_requested}
use Rattle.user_patterns_text.specs.Grammar.{most, old_depth, new_depth, IsWordOf, IsWord, IsType, IsTyped, IsDigits, IsMagnitudeOf, IsMagnitude, IsCalled, IsNumberOf, IsNumber, IsRequested, IsRequestedBy, IsOldNumberOf, IsValue, IsOperation, IsConstant, IsTermOf, IsValueOf, IsOld, IsNew, IsConditionOf, IsCondition, IsRequestedAtEnd, IsPattern}
use Rattle.user_patterns_text.specs.Recognizing.{Reader, word_of, word, type, typed, digits, magnitude_from, magnitude, call, number_from, number, requested, requested_by, old_number_from, value_from, operation_from, constant_from, term_from, deep_value, old_term, new_term, condition_from, condition, conditions, read}
use Rattle.user_patterns_text.proofs.Exact.{Exact, fail_exact, done_exact, done_if_exact, done_unless_exact, when_exact, mark_exact, then_exact, either_exact, trailing_exact, more_exact, listed_exact, given_some, same_pair}

word_of_exact : (h : Head) → Exact (word_of h) (IsWordOf h)
word_of_exact (of_word w) = done_exact w
word_of_exact (of_value n) = fail_exact
word_of_exact (of_operation w) = fail_exact
word_of_exact (of_digits ds) = fail_exact
word_of_exact of_minus = fail_exact
word_of_exact of_other = fail_exact

word_exact : Exact word IsWord
word_exact = trailing_exact (λ l. word_of_exact (head_of l))

type_exact : Exact type IsType
type_exact = then_exact word_exact (λ w. done_if_exact (is_type_word w) w)

typed_exact : Exact typed IsTyped
typed_exact = either_exact (then_exact type_exact (λ ty. done_exact (Some ty))) (done_exact None) Colon

-- ---- numbers

digits_exact : (negative : Bool) (ds : List ℕ) → Exact (digits negative ds) (IsDigits negative ds)
digits_exact negative ds = record {
  found = λ s r y e.
      let g = given_some (magnitude_of ds) (λ n. Some (literal negative n, s)) (y, r) e in
      let k = same_pair g.2 in
      (g.0, g.1, k.0, k.1);
  only = λ s r y h. rw h.1 (λ i. Some (sym h.2 i, sym h.3 i));
}

magnitude_from_exact : (h : Head) → Exact (magnitude_from h) (IsMagnitudeOf h)
magnitude_from_exact (of_digits ds) = digits_exact true ds
magnitude_from_exact (of_word w) = fail_exact
magnitude_from_exact (of_value n) = fail_exact
magnitude_from_exact (of_operation w) = fail_exact
magnitude_from_exact of_minus = fail_exact
magnitude_from_exact of_other = fail_exact

magnitude_exact : Exact magnitude IsMagnitude
magnitude_exact = trailing_exact (λ l. magnitude_from_exact (head_of l))

module _ {n : Reader Number} {N : Grammar Text Number} (k : Exact n N) where
  call_exact : (w : List ℕ) → Exact (call n w) (IsCalled N w)
  call_exact w = either_exact (then_exact (more_exact CloseRound k most []) (λ ns. done_exact (called w (numbers_of ns)))) (done_exact (named w)) OpenRound

  number_from_exact : (h : Head) → Exact (number_from n h) (IsNumberOf N h)
  number_from_exact (of_digits ds) = digits_exact false ds
  number_from_exact of_minus = magnitude_exact
  number_from_exact (of_word w) = call_exact w
  number_from_exact (of_value n) = fail_exact
  number_from_exact (of_operation w) = fail_exact
  number_from_exact of_other = fail_exact

number_exact : (depth : ℕ) → Exact (number depth) (IsNumber depth)
unfolding number IsNumber
number_exact zero = fail_exact
number_exact (suc depth) = trailing_exact (λ l. number_from_exact (number_exact depth) (head_of l))

-- ---- terms

requested_exact : (name : List ℕ) → Exact (requested name) (IsRequested name)
requested_exact name = then_exact word_exact (λ w. mark_exact (done_if_exact (is_allowed_word name w) (Some w)) Greater)

requested_by_exact : (may must : Bool) (name : List ℕ) → Exact (requested_by may must name) (IsRequestedBy may must name)
requested_by_exact may must name = either_exact (when_exact (requested_exact name) may) (done_unless_exact must None) Less

old_number_from_exact : (h : Head) → Exact (old_number_from h) (IsOldNumberOf h)
old_number_from_exact (of_digits ds) = digits_exact false ds
old_number_from_exact of_minus = magnitude_exact
old_number_from_exact (of_word w) = done_exact (named w)
old_number_from_exact (of_value n) = fail_exact
old_number_from_exact (of_operation w) = fail_exact
old_number_from_exact of_other = fail_exact

value_from_exact : (n : List ℕ) → Exact (value_from n) (IsValue n)
value_from_exact n = then_exact typed_exact (λ ty. done_exact (value_of n ty))

module _ (left : Bool) {n : Head → Reader Number} {N : Head → Grammar Text Number} (j : (h : Head) → Exact (n h) (N h)) {p : Reader Term} {P : Grammar Text Term} (k : Exact p P) where
  operation_exact : (name : List ℕ) → Exact (operation_from left n p name) (IsOperation left N P name)
  operation_exact name =
      then_exact (requested_by_exact (may_be_requested left name) (must_be_requested name) name) (λ a. mark_exact
      (then_exact (listed_exact CloseRound k most) (λ ts. then_exact typed_exact (λ ty. done_if_exact (is_one_of folding name) (operation name a (terms_of ts) ty)))) OpenRound)

  constant_exact : (h : Head) → Exact (constant_from left n p h) (IsConstant left N P h)
  constant_exact h = then_exact (j h) (λ x. then_exact typed_exact (λ ty. done_exact (constant_of x ty)))

  term_from_exact : (h : Head) → Exact (term_from left n p h) (IsTermOf left N P h)
  term_from_exact (of_value n) = value_from_exact n
  term_from_exact (of_operation w) = operation_exact w
  term_from_exact (of_word w) = constant_exact (of_word w)
  term_from_exact (of_digits ds) = constant_exact (of_digits ds)
  term_from_exact of_minus = constant_exact of_minus
  term_from_exact of_other = fail_exact

deep_value_exact : (h : Head) → Exact (deep_value h) (IsValueOf h)
deep_value_exact (of_value n) = value_from_exact n
deep_value_exact (of_operation w) = fail_exact
deep_value_exact (of_word w) = fail_exact
deep_value_exact (of_digits ds) = fail_exact
deep_value_exact of_minus = fail_exact
deep_value_exact of_other = fail_exact

old_exact : (depth : ℕ) → Exact (old_term depth) (IsOld depth)
unfolding old_term IsOld
old_exact zero = trailing_exact (λ l. deep_value_exact (head_of l))
old_exact (suc depth) = trailing_exact (λ l. term_from_exact true old_number_from_exact (old_exact depth) (head_of l))

new_exact : (depth : ℕ) → Exact (new_term depth) (IsNew depth)
unfolding new_term IsNew
new_exact zero = fail_exact
new_exact (suc depth) = trailing_exact (λ l. term_from_exact false (number_from_exact (number_exact depth)) (new_exact depth) (head_of l))

-- ---- conditions, and a pattern

condition_from_exact : (b : Bool) (w : List ℕ) → Exact (condition_from b w) (IsConditionOf b w)
condition_from_exact true w = then_exact (more_exact CloseRound type_exact most []) (λ tys. done_exact (narrower tys))
condition_from_exact false w = then_exact (more_exact CloseRound (number_exact new_depth) most []) (λ ns. done_exact (asking w ns))

condition_exact : Exact condition IsCondition
condition_exact = then_exact word_exact (λ w. mark_exact (condition_from_exact (is_one_of (codes "narrower" ∷ []) w) w) OpenRound)

conditions_exact : Exact conditions IsRequestedAtEnd
conditions_exact =
    either_exact (done_exact []) (then_exact word_exact (λ w. when_exact (more_exact End condition_exact most []) (is_one_of (codes "where" ∷ []) w))) End

pub pattern_exact : Exact read IsPattern
unfolding read
pattern_exact =
    then_exact word_exact (λ name. then_exact (old_exact old_depth) (λ old. when_exact (mark_exact (mark_exact
    (then_exact (new_exact new_depth) (λ new. then_exact conditions_exact (λ cs. done_exact (record { name = name; old = old; new = new; conditions = cs })))) Greater) Equal) (is_operation old)))
