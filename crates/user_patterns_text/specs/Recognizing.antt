-- Reading a pattern: a function of the text, which gives what is spelled at its front and the rest, or nothing.
use Rattle.std.specs.Prelude.{ℕ, zero, suc, Bool, true, false, not, List, [], ◌∷◌, ◌++◌, codes, Option, Some, None, if◌then◌else◌}
use Rattle.ir_text_tokens.specs.declared.token.Mark.{Mark}
use Rattle.ir_text_tokens.specs.declared.token.Mark.TheVariants.{OpenRound, CloseRound, Less, Greater, Comma, Equal, Colon, End}
use Rattle.ir_text_tokens.specs.Tokens.{Lexeme, next}
use Rattle.ir_text_types.specs.Marks.{after}
use Rattle.ir_text_types.specs.Typed.{Text}
use Rattle.user_patterns_text.specs.Syntax.{Number, literal, named, called, numbers_of, Term, operation, value_of, constant_of, terms_of, Constraint, narrower, asking, Pattern, is_operation}
use Rattle.user_patterns_text.specs.Heads.{Head, of_value, of_operation, of_word, of_digits, of_minus, of_other, head_of, magnitude_of, is_type_word, is_one_of, folding, is_allowed_word, may_be_requested, must_be_requested}
use Rattle.user_patterns_text.specs.Grammar.{most, old_depth, new_depth}

-- what is read, and the rest of the text
abbrev pub Reader : Type 0 → Type 0
Reader A = Text → Option (A × Text)

abbrev pub given : {X Y : Type 0} → Option X → (X → Option Y) → Option Y
given None f = None
given (Some x) f = f x

abbrev pub fail : {A : Type 0} → Reader A
fail s = None

abbrev pub done : {A : Type 0} → A → Reader A
done x s = Some (x, s)

abbrev pub done_if : {A : Type 0} → Bool → A → Reader A
done_if b x s = if b then Some (x, s) else None

abbrev pub when : {A : Type 0} → Bool → Reader A → Reader A
when b p s = if b then p s else None

abbrev pub and_then : {A B : Type 0} → Reader A → (A → Reader B) → Reader B
and_then p q s = given (p s) (λ x. q x.0 x.1)

abbrev pub after_mark : {A : Type 0} → Mark → Reader A → Reader A
after_mark m q s = given (after m s) q

abbrev pub either_from : {A : Type 0} → Reader A → Reader A → Text → Option Text → Option (A × Text)
either_from q r s (Some rest) = q rest
either_from q r s None = r s

abbrev pub either : {A : Type 0} → Mark → Reader A → Reader A → Reader A
either m q r s = either_from q r s (after m s)

abbrev pub trailing : {A : Type 0} → (Lexeme → Reader A) → Reader A
trailing f s = given (next s) (λ t. f t.0 t.1)

module _ {A : Type 0} (close : Mark) (p : Reader A) where
  abbrev pub more_from : (List A → Reader (List A)) → List A → Text → Option Text → Option (List A × Text)
  more_from go items s (Some end) = Some (items, end)
  more_from go items s None = given (after Comma s) (go items)

  unfoldable pub more : ℕ → List A → Reader (List A)
  more zero items s = None
  more (suc headroom) items s = given (p s) (λ x. more_from (more headroom) (items ++ x.0 ∷ []) x.1 (after close x.1))

  abbrev pub listed : ℕ → Reader (List A)
  listed headroom s = either_from (done []) (more headroom []) s (after close s)

-- ---- words and types

abbrev pub word_of : Head → Reader (List ℕ)
word_of (of_word w) = done w
word_of (of_value n) = fail
word_of (of_operation w) = fail
word_of (of_digits ds) = fail
word_of of_minus = fail
word_of of_other = fail

abbrev pub word : Reader (List ℕ)
word = trailing (λ l. word_of (head_of l))

abbrev pub type : Reader (List ℕ)
type = and_then word (λ w. done_if (is_type_word w) w)

abbrev pub typed : Reader (Option (List ℕ))
typed = either Colon (and_then type (λ ty. done (Some ty))) (done None)

-- ---- numbers

abbrev pub digits : Bool → List ℕ → Reader Number
digits negative ds s = given (magnitude_of ds) (λ n. Some (literal negative n, s))

abbrev pub magnitude_from : Head → Reader Number
magnitude_from (of_digits ds) = digits true ds
magnitude_from (of_word w) = fail
magnitude_from (of_value n) = fail
magnitude_from (of_operation w) = fail
magnitude_from of_minus = fail
magnitude_from of_other = fail

abbrev pub magnitude : Reader Number
magnitude = trailing (λ l. magnitude_from (head_of l))

module _ (n : Reader Number) where
  abbrev pub call : List ℕ → Reader Number
  call w = either OpenRound (and_then (more CloseRound n most []) (λ ns. done (called w (numbers_of ns)))) (done (named w))

  abbrev pub number_from : Head → Reader Number
  number_from (of_digits ds) = digits false ds
  number_from of_minus = magnitude
  number_from (of_word w) = call w
  number_from (of_value n) = fail
  number_from (of_operation w) = fail
  number_from of_other = fail

unfoldable pub number : ℕ → Reader Number
number zero = fail
number (suc depth) = trailing (λ l. number_from (number depth) (head_of l))

-- ---- terms

abbrev pub requested : List ℕ → Reader (Option (List ℕ))
requested name = and_then word (λ w. after_mark Greater (done_if (is_allowed_word name w) (Some w)))

abbrev pub requested_by : Bool → Bool → List ℕ → Reader (Option (List ℕ))
requested_by may must name = either Less (when may (requested name)) (done_if (not must) None)

abbrev pub old_number_from : Head → Reader Number
old_number_from (of_digits ds) = digits false ds
old_number_from of_minus = magnitude
old_number_from (of_word w) = done (named w)
old_number_from (of_value n) = fail
old_number_from (of_operation w) = fail
old_number_from of_other = fail

abbrev pub value_from : List ℕ → Reader Term
value_from n = and_then typed (λ ty. done (value_of n ty))

module _ (left : Bool) (n : Head → Reader Number) (p : Reader Term) where
  abbrev pub operation_from : List ℕ → Reader Term
  operation_from name =
      and_then (requested_by (may_be_requested left name) (must_be_requested name) name) (λ a. after_mark OpenRound
      (and_then (listed CloseRound p most) (λ ts. and_then typed (λ ty. done_if (is_one_of folding name) (operation name a (terms_of ts) ty)))))

  abbrev pub constant_from : Head → Reader Term
  constant_from h = and_then (n h) (λ x. and_then typed (λ ty. done (constant_of x ty)))

  abbrev pub term_from : Head → Reader Term
  term_from (of_value n) = value_from n
  term_from (of_operation w) = operation_from w
  term_from (of_word w) = constant_from (of_word w)
  term_from (of_digits ds) = constant_from (of_digits ds)
  term_from of_minus = constant_from of_minus
  term_from of_other = fail

abbrev pub deep_value : Head → Reader Term
deep_value (of_value n) = value_from n
deep_value (of_operation w) = fail
deep_value (of_word w) = fail
deep_value (of_digits ds) = fail
deep_value of_minus = fail
deep_value of_other = fail

unfoldable pub old_term : ℕ → Reader Term
old_term zero = trailing (λ l. deep_value (head_of l))
old_term (suc depth) = trailing (λ l. term_from true old_number_from (old_term depth) (head_of l))

unfoldable pub new_term : ℕ → Reader Term
new_term zero = fail
new_term (suc depth) = trailing (λ l. term_from false (number_from (number depth)) (new_term depth) (head_of l))

-- ---- conditions, and a pattern

abbrev pub condition_from : Bool → List ℕ → Reader Constraint
condition_from true w = and_then (more CloseRound type most []) (λ tys. done (narrower tys))
condition_from false w = and_then (more CloseRound (number new_depth) most []) (λ ns. done (asking w ns))

abbrev pub condition : Reader Constraint
condition = and_then word (λ w. after_mark OpenRound (condition_from (is_one_of (codes "narrower" ∷ []) w) w))

abbrev pub conditions : Reader (List Constraint)
conditions = either End (done []) (and_then word (λ w. when (is_one_of (codes "where" ∷ []) w) (more End condition most [])))

unfoldable pub read : Reader Pattern
read =
    and_then word (λ name. and_then (old_term old_depth) (λ old. when (is_operation old) (after_mark Equal (after_mark Greater
    (and_then (new_term new_depth) (λ new. and_then conditions (λ cs. done (record { name = name; old = old; new = new; conditions = cs }))))))))
