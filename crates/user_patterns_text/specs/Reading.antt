-- The parser: reads a text into its parts, or finds the first refusal.
use Rattle.std.specs.Prelude.{ℕ, zero, suc, Bool, true, false, if◌then◌else◌, List, [], ◌∷◌, ◌++◌, codes, length, Option, Some, None, Ok, Err}
use Rattle.ir_text_tokens.specs.declared.refusal.TextRefusal.{TextRefusal}
use Rattle.ir_text_tokens.specs.declared.refusal.TextRefusal.TheVariants.{Unexpected, BadWidth, BadValue, TooDeep, TooMany, LeftOut}
use Rattle.ir_text_tokens.specs.declared.token.Mark.{Mark}
use Rattle.ir_text_tokens.specs.declared.token.Mark.TheVariants.{OpenRound, CloseRound, Less, Greater, Comma, Equal, Colon, End}
use Rattle.ir_text_types.specs.Marks.{after}
use Rattle.ir_text_types.specs.Typed.{Text}
use Rattle.user_patterns_text.specs.Grammar.{most, old_depth, new_depth}
use Rattle.user_patterns_text.specs.Heads.{Head, of_value, of_operation, of_word, of_digits, of_minus, of_other, head_of, magnitude_of, is_type_word, is_one_of, folding, is_allowed_word, may_be_requested, must_be_requested}
use Rattle.user_patterns_text.specs.Parts.{Part, operation_part, value_part, literal_part, name_part, function_part, condition_part, type_part, end_part, Placed, Pattern}
use Rattle.user_patterns_text.specs.Refusing.{Outcome, ◌>>=◌, refused, begins, token_at, wrong, trailing}

-- the parts so far, and the rest of the text
abbrev pub State : Type 0
State = List Placed × Text

abbrev pub Step : Type 0
Step = State → Outcome State

abbrev pub and : List Placed → ℕ → Part → List Placed
and ps left p = ps ++ (left, p) ∷ []

abbrev pub add_part : ℕ → Part → State → State
add_part left p s = (and s.0 left p, s.1)

abbrev pub refuse : TextRefusal → ℕ → Step
refuse r left s = refused r left

-- adds the end of a list
abbrev pub ended : State → State
ended s = add_part (length s.1) end_part s

-- ---- lists

module _ (close : Mark) (item : Step) where
  abbrev pub more_from : Step → State → Option Text → Outcome State
  more_from go s (Some end) = Ok (s.0, end)
  more_from go s None = trailing Comma s.1 >>= λ rest. go (s.0, rest)

  -- at least one item and at most `n`, separated by commas, up to the closing mark
  unfoldable pub more_at : ℕ → Step
  more_at zero s = item s >>= λ x. refused TooMany (begins s.1)
  more_at (suc headroom) s = item s >>= λ x. more_from (more_at headroom) x (after close x.1)

  abbrev pub listed_from : ℕ → State → Option Text → Outcome State
  listed_from headroom s (Some end) = Ok (s.0, end)
  listed_from headroom s None = more_at headroom s

  -- no items, or at most `n`, up to the closing mark
  unfoldable pub listed_at : ℕ → Step
  listed_at headroom s = listed_from headroom s (after close s.1)

-- ---- words and types

abbrev pub word_from : ℕ → Head → Text → Outcome (List ℕ × Text)
word_from at (of_word w) rest = Ok (w, rest)
word_from at (of_value n) rest = refused Unexpected at
word_from at (of_operation w) rest = refused Unexpected at
word_from at (of_digits ds) rest = refused Unexpected at
word_from at of_minus rest = refused Unexpected at
word_from at of_other rest = refused Unexpected at

-- a word without a dot
unfoldable pub word_at : Text → Outcome (List ℕ × Text)
word_at s = token_at s >>= λ t. word_from (begins s) (head_of t.0) t.1

-- a type, by its word
unfoldable pub type_at : Step
type_at s = word_at s.1 >>= λ w. if is_type_word w.0 then Ok (and s.0 (begins s.1) (type_part w.0), w.1) else refused BadWidth (begins s.1)

abbrev pub typed_from : State → Option Text → Outcome State
typed_from s (Some rest) = type_at (s.0, rest)
typed_from s None = Ok s

-- a colon and a type, or nothing
unfoldable pub typed_at : Step
typed_at s = typed_from s (after Colon s.1)

-- ---- numbers

abbrev pub literal_from : ℕ → ℕ → Bool → Option ℕ → Step
literal_from at digits negative (Some n) s = Ok (add_part at (literal_part negative n) s)
literal_from at digits negative None s = refused BadValue digits

abbrev pub magnitude_from : ℕ → ℕ → Head → Step
magnitude_from at digits (of_digits ds) = literal_from at digits true (magnitude_of ds)
magnitude_from at digits (of_word w) = refuse Unexpected digits
magnitude_from at digits (of_value n) = refuse Unexpected digits
magnitude_from at digits (of_operation w) = refuse Unexpected digits
magnitude_from at digits of_minus = refuse Unexpected digits
magnitude_from at digits of_other = refuse Unexpected digits

-- the digits after a minus
unfoldable pub magnitude_at : ℕ → Step
magnitude_at at s = token_at s.1 >>= λ t. magnitude_from at (begins s.1) (head_of t.0) (s.0, t.1)

module _ (number : Step) where
  abbrev pub call_from : ℕ → List ℕ → State → Option Text → Outcome State
  call_from at w s (Some rest) = more_at CloseRound number most (and s.0 at (function_part w), rest) >>= λ x. Ok (ended x)
  call_from at w s None = Ok (add_part at (name_part w) s)

  -- the rest of a number after its word: a name, or a function with its operands
  unfoldable pub call_at : ℕ → List ℕ → Step
  call_at at w s = call_from at w s (after OpenRound s.1)

  -- a number, given its first token
  unfoldable pub number_from : ℕ → Head → Step
  number_from at (of_digits ds) = literal_from at at false (magnitude_of ds)
  number_from at of_minus = magnitude_at at
  number_from at (of_word w) = call_at at w
  number_from at (of_value n) = refuse Unexpected at
  number_from at (of_operation w) = refuse Unexpected at
  number_from at of_other = refuse Unexpected at

-- the refusal of a number at a place where no number is allowed
abbrev pub deep_number : Head → TextRefusal
deep_number (of_digits ds) = TooDeep
deep_number of_minus = TooDeep
deep_number (of_word w) = TooDeep
deep_number (of_value n) = Unexpected
deep_number (of_operation w) = Unexpected
deep_number of_other = Unexpected

-- a number of at most that depth
unfoldable pub number_at : ℕ → Step
number_at zero s = token_at s.1 >>= λ t. refused (deep_number (head_of t.0)) (begins s.1)
number_at (suc depth) s = token_at s.1 >>= λ t. number_from (number_at depth) (begins s.1) (head_of t.0) (s.0, t.1)

-- ---- terms

-- a constant on the left is a literal or a name
abbrev pub old_number_from : ℕ → Head → Step
old_number_from at (of_digits ds) = literal_from at at false (magnitude_of ds)
old_number_from at of_minus = magnitude_at at
old_number_from at (of_word w) = λ s. Ok (add_part at (name_part w) s)
old_number_from at (of_value n) = refuse Unexpected at
old_number_from at (of_operation w) = refuse Unexpected at
old_number_from at of_other = refuse Unexpected at

abbrev pub allowed : List ℕ → ℕ → List ℕ × Text → Outcome (Option (List ℕ) × Text)
allowed name at w = if is_allowed_word name w.0 then (trailing Greater w.1 >>= λ rest. Ok (Some w.0, rest)) else refused Unexpected at

-- the constraint after the opening angle bracket
unfoldable pub requested_at : List ℕ → Text → Outcome (Option (List ℕ) × Text)
requested_at name s = word_at s >>= allowed name (begins s)

abbrev pub requested_from : Bool → Bool → List ℕ → Text → Option Text → Outcome (Option (List ℕ) × Text)
requested_from may must name s (Some rest) = if may then requested_at name rest else Err (wrong Unexpected s)
requested_from may must name s None = if must then Err (wrong Unexpected s) else Ok (None, s)

-- the constraint of an operation, if it has one
unfoldable pub requested_by : Bool → Bool → List ℕ → Text → Outcome (Option (List ℕ) × Text)
requested_by may must name s = requested_from may must name s (after Less s)

-- the rest of a value after its name
abbrev pub value_from : ℕ → List ℕ → Step
value_from at n s = typed_at (add_part at (value_part n) s)

-- the constraint and the opening parenthesis after the name of an operation
unfoldable pub opened_at : Bool → ℕ → List ℕ → Step
opened_at left at name s = do
  a ← requested_by (may_be_requested left name) (must_be_requested name) name s.1
  rest ← trailing OpenRound a.1
  Ok (and s.0 at (operation_part name a.0), rest)

-- the operands, and the type of the result
unfoldable pub operands_at : Step → Step
operands_at term s = listed_at CloseRound term most s >>= λ x. typed_at (ended x)

-- the rest of an operation after its name
unfoldable pub operation_at : Bool → Step → ℕ → List ℕ → Step
operation_at left term at name s = if is_one_of folding name then opened_at left at name s >>= operands_at term else refused LeftOut at

-- a constant, given its first token
unfoldable pub constant_from : (ℕ → Head → Step) → ℕ → Head → Step
constant_from number at h s = number at h s >>= typed_at

-- a term, given its first token
unfoldable pub term_from : Bool → (ℕ → Head → Step) → Step → ℕ → Head → Step
term_from left number term at (of_value n) = value_from at n
term_from left number term at (of_operation w) = operation_at left term at w
term_from left number term at (of_word w) = constant_from number at (of_word w)
term_from left number term at (of_digits ds) = constant_from number at (of_digits ds)
term_from left number term at of_minus = constant_from number at of_minus
term_from left number term at of_other = refuse Unexpected at

abbrev pub deep_operation : List ℕ → TextRefusal
deep_operation w = if is_one_of folding w then TooDeep else LeftOut

-- terms below the greatest depth: values on the left, nothing on the right
abbrev pub deep_value : Bool → ℕ → List ℕ → Step
deep_value true at n = value_from at n
deep_value false at n = refuse TooDeep at

unfoldable pub deep_term : Bool → ℕ → Head → Step
deep_term left at (of_value n) = deep_value left at n
deep_term left at (of_operation w) = refuse (deep_operation w) at
deep_term left at (of_word w) = refuse TooDeep at
deep_term left at (of_digits ds) = refuse TooDeep at
deep_term left at of_minus = refuse TooDeep at
deep_term left at of_other = refuse Unexpected at

-- a constant on that side: numbers inside it have at most that depth
abbrev pub constant_number : Bool → ℕ → ℕ → Head → Step
constant_number true depth = old_number_from
constant_number false depth = number_from (number_at depth)

-- a term of at most that depth, on the left or on the right
unfoldable pub term_at : Bool → ℕ → Step
term_at left zero s = token_at s.1 >>= λ t. deep_term left (begins s.1) (head_of t.0) (s.0, t.1)
term_at left (suc depth) s = token_at s.1 >>= λ t. term_from left (constant_number left depth) (term_at left depth) (begins s.1) (head_of t.0) (s.0, t.1)

-- ---- conditions, and a pattern

abbrev pub parts_of : Bool → Step
parts_of true = more_at CloseRound type_at most
parts_of false = more_at CloseRound (number_at new_depth) most

-- the rest of a condition after its word
unfoldable pub condition_from : ℕ → List ℕ → Step
condition_from at w s = do
  rest ← trailing OpenRound s.1
  x ← parts_of (is_one_of (codes "narrower" ∷ []) w) (and s.0 at (condition_part w), rest)
  Ok (ended x)

unfoldable pub condition_at : Step
condition_at s = word_at s.1 >>= λ w. condition_from (begins s.1) w.0 (s.0, w.1)

-- the word `where` and the conditions after it
unfoldable pub where_at : Step
where_at s = word_at s.1 >>= λ w. if is_one_of (codes "where" ∷ []) w.0 then more_at End condition_at most (s.0, w.1) else refused Unexpected (begins s.1)

abbrev pub conditions_from : State → Option Text → Outcome State
conditions_from s (Some rest) = Ok (s.0, rest)
conditions_from s None = where_at s

-- `where` with its conditions, or nothing, up to the end of the text
unfoldable pub conditions_at : Step
conditions_at s = conditions_from s (after End s.1)

abbrev pub begins_operation : List Placed → Bool
begins_operation ((at, operation_part name asks) ∷ ps) = true
begins_operation _ = false

-- the left side must be an operation, not a value or a constant
unfoldable pub root_at : Text → Outcome State
root_at s = term_at true old_depth ([], s) >>= λ old. if begins_operation old.0 then Ok old else refused Unexpected (begins s)

-- the rest of the text after the arrow
unfoldable pub after_arrow : Text → Outcome Text
after_arrow s = trailing Equal s >>= λ rest. trailing Greater rest

-- both sides and the conditions, after the name
unfoldable pub sides_at : List ℕ → Text → Outcome Pattern
sides_at name s = do
  old ← root_at s
  rest ← after_arrow old.1
  new ← term_at false new_depth ([], rest)
  conditions ← conditions_at ([], new.1)
  Ok (record { name = name; old = old.0; new = new.0; conditions = conditions.0 })

unfoldable pub pattern_at : Text → Outcome Pattern
pattern_at s = word_at s >>= λ name. sides_at name.0 name.1
