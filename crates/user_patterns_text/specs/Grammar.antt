-- The grammar of patterns, over the syntax trees of `Syntax`.
use Rattle.std.specs.Prelude.{◌≡◌, ℕ, zero, suc, Bool, true, false, List, [], ◌∷◌, codes, Option, Some, None}
use Rattle.ir_text_tokens.specs.declared.token.Mark.TheVariants.{OpenRound, CloseRound, Less, Greater, Equal, Colon, End}
use Rattle.ir_text_tokens.specs.Tokens.{Lexeme}
use Rattle.ir_text_types.specs.Grammars.{Grammar, Then, Done, DoneIf, When, After, Either, IsList, IsMore, Token, IsMark}
use Rattle.ir_text_types.specs.Typed.{Text}
use Rattle.user_patterns_text.specs.Syntax.{Number, literal, named, called, numbers_of, Term, operation, value_of, constant_of, terms_of, Constraint, narrower, asking, Pattern, is_operation}
use Rattle.user_patterns_text.specs.Heads.{Head, of_value, of_operation, of_word, of_digits, of_minus, of_other, head_of, magnitude_of, is_type_word, is_one_of, folding, is_allowed_word, may_be_requested, must_be_requested}

-- the greatest number of items in a list, and the greatest depth of terms on the left and on the right
abbrev pub most : ℕ
most = 16

abbrev pub old_depth : ℕ
old_depth = 3

abbrev pub new_depth : ℕ
new_depth = 16

-- the grammar of no text
abbrev pub Never : {B : Type 0} → Grammar Text B
Never y old new = ⊥

-- the next token, and then a grammar that depends on the token
abbrev pub Following : {B : Type 0} → (Lexeme → Grammar Text B) → Grammar Text B
Following F y old new = (l : Lexeme) × (rest : Text) × Token l old rest × F l y rest new

-- a word without a dot
abbrev pub IsWordOf : Head → Grammar Text (List ℕ)
IsWordOf (of_word w) = Done w
IsWordOf (of_value n) = Never
IsWordOf (of_operation w) = Never
IsWordOf (of_digits ds) = Never
IsWordOf of_minus = Never
IsWordOf of_other = Never

abbrev pub IsWord : Grammar Text (List ℕ)
IsWord = Following (λ l. IsWordOf (head_of l))

-- a type
abbrev pub IsType : Grammar Text (List ℕ)
IsType = Then IsWord (λ w. DoneIf (is_type_word w ≡ true) w)

-- a colon and a type, or nothing
abbrev pub IsTyped : Grammar Text (Option (List ℕ))
IsTyped = Either IsMark Colon (Then IsType (λ ty. Done (Some ty))) (Done None)

-- ---- numbers

-- the digits of a literal, after its minus if it has one
abbrev pub IsDigits : Bool → List ℕ → Grammar Text Number
IsDigits negative ds y old new = (n : ℕ) × (magnitude_of ds ≡ Some n) × (y ≡ literal negative n) × (new ≡ old)

abbrev pub IsMagnitudeOf : Head → Grammar Text Number
IsMagnitudeOf (of_digits ds) = IsDigits true ds
IsMagnitudeOf (of_word w) = Never
IsMagnitudeOf (of_value n) = Never
IsMagnitudeOf (of_operation w) = Never
IsMagnitudeOf of_minus = Never
IsMagnitudeOf of_other = Never

abbrev pub IsMagnitude : Grammar Text Number
IsMagnitude = Following (λ l. IsMagnitudeOf (head_of l))

module _ (N : Grammar Text Number) where
  -- the rest of a number after its word: a name, or a function with its operands
  abbrev pub IsCalled : List ℕ → Grammar Text Number
  IsCalled w = Either IsMark OpenRound (Then (IsMore IsMark CloseRound (λ before. N) most []) (λ ns. Done (called w (numbers_of ns)))) (Done (named w))

  abbrev pub IsNumberOf : Head → Grammar Text Number
  IsNumberOf (of_digits ds) = IsDigits false ds
  IsNumberOf of_minus = IsMagnitude
  IsNumberOf (of_word w) = IsCalled w
  IsNumberOf (of_value n) = Never
  IsNumberOf (of_operation w) = Never
  IsNumberOf of_other = Never

-- a number of at most that depth
unfoldable pub IsNumber : ℕ → Grammar Text Number
IsNumber zero = Never
IsNumber (suc depth) = Following (λ l. IsNumberOf (IsNumber depth) (head_of l))

-- ---- terms

-- the constraint of an operation, in angle brackets
abbrev pub IsRequested : List ℕ → Grammar Text (Option (List ℕ))
IsRequested name = Then IsWord (λ w. After IsMark Greater (DoneIf (is_allowed_word name w ≡ true) (Some w)))

abbrev pub IsRequestedBy : Bool → Bool → List ℕ → Grammar Text (Option (List ℕ))
IsRequestedBy may must name = Either IsMark Less (When (may ≡ true) (IsRequested name)) (DoneIf (must ≡ false) None)

-- a constant on the left is a literal or a name
abbrev pub IsOldNumberOf : Head → Grammar Text Number
IsOldNumberOf (of_digits ds) = IsDigits false ds
IsOldNumberOf of_minus = IsMagnitude
IsOldNumberOf (of_word w) = Done (named w)
IsOldNumberOf (of_value n) = Never
IsOldNumberOf (of_operation w) = Never
IsOldNumberOf of_other = Never

-- the rest of a value after its name
abbrev pub IsValue : List ℕ → Grammar Text Term
IsValue n = Then IsTyped (λ ty. Done (value_of n ty))

module _ (left : Bool) (N : Head → Grammar Text Number) (P : Grammar Text Term) where
  -- the rest of an operation after its name
  abbrev pub IsOperation : List ℕ → Grammar Text Term
  IsOperation name =
      Then (IsRequestedBy (may_be_requested left name) (must_be_requested name) name) (λ a. After IsMark OpenRound
      (Then (IsList IsMark CloseRound (λ before. P) most) (λ ts. Then IsTyped (λ ty. DoneIf (is_one_of folding name ≡ true) (operation name a (terms_of ts) ty)))))

  -- a constant, given its first token
  abbrev pub IsConstant : Head → Grammar Text Term
  IsConstant h = Then (N h) (λ n. Then IsTyped (λ ty. Done (constant_of n ty)))

  abbrev pub IsTermOf : Head → Grammar Text Term
  IsTermOf (of_value n) = IsValue n
  IsTermOf (of_operation w) = IsOperation w
  IsTermOf (of_word w) = IsConstant (of_word w)
  IsTermOf (of_digits ds) = IsConstant (of_digits ds)
  IsTermOf of_minus = IsConstant of_minus
  IsTermOf of_other = Never

-- operands below the greatest depth on the left are values
abbrev pub IsValueOf : Head → Grammar Text Term
IsValueOf (of_value n) = IsValue n
IsValueOf (of_operation w) = Never
IsValueOf (of_word w) = Never
IsValueOf (of_digits ds) = Never
IsValueOf of_minus = Never
IsValueOf of_other = Never

unfoldable pub IsOld : ℕ → Grammar Text Term
IsOld zero = Following (λ l. IsValueOf (head_of l))
IsOld (suc depth) = Following (λ l. IsTermOf true IsOldNumberOf (IsOld depth) (head_of l))

unfoldable pub IsNew : ℕ → Grammar Text Term
IsNew zero = Never
IsNew (suc depth) = Following (λ l. IsTermOf false (IsNumberOf (IsNumber depth)) (IsNew depth) (head_of l))

-- ---- conditions, and a pattern

abbrev pub IsConditionOf : Bool → List ℕ → Grammar Text Constraint
IsConditionOf true w = Then (IsMore IsMark CloseRound (λ before. IsType) most []) (λ tys. Done (narrower tys))
IsConditionOf false w = Then (IsMore IsMark CloseRound (λ before. IsNumber new_depth) most []) (λ ns. Done (asking w ns))

abbrev pub IsCondition : Grammar Text Constraint
IsCondition = Then IsWord (λ w. After IsMark OpenRound (IsConditionOf (is_one_of (codes "narrower" ∷ []) w) w))

abbrev pub IsWhere : Grammar Text (List Constraint)
IsWhere = Then IsWord (λ w. When (is_one_of (codes "where" ∷ []) w ≡ true) (IsMore IsMark End (λ before. IsCondition) most []))

-- `where` with its conditions, or nothing, up to the end of the text
abbrev pub IsRequestedAtEnd : Grammar Text (List Constraint)
IsRequestedAtEnd = Either IsMark End (Done []) IsWhere

abbrev pub IsPattern : Grammar Text Pattern
IsPattern =
    Then IsWord (λ name. Then (IsOld old_depth) (λ old. When (is_operation old ≡ true) (After IsMark Equal (After IsMark Greater
    (Then (IsNew new_depth) (λ new. Then IsRequestedAtEnd (λ cs. Done (record { name = name; old = old; new = new; conditions = cs }))))))))

-- a text spells a pattern
abbrev pub Spells : Text → Pattern → Type 0
Spells text p = (rest : Text) × IsPattern p text rest
