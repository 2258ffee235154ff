-- The printed text of a pattern. Each printer takes the text that follows.
use Rattle.std.specs.Prelude.{◌≡◌, ℕ, zero, suc, ◌^◌, ◌<◌, ◌≤◌, Bool, true, false, List, [], ◌∷◌, ◌++◌, codes, Option, Some, None, length}
use Rattle.std.specs.Fmt.{decimal}
use Rattle.ir_text_tokens.specs.Printing.{is_bare_id, is_suffix_id}
use Rattle.ir_text_types.specs.Typed.{Text}
use Rattle.user_patterns_text.specs.Syntax.{Number, Numbers, literal, named, called, no_numbers, next_number, number_list, numbers_of, Term, Terms, operation, value_of, constant_of, no_terms, next_term, term_list, Constraint, narrower, asking, Pattern, is_operation}
use Rattle.user_patterns_text.specs.Heads.{has_dot, is_type_word, is_one_of, folding, is_allowed_word, may_be_requested, must_be_requested}
use Rattle.user_patterns_text.specs.Grammar.{most, old_depth, new_depth}
use Rattle.user_patterns_text.specs.Recognizing.{read}

abbrev pub signed : Bool → Text → Text
signed true text = 45 ∷ text
signed false text = text

-- a number; numbers up to a closing parenthesis
unfoldable mutual
  pub show_number : Number → Text → Text
  show_number (literal negative n) rest = signed negative (decimal n ++ rest)
  show_number (named w) rest = w ++ rest
  show_number (called w ns) rest = w ++ (40 ∷ show_numbers ns rest)

  pub show_numbers : Numbers → Text → Text
  show_numbers no_numbers rest = 41 ∷ rest
  show_numbers (next_number n ns) rest = show_number n (show_more ns rest)

  pub show_more : Numbers → Text → Text
  show_more no_numbers rest = 41 ∷ rest
  show_more (next_number n ns) rest = 44 ∷ 32 ∷ show_number n (show_more ns rest)

-- ---- printable patterns

abbrev pub IsName : List ℕ → Type 0
IsName w = (is_bare_id w ≡ true) × (has_dot w ≡ false)

unfoldable mutual
  pub FitsNumber : ℕ → Number → Type 0
  FitsNumber zero n = ⊥
  FitsNumber (suc depth) (literal negative n) = n < 2 ^ 128
  FitsNumber (suc depth) (named w) = IsName w
  FitsNumber (suc depth) (called w ns) = IsName w × FitsList depth ns × (length (number_list ns) ≤ most)

  pub FitsList : ℕ → Numbers → Type 0
  FitsList depth no_numbers = ⊥
  FitsList depth (next_number n ns) = FitsNumber depth n × FitsRest depth ns

  pub FitsRest : ℕ → Numbers → Type 0
  FitsRest depth no_numbers = Unit {0}
  FitsRest depth (next_number n ns) = FitsNumber depth n × FitsRest depth ns

-- ---- terms

-- a colon and the type, if there is one
abbrev pub show_type : Option (List ℕ) → Text → Text
show_type None rest = rest
show_type (Some w) rest = 32 ∷ 58 ∷ 32 ∷ (w ++ rest)

-- the constraint of an operation in angle brackets, if there is one
abbrev pub show_requested : Option (List ℕ) → Text → Text
show_requested None rest = rest
show_requested (Some w) rest = 60 ∷ (w ++ (62 ∷ rest))

unfoldable mutual
  pub show_term : Term → Text → Text
  show_term (operation name a ts ty) rest = name ++ show_requested a (40 ∷ show_terms ts (show_type ty rest))
  show_term (value_of n ty) rest = 37 ∷ (n ++ show_type ty rest)
  show_term (constant_of k ty) rest = show_number k (show_type ty rest)

  pub show_terms : Terms → Text → Text
  show_terms no_terms rest = 41 ∷ rest
  show_terms (next_term t ts) rest = show_term t (show_next ts rest)

  pub show_next : Terms → Text → Text
  show_next no_terms rest = 41 ∷ rest
  show_next (next_term t ts) rest = 44 ∷ 32 ∷ show_term t (show_next ts rest)

abbrev pub FitsType : Option (List ℕ) → Type 0
FitsType None = Unit {0}
FitsType (Some w) = IsName w × (is_type_word w ≡ true)

abbrev pub FitsRequested : Bool → List ℕ → Option (List ℕ) → Type 0
FitsRequested left name None = must_be_requested name ≡ false
FitsRequested left name (Some w) = IsName w × (may_be_requested left name ≡ true) × (is_allowed_word name w ≡ true)

abbrev pub IsOperationName : List ℕ → Type 0
IsOperationName name = (is_bare_id name ≡ true) × (has_dot name ≡ true) × (is_one_of folding name ≡ true)

abbrev pub FitsOldNumber : Number → Type 0
FitsOldNumber (literal negative n) = n < 2 ^ 128
FitsOldNumber (named w) = IsName w
FitsOldNumber (called w ns) = ⊥

unfoldable mutual
  pub FitsOld : ℕ → Term → Type 0
  FitsOld depth (value_of n ty) = (is_suffix_id n ≡ true) × FitsType ty
  FitsOld zero (constant_of k ty) = ⊥
  FitsOld zero (operation name a ts ty) = ⊥
  FitsOld (suc depth) (constant_of k ty) = FitsOldNumber k × FitsType ty
  FitsOld (suc depth) (operation name a ts ty) =
      IsOperationName name × FitsRequested true name a × FitsOlds depth ts × (length (term_list ts) ≤ most) × FitsType ty

  pub FitsOlds : ℕ → Terms → Type 0
  FitsOlds depth no_terms = Unit {0}
  FitsOlds depth (next_term t ts) = FitsOld depth t × FitsOlds depth ts

unfoldable mutual
  pub FitsNew : ℕ → Term → Type 0
  FitsNew zero t = ⊥
  FitsNew (suc depth) (value_of n ty) = (is_suffix_id n ≡ true) × FitsType ty
  FitsNew (suc depth) (constant_of k ty) = FitsNumber (suc depth) k × FitsType ty
  FitsNew (suc depth) (operation name a ts ty) =
      IsOperationName name × FitsRequested false name a × FitsNews depth ts × (length (term_list ts) ≤ most) × FitsType ty

  pub FitsNews : ℕ → Terms → Type 0
  FitsNews depth no_terms = Unit {0}
  FitsNews depth (next_term t ts) = FitsNew depth t × FitsNews depth ts

-- ---- conditions, and a pattern

abbrev pub show_words : List (List ℕ) → Text → Text
show_words [] rest = 41 ∷ rest
show_words (w ∷ ws) rest = 44 ∷ 32 ∷ (w ++ show_words ws rest)

abbrev pub show_some_words : List (List ℕ) → Text → Text
show_some_words [] rest = 41 ∷ rest
show_some_words (w ∷ ws) rest = w ++ show_words ws rest

abbrev pub show_condition : Constraint → Text → Text
show_condition (narrower tys) rest = codes "narrower" ++ (40 ∷ show_some_words tys rest)
show_condition (asking w ns) rest = w ++ (40 ∷ show_numbers (numbers_of ns) rest)

abbrev pub show_conditions : List Constraint → Text
show_conditions [] = []
show_conditions (c ∷ cs) = 44 ∷ 32 ∷ show_condition c (show_conditions cs)

abbrev pub show_where : List Constraint → Text
show_where [] = []
show_where (c ∷ cs) = 32 ∷ (codes "where" ++ (32 ∷ show_condition c (show_conditions cs)))

-- the text of a pattern
abbrev pub text_of : Pattern → Text
text_of p = p.name ++ (32 ∷ show_term p.old (32 ∷ 61 ∷ 62 ∷ 32 ∷ show_term p.new (show_where p.conditions)))

abbrev pub AreTypes : List (List ℕ) → Type 0
AreTypes [] = Unit {0}
AreTypes (w ∷ ws) = (IsName w × (is_type_word w ≡ true)) × AreTypes ws

abbrev pub FitsCondition : Constraint → Type 0
FitsCondition (narrower []) = ⊥
FitsCondition (narrower (w ∷ ws)) = AreTypes (w ∷ ws) × (length (w ∷ ws) ≤ most)
FitsCondition (asking w ns) = IsName w × (is_one_of (codes "narrower" ∷ []) w ≡ false) × FitsList new_depth (numbers_of ns) × (length ns ≤ most)

abbrev pub FitConditions : List Constraint → Type 0
FitConditions [] = Unit {0}
FitConditions (c ∷ cs) = FitsCondition c × FitConditions cs

-- a pattern can be printed if its words are words of the grammar, its numbers are below 2^128, its depth is within
-- the limits, and its lists are short enough
abbrev pub IsPrintable : Pattern → Type 0
IsPrintable p =
    IsName p.name × FitsOld old_depth p.old × (is_operation p.old ≡ true) × FitsNew new_depth p.new
    × FitConditions p.conditions × (length p.conditions ≤ most)

-- the printed text of a printable pattern reads as the pattern
abbrev pub IsReadAgain : Type 0
IsReadAgain = (p : Pattern) → IsPrintable p → read (text_of p) ≡ Some (p, [])

-- every pattern that was read from a text can be printed and read again
abbrev pub WhatIsReadIsReadAgain : Type 0
WhatIsReadIsReadAgain = (text rest : Text) (p : Pattern) → read text ≡ Some (p, rest) → read (text_of p) ≡ Some (p, [])
