-- The syntax tree of a pattern's text, before name lookup and type inference. A type is its word in the text.
use Rattle.std.specs.Prelude.{ℕ, Bool, true, false, List, [], ◌∷◌, Option}

mutual
  -- a number: a literal and whether it has a minus, a name, or a function of numbers
  pub data Number : Type 0 where
    literal : Bool → ℕ → Number
    named : List ℕ → Number
    called : List ℕ → Numbers → Number

  pub data Numbers : Type 0 where
    no_numbers : Numbers
    next_number : Number → Numbers → Numbers

mutual
  -- a term: an operation with its constraint, operands and type; a value; or a constant
  pub data Term : Type 0 where
    operation : List ℕ → Option (List ℕ) → Terms → Option (List ℕ) → Term
    value_of : List ℕ → Option (List ℕ) → Term
    constant_of : Number → Option (List ℕ) → Term

  pub data Terms : Type 0 where
    no_terms : Terms
    next_term : Term → Terms → Terms

abbrev pub numbers_of : List Number → Numbers
numbers_of [] = no_numbers
numbers_of (n ∷ ns) = next_number n (numbers_of ns)

abbrev pub terms_of : List Term → Terms
terms_of [] = no_terms
terms_of (t ∷ ts) = next_term t (terms_of ts)

-- a condition: `narrower` of types, or a named condition on numbers
pub data Constraint : Type 0 where
  narrower : List (List ℕ) → Constraint
  asking : List ℕ → List Number → Constraint

pub record Pattern : Type 0 where
  pub name : List ℕ
  pub old : Term
  pub new : Term
  pub conditions : List Constraint

abbrev pub is_operation : Term → Bool
is_operation (operation name asks operands ty) = true
is_operation (value_of name ty) = false
is_operation (constant_of number ty) = false

-- numbers and terms as lists
abbrev pub number_list : Numbers → List Number
number_list no_numbers = []
number_list (next_number n ns) = n ∷ number_list ns

abbrev pub term_list : Terms → List Term
term_list no_terms = []
term_list (next_term t ts) = t ∷ term_list ts
