-- Necessary tests for rules.
use Rattle.std.specs.Prelude.{ℕ, List, [], ◌∷◌, codes, Bool, false, if◌then◌else◌, Option, Some, None}
use Rattle.std.specs.List.{list_all, list_any}
use Rattle.ir_event.specs.trees.declared.value.Value.{Value}
use Rattle.ir_event.specs.trees.Uses.{same_value}
use Rattle.ir_event.specs.trees.Meaning.{Operation}
use Rattle.patterns_matchers.specs.Casting.{resizing}
use Rattle.patterns_matchers.specs.Looks.{Header, One, Three, defining_op, is_constant, one, three}
use Rattle.patterns_matchers.specs.Words.{among, extensions, named}

-- whether there are two operands that pass a test
abbrev pub of_pair : (Value → Value → Bool) → List Value → Bool
of_pair f (a ∷ b ∷ []) = f a b
of_pair f _ = false

-- whether an operation has three operands and one result, and passes a test
abbrev pub of_three : (Three → Bool) → Option Three → Bool
of_three f None = false
of_three f (Some p) = f p

module _ (t : Operation) (h : Header) where
  -- whether the first of two operands is the result of a constant
  abbrev pub first_is_constant : Bool
  first_is_constant = of_pair (λ a b. is_constant t a) h.operands

  abbrev pub second_is_constant : Bool
  second_is_constant = of_pair (λ a b. is_constant t b) h.operands

  -- whether the condition of a select is the result of a constant, and whether its first value is
  abbrev pub chooses_by_constant : Bool
  chooses_by_constant = of_three (λ p. is_constant t p.first) (three h)

  abbrev pub chooses_constant : Bool
  chooses_constant = of_three (λ p. is_constant t p.second) (three h)

-- whether both operands are the same value, and whether both values of a select are the same
abbrev pub has_duplicates : Header → Bool
has_duplicates h = of_pair same_value h.operands

abbrev pub chooses_duplicates : Header → Bool
chooses_duplicates h = of_three (λ p. same_value p.second p.third) (three h)

-- whether any operand is the result of a constant, and whether every operand is
abbrev pub reads_constant : Operation → Header → Bool
reads_constant t h = list_any (is_constant t) h.operands

abbrev pub reads_constants : Operation → Header → Bool
reads_constants t h = list_all (is_constant t) h.operands

-- the operations that may fold even if some operands aren't known
unfoldable pub partial : List (List ℕ)
partial = codes "arith.muli" ∷ codes "arith.andi" ∷ codes "arith.ori" ∷ codes "arith.select" ∷ []

-- whether enough operands are results of constants for a fold
abbrev pub may_fold : Operation → Header → Bool
may_fold t h = if among partial h.name then reads_constant t h else reads_constants t h

-- one operand
abbrev pub of_one : (One → Bool) → Option One → Bool
of_one f None = false
of_one f (Some p) = f p

-- whether there is a header whose name passes a test
abbrev pub is_called : (List ℕ → Bool) → Option Header → Bool
is_called f None = false
is_called f (Some h) = f h.name

-- whether an extension has an extension as operand, a truncation a cast, and a select an exclusive or as condition
abbrev pub extends_extension : Operation → Header → Bool
extends_extension t h = of_one (λ p. is_called (among extensions) (defining_op t p.first)) (one h)

abbrev pub cuts_cast : Operation → Header → Bool
cuts_cast t h = of_one (λ p. is_called (among resizing) (defining_op t p.first)) (one h)

abbrev pub chooses_by_opposite : Operation → Header → Bool
chooses_by_opposite t h = of_three (λ p. is_called (named (codes "arith.xori")) (defining_op t p.first)) (three h)
