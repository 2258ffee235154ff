-- Comma-separated lists in one word.
use Rattle.std.specs.Prelude.{ℕ, List, [], ◌∷◌, ◌==◌, Bool, not, Option, Some, None, is_some, length, if◌then◌else◌}
use Rattle.std.specs.Prelude.{map}
use Rattle.std.specs.List.{list_all}
use Rattle.mlir_work_script_base.specs.Lines.{onto_first}
use Rattle.mlir_work_script_base.specs.Numbers.{number_of}

abbrev pub is_comma : ℕ → Bool
is_comma b = b == 44

-- the items in order; there is one more than there are commas
abbrev pub items_of : List ℕ → List (List ℕ)
items_of [] = [] ∷ []
items_of (b ∷ bs) = if is_comma b then [] ∷ items_of bs else onto_first b (items_of bs)

-- the items after a comma; none after the last item
abbrev pub items_after : Option (List ℕ) → List (List ℕ)
items_after None = []
items_after (Some text) = items_of text

-- a name has at least one byte
abbrev pub is_name : List ℕ → Bool
is_name item = not (length item == 0)

abbrev pub is_number : List ℕ → Bool
is_number item = is_some (number_of item)

-- whether each item is a name, and whether each is a number
abbrev pub are_names : List ℕ → Bool
are_names text = list_all is_name (items_of text)

abbrev pub are_numbers : List ℕ → Bool
are_numbers text = list_all is_number (items_of text)

abbrev pub number_or_zero : Option ℕ → ℕ
number_or_zero None = 0
number_or_zero (Some n) = n

-- the numbers of the items
abbrev pub numbers_of : List ℕ → List ℕ
numbers_of text = map (λ item. number_or_zero (number_of item)) (items_of text)
