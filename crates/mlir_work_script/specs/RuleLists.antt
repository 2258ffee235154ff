-- Lists of rules and patterns in a command, as `1-3,7,mine`: items that commas separate. An item is a name, or a range
-- of rule numbers.
use Rattle.std.specs.Prelude.{ℕ, zero, suc, ◌+◌, ◌-◌, List, [], ◌∷◌, ◌++◌, ◌==◌, ◌&&◌, ◌||◌, nat_le, Bool, true, false, Option, Some, None, is_some, if◌then◌else◌, codes, option_and_then}
use Rattle.std.specs.List.{list_all}
use Rattle.std.specs.Option.{option_copied}
use Rattle.std.specs.Str.{bytes_eq}
use Rattle.rewriter_machine.specs.Commands.{RuleName, Numbered, Worded}
use Rattle.mlir_work_script_base.specs.Cuts.{before, after}
use Rattle.mlir_work_script_base.specs.Items.{items_after, items_of}
use Rattle.mlir_work_script_base.specs.Numbers.{number_of}
use Rattle.mlir_work_script_base.specs.RuleNames.{name_or_none, rewriting, rule_in}
use Rattle.mlir_work_script.specs.declared.rule_lists.RuleNames.{RuleNames as Coded}

-- ---- ranges

abbrev pub is_hyphen : ℕ → Bool
is_hyphen b = b == 45

-- two rule numbers from 1 to 24, the first not above the second
abbrev pub range_from : Option ℕ → Option ℕ → Option (ℕ × ℕ)
range_from (Some first) (Some last) = if nat_le 1 first && (nat_le first last && nat_le last 24) then Some (first, last) else None
range_from (Some first) None = None
range_from None last = None

-- the first and the last number of a range, as `4-9`
abbrev pub range_in : List ℕ → Option (ℕ × ℕ)
range_in item = range_from (number_of (before is_hyphen item)) (number_of (after is_hyphen item))

-- so many rule numbers, from `n` on
unfoldable pub numbers_from : ℕ → ℕ → List RuleName
numbers_from n zero = []
numbers_from n (suc left) = Numbered n ∷ numbers_from (n + 1) left

-- the rule numbers of a range in order
abbrev pub numbers_of : ℕ × ℕ → List RuleName
numbers_of r = numbers_from r.0 ((r.1 + 1) - r.0)

-- ---- lists

-- the names of an item: the numbers of a range, or one name
abbrev pub names_or : Option (ℕ × ℕ) → List ℕ → List RuleName
names_or None item = name_or_none (rule_in item) ∷ []
names_or (Some r) item = numbers_of r

abbrev pub names_in : List ℕ → List RuleName
names_in item = names_or (range_in item) item

abbrev pub names_of_items : List (List ℕ) → List RuleName
names_of_items [] = []
names_of_items (item ∷ items) = names_in item ++ names_of_items items

-- the names of a list in order
abbrev pub names_of : List ℕ → List RuleName
names_of text = names_of_items (items_of text)

-- whether each item is a range, or may name a rewriting rule
abbrev pub is_item : List ℕ → Bool
is_item item = is_some (range_in item) || is_some (option_and_then rewriting (rule_in item))

abbrev pub are_items : List ℕ → Bool
are_items text = list_all is_item (items_of text)

-- ---- the word `canon`

abbrev pub is_canon : RuleName → Bool
is_canon (Numbered n) = false
is_canon (Worded word) = bytes_eq word (codes "canon")

-- the rules of canonicalization in the order of their numbers
abbrev pub canonical_numbers : List RuleName
canonical_numbers = numbers_from 1 24

abbrev pub each_opened : List RuleName → List RuleName
each_opened [] = []
each_opened (name ∷ names) = (if is_canon name then canonical_numbers else name ∷ []) ++ each_opened names

-- the names of a list if a pattern is named `canon`, and if none is: then the word stands for the rules 1 to 24
abbrev pub opened : Bool → List RuleName → List RuleName
opened true names = names
opened false names = each_opened names

-- ---- the remaining names

abbrev pub names_after : Option (List ℕ) → List RuleName
names_after list = names_of_items (items_after list)

abbrev pub names_left : Coded → List RuleName
names_left l = numbers_from l.next (l.end - l.next) ++ opened l.has_canon (names_after (option_copied l.rest))

abbrev pub with_first : Option RuleName → List RuleName → List RuleName
with_first None names = []
with_first (Some name) names = name ∷ names
