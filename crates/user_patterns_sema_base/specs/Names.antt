-- The names of a pattern: the names on the left are collected in the order of the text, and others must be among
-- them.
use Rattle.std.specs.Prelude.{ℕ, ◌+◌, ◌-◌, Bool, true, false, not, ◌&&◌, ◌||◌, nat_lt, if◌then◌else◌, List, [], ◌∷◌, ◌++◌, length, Option, Some, None, is_some, is_none, Ok, Err}
use Rattle.std.specs.Str.{bytes_eq}
use Rattle.ir_text_tokens.specs.declared.refusal.TextRefusal.TheVariants.{UnknownValue, TooMany}
use Rattle.user_patterns_text.specs.Grammar.{most}
use Rattle.user_patterns_text.specs.Parts.{Part, operation_part, value_part, literal_part, name_part, function_part, condition_part, type_part, end_part, Placed, Pattern}
use Rattle.user_patterns_text.specs.Refusing.{Outcome, ◌>>=◌, refused}
use Rattle.user_patterns_sema_base.specs.declared.names.Count.{Count}
use Rattle.user_patterns_sema_base.specs.declared.names.Count.TheVariants as count
use Rattle.user_patterns_sema_base.specs.declared.words.Function.{Function}
use Rattle.user_patterns_sema_base.specs.declared.words.Function.TheVariants as function
use Rattle.user_patterns_sema_base.specs.Words.{function_named, is_condition, is_narrower, is_power, is_truth}
use Rattle.user_patterns_sema_base.specs.Views.{Variable}

abbrev pub is_variable : Bool → List ℕ → Variable → Bool
is_variable true name v = v.0 && bytes_eq v.1 name
is_variable false name v = not v.0 && bytes_eq v.1 name

-- the place of a variable, counted from k on
unfoldable pub place_from : ℕ → Bool → List ℕ → List Variable → Option ℕ
place_from k is_value name [] = None
place_from k is_value name (v ∷ vs) = if is_variable is_value name v then Some k else place_from (k + 1) is_value name vs

abbrev pub place_of : Bool → List ℕ → List Variable → Option ℕ
place_of is_value name vs = place_from 0 is_value name vs

-- ---- names on the left

abbrev pub with_variable : ℕ → Bool → List ℕ → List Variable → Outcome (List Variable)
with_variable at is_value name vs =
    if is_some (place_of is_value name vs) then Ok vs
    else if nat_lt (length vs) most then Ok (vs ++ (is_value, name) ∷ [])
    else refused TooMany at

abbrev pub with_part : List Variable → Placed → Outcome (List Variable)
with_part vs (at, value_part name) = with_variable at true name vs
with_part vs (at, name_part name) = if is_truth name then Ok vs else with_variable at false name vs
with_part vs (at, operation_part name asks) = Ok vs
with_part vs (at, literal_part negative magnitude) = Ok vs
with_part vs (at, function_part name) = Ok vs
with_part vs (at, condition_part name) = Ok vs
with_part vs (at, type_part name) = Ok vs
with_part vs (at, end_part) = Ok vs

unfoldable pub taken : List Variable → List Placed → Outcome (List Variable)
taken vs [] = Ok vs
taken vs (p ∷ ps) = with_part vs p >>= λ more. taken more ps

-- ---- counts

-- the numbers of a function: one, and two for a function that uses a literal
abbrev pub function_weight : Option Function → ℕ
function_weight (Some function.Negate) = 2
function_weight (Some function.Complement) = 2
function_weight _ = 1

-- the numbers of a condition: the comparison, and the requirement that it is true
abbrev pub condition_weight : List ℕ → ℕ
condition_weight w = if is_narrower w then 0 else if is_power w then 1 else 2

-- the numbers of a word: `true` and `false` are literals, and a name refers to an existing number
abbrev pub name_weight : List ℕ → ℕ
name_weight w = if is_truth w then 1 else 0

-- the number of operations, of constants on the left, or of computed numbers in a part
abbrev pub weight : Count → Part → ℕ
weight count.Operations (operation_part name asks) = 1
weight count.Constants (literal_part negative magnitude) = 1
weight count.Constants (name_part name) = 1
weight count.Numbers (literal_part negative magnitude) = 1
weight count.Numbers (name_part name) = name_weight name
weight count.Numbers (function_part name) = function_weight (function_named name)
weight count.Numbers (condition_part name) = condition_weight name
weight _ _ = 0

-- the limit of operations on each side, and of the other items
abbrev pub most_of : Count → ℕ
most_of count.Operations = most
most_of count.Constants = 256
most_of count.Numbers = 256

unfoldable pub counted : Count → ℕ → List Placed → Outcome ℕ
counted c n [] = Ok n
counted c n (p ∷ ps) = if nat_lt (most_of c) (n + weight c p.1) then refused TooMany p.0 else counted c (n + weight c p.1) ps

-- ---- known names

abbrev pub is_unknown : List Variable → Part → Bool
is_unknown vs (value_part name) = is_none (place_of true name vs)
is_unknown vs (name_part name) = not (is_truth name) && is_none (place_of false name vs)
is_unknown vs (function_part name) = is_none (function_named name)
is_unknown vs (condition_part name) = not (is_condition name)
is_unknown vs (operation_part name asks) = false
is_unknown vs (literal_part negative magnitude) = false
is_unknown vs (type_part name) = false
is_unknown vs end_part = false

unfoldable pub all_known : List Variable → List Placed → Outcome (Unit {0})
all_known vs [] = Ok tt
all_known vs (p ∷ ps) = if is_unknown vs p.1 then refused UnknownValue p.0 else all_known vs ps

-- the variables, and the numbers of constants on the left, operations on the left, and computed numbers
pub record Names : Type 0 where
  pub variables : List Variable
  pub constants : ℕ
  pub old : ℕ
  pub numbers : ℕ

unfoldable pub names_of : Pattern → Outcome Names
names_of p = do
  vs ← taken [] p.old
  old ← counted count.Operations 0 p.old
  new ← counted count.Operations 0 p.new
  constants ← counted count.Constants 0 p.old
  numbers ← counted count.Numbers 0 p.new
  all ← counted count.Numbers numbers p.conditions
  known ← all_known vs p.new
  type_constraints ← all_known vs p.conditions
  Ok (record { variables = vs; constants = constants; old = old; numbers = all })
