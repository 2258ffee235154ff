-- Free names of a text: each denotes a value of the outer module.
use Rattle.std.specs.Prelude.{ℕ, ◌==◌, not, ◌&&◌, nat_le, if◌then◌else◌, List, [], ◌∷◌, length, take, drop, Option, Some, None, option_map, option_and_then}
use Rattle.std.specs.List.{list_all, prefix_len}
use Rattle.std.specs.Char.{is_ascii_digit}
use Rattle.ir_text_tokens.specs.Numbers.{place_value}
use Rattle.ir_text_tokens.specs.Scopes.{Binding, find, or_else}
use Rattle.ir_types.specs.Things.{ContextModel}
use Rattle.ir_types.specs.Terms.{type_term}
use Rattle.ir_tree.specs.declared.value.Value.{Value}
use Rattle.ir_tree.specs.declared.value.Value.TheVariants as values
use Rattle.ir_text_names.specs.declared.bound.TypedValue.{TypedValue}
use Rattle.ir_text_operations.specs.ParseState.{BoundTerm}

-- ---- the value of a name

-- a number that may be an id, a region's index or a value's index
abbrev pub small : ℕ → Option ℕ
small n = if nat_le n 4294967295 then Some n else None

-- the number that decimal digits denote
abbrev pub number_of : List ℕ → Option ℕ
number_of digits = if not (length digits == 0) && list_all is_ascii_digit digits then small (place_value 10 digits) else None

abbrev pub before_dot : List ℕ → ℕ
before_dot bytes = prefix_len (λ b. not (b == 46)) bytes

abbrev pub after_dot : List ℕ → List ℕ → Option (List ℕ × List ℕ)
after_dot preceding [] = None
after_dot preceding (dot ∷ back) = Some (preceding, back)

-- the text before the first dot and the text after it
abbrev pub at_dot : List ℕ → Option (List ℕ × List ℕ)
at_dot bytes = after_dot (take (before_dot bytes) bytes) (drop (before_dot bytes) bytes)

-- two numbers that are separated by a dot
abbrev pub two_numbers : List ℕ → Option (ℕ × ℕ)
two_numbers bytes = option_and_then (λ p. option_and_then (λ x. option_map (λ y. (x, y)) (number_of p.1)) (number_of p.0)) (at_dot bytes)

-- the id of an operation, and the index of a result
abbrev pub result_named : List ℕ → Option Value
result_named bytes = option_map (λ p. values.Result p.0 p.1) (two_numbers bytes)

-- the id of an operation, the index of a region, and the index of an argument
abbrev pub arg_named : List ℕ → Option Value
arg_named bytes = option_and_then (λ p. option_and_then (λ x. option_map (λ q. values.Arg x q.0 q.1) (two_numbers p.1)) (number_of p.0)) (at_dot bytes)

-- `v12.0` is the first result of operation 12, and `a12.0.1` the second argument of its first region
unfoldable pub value_named : List ℕ → Option Value
value_named [] = None
value_named (c ∷ cs) = if c == 118 then result_named cs else if c == 97 then arg_named cs else None

-- ---- the meaning of free names

-- the value that a name denotes, with its type in the outer module
unfoldable pub free_bound : (Value → Option ℕ) → List ℕ → Option TypedValue
free_bound types name = option_and_then (λ v. option_map (λ ty. record { value = v; ty = ty }) (types v)) (value_named name)

-- a value with its type as a term
abbrev pub bound_term : ContextModel → TypedValue → BoundTerm
bound_term c b = record { value = b.value; type = type_term c b.ty }

-- the same with terms
abbrev pub free_term : (Value → Option ℕ) → ContextModel → List ℕ → Option BoundTerm
free_term types c name = option_map (bound_term c) (free_bound types name)

-- there is no outer module
abbrev pub no_types : Value → Option ℕ
no_types v = None

abbrev pub no_names : List ℕ → Option BoundTerm
no_names name = None

-- the pack of a name: the bound pack, or the one value that a free name denotes
abbrev pub pack_denoted_by : {B : Type 0} → (List ℕ → Option B) → List (Binding (List B)) → List ℕ → Option (List B)
pack_denoted_by free here name = or_else (find name here) (option_map (λ b. b ∷ []) (free name))
