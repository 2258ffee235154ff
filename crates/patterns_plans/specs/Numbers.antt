-- What plans read of values.
use Rattle.std.specs.Prelude.{List, map, Bool, not, ◌||◌, Option, Some}
use Rattle.std.specs.List.{list_all}
use Rattle.ir_event.specs.trees.declared.value.Value.{Value}
use Rattle.ir_event.specs.trees.Meaning.{Operation}
use Rattle.dialects_int.specs.Folds.{Known}
use Rattle.patterns_matchers.specs.Looks.{is_constant, is_known, known, when}

-- whether a value isn't a constant, or is known
abbrev pub is_readable : Operation → Value → Bool
is_readable t v = not (is_constant t v) || is_known t v

-- the known bits of a value, if the value is readable
abbrev pub readable : Operation → Value → Option (Option Known)
readable t v = when (is_readable t v) (Some (known t v))

-- the known bits of each of some values, if each is readable
abbrev pub known_each : Operation → List Value → Option (List (Option Known))
known_each t vs = when (list_all (is_readable t) vs) (Some (map (known t) vs))
