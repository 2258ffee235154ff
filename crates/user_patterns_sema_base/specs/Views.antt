-- The views of names and types in the code.
use Rattle.std.specs.Prelude.{ℕ, Bool, List, map}
use Rattle.user_patterns_sema_base.specs.declared.names.Variable.{Variable as VariableCode}
use Rattle.user_patterns_sema_base.specs.declared.types.NamedType.{NamedType}

-- a variable: whether it is a value, and its name
abbrev pub Variable : Type 0
Variable = Bool × List ℕ

abbrev pub variable_view : VariableCode → Variable
variable_view v = (v.is_value, v.name.now)

abbrev pub variable_views : List VariableCode → List Variable
variable_views vs = map variable_view vs

-- a type name, and the type's number
abbrev pub named_view : NamedType → List ℕ × ℕ
named_view n = (n.name.now, n.slot)

abbrev pub named_views : List NamedType → List (List ℕ × ℕ)
named_views ns = map named_view ns
