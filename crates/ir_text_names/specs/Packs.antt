-- Names of results with their counts, and packs of values. Language Reference, "Operations".
use Rattle.std.specs.Prelude.{ℕ, ◌+◌, List, [], ◌∷◌}
use Rattle.ir_text_names.specs.declared.bound.TypedValue.{TypedValue}
use Rattle.ir_text_names.specs.declared.value_names.ResultName.{ResultName}
use Rattle.ir_text_names.specs.declared.pack.ValueGroupData.{ValueGroupData}
use Rattle.ir_text_names.specs.declared.pack.ValueGroupData.TheVariants.{One, Many}

-- a name, and the number of results that it is bound to
abbrev pub Counted : Type 0
Counted = List ℕ × ℕ

-- the total number of results of the names
abbrev pub counts : List Counted → ℕ
counts [] = 0
counts (n ∷ ns) = n.1 + counts ns

-- ---- the representation in the code

abbrev pub named_view : ResultName → Counted
named_view n = (n.name.now, n.count)

abbrev pub held_values : ValueGroupData → List TypedValue
held_values (One b) = b ∷ []
held_values (Many v) = v.items
