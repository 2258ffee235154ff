-- The patterns whose new operations can be built before the root and replace it.
use Rattle.std.specs.Prelude.{ℕ, ◌+◌, ◌-◌, List, [], ◌∷◌, Bool, true, false, ◌&&◌, not, eqb, nat_le}
use Rattle.std.specs.Prelude.{Option, Some, None, option_map, slice_get, if◌then◌else◌}
use Rattle.std.specs.List.{list_all}
use Rattle.dialects_int.specs.declared.operations.Cast.TheVariants.{Truncate}
use Rattle.user_patterns_data.specs.declared.pattern.Expression.{Expression}
use Rattle.user_patterns_data.specs.declared.pattern.Expression.TheVariants as form
use Rattle.user_patterns_data.specs.declared.pattern.PatternOp.{PatternOp}
use Rattle.user_patterns_data.specs.declared.pattern.NewValue.{NewValue}
use Rattle.user_patterns_data.specs.declared.pattern.NewValue.TheVariants as new
use Rattle.user_patterns_data.specs.Shapes.{PatternModel}
use Rattle.user_patterns_data.specs.Names.{operands_of}
use Rattle.user_patterns_data.specs.Planning.{old_place, places}

-- an operation has a name, except an index cast that truncates
abbrev pub has_name : Expression → Bool
has_name (form.IndexCast Truncate i) = false
has_name _ = true

abbrev pub is_named : NewValue → Bool
is_named (new.Operation p) = has_name p.form
is_named (new.Constant i t) = true

-- the places of its operands
abbrev pub operand_places : NewValue → List ℕ
operand_places (new.Operation p) = operands_of p.form
operand_places (new.Constant i t) = []

abbrev pub spares : ℕ → NewValue → Bool
spares r w = list_all (λ i. not (eqb i r)) (operand_places w)

-- the type number of its result
abbrev pub new_type : NewValue → ℕ
new_type (new.Operation p) = p.ty
new_type (new.Constant i t) = t

abbrev pub last_type : List NewValue → Option ℕ
last_type [] = None
last_type (w ∷ []) = Some (new_type w)
last_type (w ∷ ws) = last_type ws

-- the type number of the last new value, or `o` if there is none
abbrev pub or_last : Option ℕ → List NewValue → Option ℕ
or_last o [] = o
or_last o ws = last_type ws

-- the type number of the pattern's result: the last new value, or a variable if there are no new values
abbrev pub given_type : PatternModel → List NewValue → Option ℕ
given_type p [] = slice_get p.values p.result
given_type p ws = if eqb (p.result + 1) (places p) then last_type ws else None

abbrev pub result_type : PatternModel → Option ℕ
result_type p = given_type p p.new

-- the type number of the pattern's root
abbrev pub root_type : PatternModel → Option ℕ
root_type p = if nat_le (old_place p) p.root then option_map PatternOp.ty (slice_get p.old (p.root - old_place p)) else None

abbrev pub same_number : Option ℕ → Option ℕ → Bool
same_number (Some a) (Some b) = eqb a b
same_number _ _ = false

-- all new operations have names, none uses the root's result, and the pattern's result has the root's type
abbrev pub can_build : PatternModel → Bool
can_build p = list_all is_named p.new && (list_all (spares p.root) p.new && same_number (result_type p) (root_type p))
