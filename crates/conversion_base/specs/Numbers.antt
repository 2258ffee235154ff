-- What the code reads and makes, with interned numbers.
use Rattle.std.specs.Prelude.{ℕ, Bool, not, ◌&&◌, List, [], ◌∷◌, Option, Some, None}
use Rattle.std.specs.List.{list_all}
use Rattle.ir_event.specs.types.declared.word.Word.TheVariants.{ArithIndexCast}
use Rattle.ir_event.specs.types.WordNames.{word_number}
use Rattle.ir_event.specs.trees.declared.value.Value.{Value}
use Rattle.ir_event.specs.trees.declared.value.Value.TheVariants.{Result}
use Rattle.ir_event.specs.trees.declared.place.Place.{Place}
use Rattle.ir_event.specs.trees.Tree.{Op, op, no_regions}
use Rattle.patterns_base.specs.declared.edit.Edit.{Edit}
use Rattle.patterns_base.specs.declared.edit.Edit.TheVariants.{Make, Replace, Erase}
use Rattle.patterns_base.specs.Words.{among}
use Rattle.conversion_base.specs.Targets.{Aim, each_once}
use Rattle.conversion_base.specs.declared.casts.CastTypes.{CastTypes}

-- whether no name of one list is in the other
abbrev pub are_apart : List (List ℕ) → List (List ℕ) → Bool
are_apart ns ms = list_all (λ n. not (among ms n)) ns

-- whether no list of a target has a duplicate, and whether no name is in two lists
abbrev pub lists_once : Aim → Bool
lists_once g = each_once g.legal && (each_once g.illegal && each_once g.dynamic)

abbrev pub lists_apart : Aim → Bool
lists_apart g = are_apart g.legal g.illegal && (are_apart g.legal g.dynamic && are_apart g.illegal g.dynamic)

-- an `arith.index_cast` of a value to a type
abbrev pub new_cast : Value → ℕ → Op
new_cast v ty =
    op (record {
      id = 0;
      name = word_number ArithIndexCast;
      operands = v ∷ [];
      results = ty ∷ [];
      properties = [];
      attributes = [];
    }) no_regions

-- the edits that replace operation x with it; the place is before x, and the id is the next free one
abbrev pub cast_edits : Place → ℕ → ℕ → Value → ℕ → List Edit
cast_edits point n x v ty = Make point (new_cast v ty) ∷ Replace (Result x 0) (Result n 0) ∷ Erase x ∷ []

-- the operand and the result type of an operation with one operand and one result
abbrev pub ends_from : List Value → List ℕ → Option CastTypes
ends_from (v ∷ []) (ty ∷ []) = Some (record { operand = v; ty = ty })
ends_from _ _ = None
