-- New operations, with interned numbers.
use Rattle.std.specs.Prelude.{ℕ, List, [], ◌∷◌, Option, Some, None, option_map}
use Rattle.ir_event.specs.types.declared.word.Word.TheVariants.{ArithConstant, ArithCmpi}
use Rattle.ir_event.specs.types.declared.word.Word.TheVariants.{ArithSelect, Value as ValueKey}
use Rattle.ir_event.specs.types.declared.word.Word.TheVariants.{OverflowFlags, Predicate}
use Rattle.ir_event.specs.types.WordNames.{word_number}
use Rattle.ir_event.specs.trees.Tree.{Op, op, no_regions}
use Rattle.ir_event.specs.trees.declared.value.Value.{Value}

-- the entries of a dictionary with at most one entry
abbrev pub entries : Option (ℕ × ℕ) → List (ℕ × ℕ)
entries None = []
entries (Some e) = e ∷ []

-- an operation with one result and at most one property
abbrev pub new_op : ℕ → List Value → ℕ → Option (ℕ × ℕ) → Op
new_op name operands ty entry =
    op (record {
      id = 0;
      name = name;
      operands = operands;
      results = ty ∷ [];
      properties = entries entry;
      attributes = [];
    }) no_regions

-- a constant with an attribute
abbrev pub new_constant : ℕ → ℕ → Op
new_constant ty value = new_op (word_number ArithConstant) [] ty (Some (word_number ValueKey, value))

-- an operation on two values, with its overflow flags if it has some
abbrev pub flag_entry : Option ℕ → Option (ℕ × ℕ)
flag_entry flags = option_map (λ a. (word_number OverflowFlags, a)) flags

abbrev pub new_binary : ℕ → ℕ → Value → Value → Option ℕ → Op
new_binary name ty a b flags = new_op name (a ∷ b ∷ []) ty (flag_entry flags)

-- a comparison, by its result type and the attribute of its predicate
abbrev pub new_comparison : ℕ → ℕ → Value → Value → Op
new_comparison truth predicate a b =
    new_op (word_number ArithCmpi) (a ∷ b ∷ []) truth (Some (word_number Predicate, predicate))

-- a select
abbrev pub new_choice : ℕ → Value → Value → Value → Op
new_choice ty c a b = new_op (word_number ArithSelect) (c ∷ a ∷ b ∷ []) ty None

-- a cast
abbrev pub new_cast : ℕ → ℕ → Value → Op
new_cast name ty v = new_op name (v ∷ []) ty None
