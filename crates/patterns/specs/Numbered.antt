-- The edits by which rules make operations, with interned numbers.
use Rattle.std.specs.Prelude.{ℕ, ◌+◌, List, [], ◌∷◌, Option, Some, None}
use Rattle.ir_event.specs.types.declared.word.Word.TheVariants.{ArithAddi, ArithMuli, ArithSubi, ArithXori, Predicate}
use Rattle.ir_event.specs.types.WordNames.{word_number}
use Rattle.ir_event.specs.trees.declared.value.Value.{Value}
use Rattle.ir_event.specs.trees.declared.value.Value.TheVariants.{Result}
use Rattle.patterns_base.specs.declared.edit.Edit.{Edit}
use Rattle.patterns_base.specs.declared.edit.Edit.TheVariants.{Make, SetOperand, Replace, Erase, SetAttr}
use Rattle.patterns.specs.New.{new_binary, new_cast, new_choice, new_comparison, new_constant}
use Rattle.patterns.specs.declared.insertion_point.InsertionPoint.{InsertionPoint}

-- the result of the first operation that is made at a site, and of the one made k operations later
abbrev pub first_result : InsertionPoint → Value
first_result s = Result s.next 0

abbrev pub result_at : InsertionPoint → ℕ → Value
result_at s k = Result (s.next + k) 0

-- a value replaces the result of the site's operation, which is erased
abbrev pub giving : InsertionPoint → Value → List Edit
giving s v = Replace (Result s.op 0) v ∷ Erase s.op ∷ []

-- the edits of each plan
abbrev pub constant_edits : InsertionPoint → ℕ → ℕ → List Edit
constant_edits s ty value = Make s.point (new_constant ty value) ∷ giving s (first_result s)

abbrev pub cast_edits : InsertionPoint → ℕ → ℕ → Value → List Edit
cast_edits s name ty v = Make s.point (new_cast name ty v) ∷ giving s (first_result s)

abbrev pub combined_edits : InsertionPoint → ℕ → ℕ → Value → ℕ → Option ℕ → List Edit
combined_edits s name ty v value flags =
    Make s.point (new_constant ty value) ∷ Make s.point (new_binary name ty v (first_result s) flags)
    ∷ giving s (result_at s 1)

abbrev pub mirrored_edits : InsertionPoint → ℕ → Value → Value → List Edit
mirrored_edits s predicate a b =
    SetAttr s.op (word_number Predicate) predicate ∷ SetOperand s.op 0 a ∷ SetOperand s.op 1 b ∷ []

abbrev pub chosen_edits : InsertionPoint → ℕ → ℕ → ℕ → Value → Value → List Edit
chosen_edits s truth predicate ty a b =
    Make s.point (new_comparison truth predicate a b) ∷ Make s.point (new_choice ty (first_result s) a b)
    ∷ giving s (result_at s 1)

abbrev pub difference_edits : InsertionPoint → ℕ → Value → Value → ℕ → ℕ → ℕ → List Edit
difference_edits s ty a b ones one flags =
    Make s.point (new_constant ty ones)
    ∷ Make s.point (new_binary (word_number ArithXori) ty b (first_result s) None)
    ∷ Make s.point (new_constant ty one)
    ∷ Make s.point (new_binary (word_number ArithAddi) ty (result_at s 1) (result_at s 2) (Some flags))
    ∷ Make s.point (new_binary (word_number ArithAddi) ty a (result_at s 3) (Some flags))
    ∷ giving s (result_at s 4)

abbrev pub remainder_edits : InsertionPoint → ℕ → ℕ → Value → Value → Option ℕ → ℕ → List Edit
remainder_edits s division ty a b flags set =
    Make s.point (new_binary division ty a b flags)
    ∷ Make s.point (new_binary (word_number ArithMuli) ty (first_result s) b (Some set))
    ∷ Make s.point (new_binary (word_number ArithSubi) ty a (result_at s 1) (Some set))
    ∷ giving s (result_at s 2)
