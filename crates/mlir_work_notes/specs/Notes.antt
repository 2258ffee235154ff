-- The note on the refusal of a command, in the module in which the command was refused.
use Rattle.std.specs.Prelude.{◌≡◌, ℕ, Bool, List, [], ◌∷◌, ◌++◌, map, eqb, Option, Some, None, OnOk, Result, if◌then◌else◌, codes}
use Rattle.ir_event.specs.types.Terms.{TypeTerm}
use Rattle.ir_event.specs.types.Words.{is_isolated}
use Rattle.ir_event.specs.types.declared.refusal.Refusal.{Refusal}
use Rattle.ir_event.specs.types.declared.refusal.Refusal.TheVariants.{Full, HasUses, IntoItself, IsRoot, NoSuchIndex, NoSuchKey, NoSuchOp, NoSuchValue, NotVisible, OtherTable, TooDeepHere, TypeDiffers}
use Rattle.ir_event.specs.trees.declared.value.Value.{Value}
use Rattle.ir_event.specs.trees.Ids.{has_id}
use Rattle.ir_event.specs.trees.Meaning.{Operation as Tree}
use Rattle.ir_event.specs.trees.Tree.{OpOf, head}
use Rattle.ir_event.specs.tree_laws.Values.{has_value, type_of_value}
use Rattle.ir_event.specs.Modules.{Module}
use Rattle.ir_text.specs.TypeText.{type_text}
use Rattle.ir_text_tokens.specs.Printing.{string_text}
use Rattle.rewriter_machine.specs.Commands.{Command, Erase, Replace, SetOperand}
use Rattle.mlir_work_script_base.specs.Values.{op_text, value_text}
use Rattle.mlir_work_notes.specs.Named.{entry_dropped, entry_set, holder_of, place_of_command, subject_of, value_given, value_replaced}
use Rattle.mlir_work_notes.specs.Standing.{blind_users, outside_users}

pub data Note : Type 0 where
  -- an operation, by its id
  Operation : ℕ → Note
  -- a value
  Held : Value → Note
  -- a type
  Typed : TypeTerm → Note

-- ---- what each refusal lists

abbrev pub listed_op : Option ℕ → List Note
listed_op None = []
listed_op (Some x) = Operation x ∷ []

-- an operation that isn't in the module
abbrev pub missing_op : {N T A : Type 0} → OpOf N T A → Option ℕ → List Note
missing_op t None = []
missing_op t (Some x) = if has_id x t then [] else Operation x ∷ []

-- a value that isn't in the module
abbrev pub missing_value : {N T A : Type 0} → OpOf N T A → Option Value → List Note
missing_value t None = []
missing_value t (Some v) = if has_value v t then [] else Held v ∷ []

-- an operation that is the module's root
abbrev pub listed_root : {N T A : Type 0} → OpOf N T A → Option ℕ → List Note
listed_root t None = []
listed_root t (Some x) = if eqb (head t).id x then Operation x ∷ [] else []

-- a value with its type
abbrev pub typed : Option TypeTerm → List Note
typed None = []
typed (Some ty) = Typed ty ∷ []

abbrev pub value_with_type : Tree → Option Value → List Note
value_with_type t None = []
value_with_type t (Some v) = Held v ∷ typed (type_of_value v t)

-- the operations outside the erased operation that use its values
abbrev pub users_left : {N T A : Type 0} → OpOf N T A → Command → List Note
users_left t (Erase x) = map Operation (outside_users x t)
users_left t _ = []

-- the value that isn't visible, and the operations at which it isn't
abbrev pub unseen : {N T A : Type 0} → (N → Bool) → OpOf N T A → Command → List Note
unseen isolated t (SetOperand x k v) = Held v ∷ (Operation x ∷ [])
unseen isolated t (Replace old new) = Held new ∷ map Operation (blind_users isolated old new t)
unseen isolated t _ = []

-- the entries of the note on a refusal
abbrev pub notes_of : Refusal → Command → Module → List Note
notes_of NoSuchOp command m = missing_op m.tree (subject_of command) ++ missing_op m.tree (place_of_command command)
notes_of NoSuchValue command m =
    missing_value m.tree (value_replaced command) ++ missing_value m.tree (value_given command)
notes_of HasUses command m = users_left m.tree command
notes_of NotVisible command m = unseen is_isolated m.tree command
notes_of TypeDiffers command m =
    value_with_type m.tree (value_replaced command) ++ value_with_type m.tree (value_given command)
notes_of NoSuchIndex command m = listed_op (holder_of command)
notes_of NoSuchKey command m = listed_op (entry_dropped command)
notes_of Full command m = listed_op (entry_set command)
notes_of IntoItself command m = listed_op (subject_of command) ++ listed_op (place_of_command command)
notes_of OtherTable command m = listed_op (subject_of command) ++ listed_op (place_of_command command)
notes_of TooDeepHere command m = listed_op (place_of_command command)
notes_of IsRoot command m =
    listed_root m.tree (subject_of command) ++ listed_root m.tree (place_of_command command)
notes_of _ command m = []

-- ---- the text of a note

-- `#3`, `%v2.0`, `"i32"`
abbrev pub note_text : Note → List ℕ
note_text (Operation x) = op_text x
note_text (Held v) = value_text v
note_text (Typed ty) = string_text (type_text ty)

-- the entries, each after a blank
abbrev pub spaced_notes : List Note → List ℕ
spaced_notes [] = []
spaced_notes (c ∷ cs) = (codes " " ++ note_text c) ++ spaced_notes cs

-- the entries after the word `about`, if there are any
abbrev pub about_if : List ℕ → List ℕ
about_if [] = []
about_if (b ∷ bs) = codes " about" ++ (b ∷ bs)

abbrev pub about_text : List Note → List ℕ
about_text cs = about_if (spaced_notes cs)

-- the note if memory ran out
abbrev pub no_memory_text : List ℕ
no_memory_text = codes " about memory"

-- unless memory ran out, these entries were appended
abbrev pub AppendsNotes : {E : Type 0} → Result (Unit {0}) E → List ℕ → List ℕ → List Note → Type 0
AppendsNotes result old new cs = OnOk result (new ≡ old ++ spaced_notes cs)
