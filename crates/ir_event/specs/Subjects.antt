-- The report rows about one operation or one value.
use Rattle.std.specs.Prelude.{ℕ, List, [], ◌∷◌, ◌==◌, ◌||◌, Bool, false, filter, if◌then◌else◌, Option, Some, None}
use Rattle.std.specs.Prelude.{slice_get}
use Rattle.op_registry.specs.types.declared.refusal.Refusal.{Refusal}
use Rattle.op_registry.specs.types.declared.refusal.Refusal.TheVariants.{NoSuchOp, NoSuchValue}
use Rattle.ir_store.specs.trees.declared.value.Value.{Value}
use Rattle.ir_store.specs.trees.Frames.{owner_of}
use Rattle.ir_store.specs.trees.Ids.{has_id}
use Rattle.ir_store.specs.trees.Meaning.{Operation}
use Rattle.ir_store.specs.trees.Uses.{same_value}
use Rattle.ir_store.specs.tree_laws.Values.{has_value}
use Rattle.ir_event.specs.Rows.{CellTerm, Op, Val, Num, Name, Path, Bits, Rule, Tag, RowTerm}
use Rattle.ir_event.specs.Tags.{tag_number}
use Rattle.ir_event.specs.declared.tag.Tag.TheVariants as word
use Rattle.ir_event.specs.declared.subject.Subject.{Subject}
use Rattle.ir_event.specs.declared.subject.Subject.TheVariants as subject

-- ---- the subject of a row

-- whether a row with this word defines a symbol
abbrev pub defines : ℕ → Bool
defines t = (t == tag_number word.Def) || (t == tag_number word.Duplicate)

-- the index of the cell that names the subject of a row: the last cell of a definition or a duplicate, the cell after
-- the word of a reference or a call, and the first cell otherwise
abbrev pub place_about : RowTerm → ℕ
place_about [] = 0
place_about (Op x ∷ cells) = 0
place_about (Val v ∷ cells) = 0
place_about (Num n ∷ cells) = 0
place_about (Name n ∷ cells) = 0
place_about (Path p ∷ cells) = 0
place_about (Bits kind value ∷ cells) = 0
place_about (Rule r ∷ cells) = 0
place_about (Tag t ∷ cells) = if defines t then 3 else 1

-- whether a cell is an operation or a value that belongs to it
abbrev pub is_of_op : ℕ → CellTerm → Bool
is_of_op x (Op y) = y == x
is_of_op x (Val v) = (owner_of v).0 == x
is_of_op x (Num n) = false
is_of_op x (Name n) = false
is_of_op x (Path p) = false
is_of_op x (Bits kind value) = false
is_of_op x (Rule r) = false
is_of_op x (Tag t) = false

-- whether a cell is a value
abbrev pub is_of_value : Value → CellTerm → Bool
is_of_value v (Op y) = false
is_of_value v (Val w) = same_value w v
is_of_value v (Num n) = false
is_of_value v (Name n) = false
is_of_value v (Path p) = false
is_of_value v (Bits kind value) = false
is_of_value v (Rule r) = false
is_of_value v (Tag t) = false

abbrev pub names : Subject → CellTerm → Bool
names (subject.Op x) cell = is_of_op x cell
names (subject.Val v) cell = is_of_value v cell

abbrev pub names_there : Subject → Option CellTerm → Bool
names_there s None = false
names_there s (Some cell) = names s cell

-- whether a row is about an operation or a value; a row about a value is also about the operation that the value
-- belongs to
abbrev pub is_about : Subject → RowTerm → Bool
is_about s row = names_there s (slice_get row (place_about row))

-- the rows about a subject, in order
abbrev pub rows_about : Subject → List RowTerm → List RowTerm
rows_about s rows = filter (is_about s) rows

-- ---- missing subjects

abbrev pub is_there : Subject → Operation → Bool
is_there (subject.Op x) t = has_id x t
is_there (subject.Val v) t = has_value v t

-- the refusal for a missing subject
abbrev pub absent : Subject → Refusal
absent (subject.Op x) = NoSuchOp
absent (subject.Val v) = NoSuchValue
