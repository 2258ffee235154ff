-- The rows of reports.
use Rattle.std.specs.Prelude.{◌≡◌, ℕ, ◌<◌, List, [], ◌∷◌, map, nat_lt, if◌then◌else◌}
use Rattle.std.specs.List.{All}
use Rattle.op_registry.specs.types.Things.{ContextModel, IsName, IsAttr}
use Rattle.op_registry.specs.types.Terms.{AttrTerm, IntegerOf, String, TypeOf, Flag, Array, Dictionary, Symbol, DenseArray, Overflow, OpaqueOf, name_term, attr_term}
use Rattle.op_registry.specs.types.declared.bits.BitsKind.{BitsKind}
use Rattle.ir_store.specs.trees.declared.value.Value.{Value}
use Rattle.ir_event.specs.declared.row.Cell.{Cell}
use Rattle.ir_event.specs.declared.row.Cell.TheVariants as cell
use Rattle.ir_event.specs.declared.row.Row.{Row}

-- a cell with names and paths instead of ids
pub data CellTerm : Type 0 where
  Op : ℕ → CellTerm
  Val : Value → CellTerm
  Num : ℕ → CellTerm
  Name : List ℕ → CellTerm
  Path : AttrTerm → CellTerm
  Bits : BitsKind → ℕ → CellTerm
  Rule : ℕ → CellTerm
  Tag : ℕ → CellTerm

-- a row of such cells
abbrev pub RowTerm : Type 0
RowTerm = List CellTerm

-- the meaning of a cell of ids of a context
abbrev pub cell_meaning : ContextModel → Cell → CellTerm
cell_meaning c (cell.Op x) = Op x
cell_meaning c (cell.Val v) = Val v
cell_meaning c (cell.Num n) = Num n
cell_meaning c (cell.Name n) = Name (name_term c n)
cell_meaning c (cell.Path a) = Path (attr_term c a)
cell_meaning c (cell.Bits b) = Bits b.kind b.value
cell_meaning c (cell.Rule r) = Rule r
cell_meaning c (cell.Tag t) = Tag t

-- the meaning of a row, and of rows
abbrev pub row_meaning : ContextModel → Row → RowTerm
row_meaning c row = map (cell_meaning c) row.cells.items

abbrev pub rows_meaning : ContextModel → List Row → List RowTerm
rows_meaning c rows = map (row_meaning c) rows

-- whether an attribute is a symbol reference
abbrev pub IsSymbol : AttrTerm → Type 0
IsSymbol (IntegerOf ty value) = ⊥
IsSymbol (String bytes) = ⊥
IsSymbol (TypeOf ty) = ⊥
IsSymbol Flag = ⊥
IsSymbol (Array items) = ⊥
IsSymbol (Dictionary items) = ⊥
IsSymbol (Symbol parts) = Unit {0}
IsSymbol (DenseArray ty values) = ⊥
IsSymbol (Overflow nsw nuw) = ⊥
IsSymbol (OpaqueOf text ty) = ⊥

-- the ids of a cell are of a context: a name, a symbol reference; a tag is one of ten
abbrev pub CellIsOf : ContextModel → Cell → Type 0
CellIsOf c (cell.Op x) = Unit {0}
CellIsOf c (cell.Val v) = Unit {0}
CellIsOf c (cell.Num n) = Unit {0}
CellIsOf c (cell.Name n) = IsName c n
CellIsOf c (cell.Path a) = IsAttr c a × IsSymbol (attr_term c a)
CellIsOf c (cell.Bits b) = Unit {0}
CellIsOf c (cell.Rule r) = Unit {0}
CellIsOf c (cell.Tag t) = t < 10

abbrev pub RowIsOf : ContextModel → Row → Type 0
RowIsOf c row = All (CellIsOf c) row.cells.items

-- rows of ids of a context with these meanings
pub record Shows (c : ContextModel) (rows : List Row) (terms : List RowTerm) : Type 0 where
  pub says : rows_meaning c rows ≡ terms
  pub known : All (RowIsOf c) rows

-- pairs sorted by their first components
abbrev pub insert_by_id : {V : Type 0} → ℕ × V → List (ℕ × V) → List (ℕ × V)
insert_by_id p [] = p ∷ []
insert_by_id p (q ∷ qs) = if nat_lt q.0 p.0 then q ∷ insert_by_id p qs else p ∷ q ∷ qs

abbrev pub by_id : {V : Type 0} → List (ℕ × V) → List (ℕ × V)
by_id [] = []
by_id (p ∷ ps) = insert_by_id p (by_id ps)
