-- A walk over operations that writes the lines of a page.
use Rattle.std.specs.Prelude.{ℕ, ◌-◌, ◌==◌, not, Bool, false, if◌then◌else◌, List, [], ◌∷◌, ◌++◌, Option, Some, None, codes}
use Rattle.ir_event.specs.trees.Tree.{head}
use Rattle.ir_event.specs.types.Terms.{AttrTerm, TypeTerm}
use Rattle.mlir_work_session_base.specs.OperationObjects.{operation_data}
use Rattle.mlir_work_session_base.specs.PlacedOps.{PlacedOf}
use Rattle.mlir_work_session_base.specs.declared.operation_walk.ObjectWriter.{ObjectWriter}
use Rattle.serde_json.specs.Written.{compact_text}

-- the text so far; the operation at which the page begins, until the walk reaches it; and how many operations the page
-- may still have, if it has a limit
pub record Walk : Type 0 where
  pub text : List ℕ
  pub from : Option ℕ
  pub left : Option ℕ

abbrev pub Visited : Type 0
Visited = PlacedOf (List ℕ) TypeTerm AttrTerm

-- whether the page begins after operation y
abbrev pub is_before : Option ℕ → ℕ → Bool
is_before None y = false
is_before (Some x) y = not (y == x)

abbrev pub is_full : Option ℕ → Bool
is_full None = false
is_full (Some n) = n == 0

abbrev pub one_less : Option ℕ → Option ℕ
one_less None = None
one_less (Some n) = Some (n - 1)

-- the line of an operation
abbrev pub object_line : Visited → List ℕ
object_line p = compact_text (operation_data p.place p.operation) ++ codes "\n"

-- writes the line of an operation, unless the page begins later or is full
abbrev pub visited : Visited → Walk → Walk
visited p w =
    if is_before w.from (head p.operation).id then w
    else if is_full w.left then record { text = w.text; from = None; left = w.left }
    else record { text = w.text ++ object_line p; from = None; left = one_less w.left }

abbrev pub all_visited : List Visited → Walk → Walk
all_visited [] w = w
all_visited (p ∷ ps) w = all_visited ps (visited p w)

-- the walk that a writer has made
abbrev pub walk_view : ObjectWriter → Walk
walk_view w = record { text = w.out.items; from = w.from; left = w.left }
