-- Proofs about writing rows one by one.
use Rattle.std.proofs.Common.{◌≡◌, ◌∙◌, sym, ap, ℕ, ◌+◌, ◌<◌, ◌≤◌, List, ◌++◌, length, get_or, drop, append_assoc, append-nil}
use Rattle.std.proofs.lemmas.List.{at_drop_all}
use Rattle.ir_event.specs.types.Things.{ContextModel}
use Rattle.ir_event.specs.declared.row.Row.{Row}
use Rattle.ir_event.specs.Rows.{row_meaning, rows_meaning}
use Rattle.mlir_work_session_base.specs.RowText.{row_text, rows_text}
use Rattle.ir_event.proofs.of_trees.Steps.{next_left}

module _ (d : ContextModel) (rows : List Row) (i : ℕ) where
  abbrev text : List Row → List ℕ
  text rs = rows_text (rows_meaning d rs)

  pub row_more : (row : Row) (before after whole : List ℕ) → i < length rows → row ≡ get_or rows i row → after ≡ before ++ row_text (row_meaning d row) → before ++ text (drop i rows) ≡ whole → after ++ text (drop (i + 1) rows) ≡ whole
  row_more row before after whole lt read one so_far =
      ap (λ l. l ++ text (drop (i + 1) rows)) one ∙ append_assoc before (row_text (row_meaning d row)) (text (drop (i + 1) rows))
      ∙ ap (λ (rs : List Row). before ++ text rs) (sym (next_left rows i row lt read)) ∙ so_far

  pub no_row : (before whole : List ℕ) → length rows ≤ i → before ++ text (drop i rows) ≡ whole → before ≡ whole
  no_row before whole le so_far = sym (append-nil before) ∙ ap (λ l. before ++ l) (sym (at_drop_all text rows i le)) ∙ so_far
