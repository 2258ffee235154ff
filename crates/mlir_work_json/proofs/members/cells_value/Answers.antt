use Rattle.std.proofs.Common.{◌≡◌, refl, sym, ap, ◌∙◌, length, map}
use Rattle.serde_json.specs.View.{view}
use Rattle.mlir_work_json.specs.Cuts.{cell}
use Rattle.mlir_work_json.specs.Items.{text_data}
use Rattle.mlir_work_script_base.proofs.Spanning.{not_none}
use Rattle.mlir_work_json.proofs.Writing.{cell_done, all_cells_done}
use Rattle.mlir_work_json.proofs.members.cells_value.Goals as goal

pub loop-rest-init : goal.loop-rest-init
loop-rest-init c = rw c.new-values.ensures.items refl

pub loop-rest-smaller : goal.loop-rest-smaller
loop-rest-smaller c = c.cut_cell.ensures.shorter (not_none (length c.loop-rest.rest.now) (sym c.is_empty.ensures ∙ c.loop-rest-test.true))

pub loop-rest-preserved : goal.loop-rest-preserved
loop-rest-preserved c =
    let nonempty = not_none (length c.loop-rest.rest.now) (sym c.is_empty.ensures ∙ c.loop-rest-test.true) in
    let word : view c.in_ok-text_value.field-0 ≡ text_data (cell c.loop-rest.rest.now) = c.in_ok-text_value.ensures ∙ ap text_data c.cut_cell.ensures.cell in
    rw (c.in_ok-push.ensures.items, c.cut_cell.ensures.trailing)
    (cell_done view text_data c.loop-rest.values.items c.in_ok-text_value.field-0 c.loop-rest.rest.now nonempty word ∙ c.loop-rest.invariant)

pub returns : goal.returns
returns c = all_cells_done (map view c.loop-rest.values.items) text_data c.loop-rest.rest.now _ (sym c.is_empty.ensures ∙ c.loop-rest-test.false) c.loop-rest.invariant
