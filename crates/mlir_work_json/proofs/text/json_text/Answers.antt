use Rattle.std.proofs.Common.{refl, sym, ap, ◌∙◌, length}
use Rattle.mlir_work_json.specs.Cuts.{parts}
use Rattle.mlir_work_script_base.specs.Lines.{is_newline}
use Rattle.mlir_work_json.proofs.OneLine.{lines_of_json}
use Rattle.mlir_work_script_base.proofs.Spanning.{not_none}
use Rattle.mlir_work_json.proofs.Writing.{line_done, all_written}
use Rattle.mlir_work_json.proofs.text.json_text.Goals as goal

pub loop-rest-init : goal.loop-rest-init
loop-rest-init c = rw c.new-json.ensures.items refl

pub loop-rest-smaller : goal.loop-rest-smaller
loop-rest-smaller c = c.cut_at.ensures.shorter (not_none (length c.loop-rest.rest.now) (sym c.is_empty.ensures ∙ c.loop-rest-test.true))

pub loop-rest-preserved : goal.loop-rest-preserved
loop-rest-preserved c =
    let nonempty = not_none (length c.loop-rest.rest.now) (sym c.is_empty.ensures ∙ c.loop-rest-test.true) in
    rw (c.in_ok-write_line.ensures, c.cut_at.ensures.before, c.cut_at.ensures.after)
    (line_done c.loop-rest.json.items c.loop-rest.rest.now nonempty ∙ c.loop-rest.invariant)

pub returns-clause-text : goal.returns-clause-text
returns-clause-text c = all_written c.loop-rest.json.items c.loop-rest.rest.now _ (sym c.is_empty.ensures ∙ c.loop-rest-test.false) c.loop-rest.invariant

pub returns-clause-lines : goal.returns-clause-lines
returns-clause-lines c =
    let whole = all_written c.loop-rest.json.items c.loop-rest.rest.now _ (sym c.is_empty.ensures ∙ c.loop-rest-test.false) c.loop-rest.invariant in
    ap (parts is_newline) whole ∙ lines_of_json c.args.output.now
