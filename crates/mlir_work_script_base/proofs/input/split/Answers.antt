use Rattle.std.proofs.Common.{◌∙◌, sym, length}
use Rattle.mlir_work_script_base.proofs.Spanning.{begins_script, ends_module, not_none, passes, shorter}
use Rattle.mlir_work_script_base.proofs.input.split.Goals as goal

pub returns-then-at_divider-clause-module : goal.returns-then-at_divider-clause-module
returns-then-at_divider-clause-module c = ends_module c.args.input.now c.lines.rest.now (sym c.if-at_divider.ensures) c.lines.invariant

pub returns-then-at_divider-clause-script : goal.returns-then-at_divider-clause-script
returns-then-at_divider-clause-script c = c.next_line.ensures ∙ begins_script c.args.input.now c.lines.rest.now (sym c.if-at_divider.ensures) c.lines.invariant

pub lines-smaller : goal.lines-smaller
lines-smaller c = rw c.next_line-rest.ensures (shorter c.lines.rest.now (not_none (length c.lines.rest.now) (sym c.lines-test.ensures)))

pub lines-preserved : goal.lines-preserved
lines-preserved c = rw c.next_line-rest.ensures (passes c.args.input.now c.lines.rest.now (sym c.if-at_divider.ensures) c.lines.invariant)
