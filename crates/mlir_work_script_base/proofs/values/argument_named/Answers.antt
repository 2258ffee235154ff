use Rattle.std.proofs.Common.{refl, ◌∙◌}
use Rattle.mlir_work_script_base.proofs.values.argument_named.Goals as goal

pub returns : goal.returns
returns c = c.argument.ensures ∙ rw (c.parse_number.ensures, c.parse_number-2.ensures, c.parse_number-3.ensures, c.cut_at-2.ensures.before, c.cut_at-2.ensures.after, c.cut_at.ensures.before, c.cut_at.ensures.after) refl
