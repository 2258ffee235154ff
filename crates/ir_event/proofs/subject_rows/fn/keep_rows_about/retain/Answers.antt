use Rattle.std.proofs.Common.{◌∙◌, ap, map}
use Rattle.ir_event.specs.Rows.{cell_meaning}
use Rattle.ir_event.specs.Subjects.{is_about}
use Rattle.ir_event.proofs.subject_rows.fn.keep_rows_about.retain.Goals as goal

pub returns : goal.returns
returns c d = c.is_about.ensures d ∙ ap (λ l. is_about c.captures.subject.now (map (cell_meaning d) l)) c.deref.ensures.value
