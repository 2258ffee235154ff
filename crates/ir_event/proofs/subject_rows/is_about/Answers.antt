use Rattle.std.proofs.Common.{◌∙◌, refl, None, Some}
use Rattle.std.proofs.lemmas.Option.{slice_get_past, slice_get_read}
use Rattle.ir_event.proofs.Abouts.{about_cell}
use Rattle.ir_event.proofs.subject_rows.is_about.Goals as goal

pub returns-in-None : goal.returns-in-None
returns-in-None c d =
    about_cell d c.args.subject.now c.args.cells.now c.place_about.result None (c.place_about.ensures d) (slice_get_past c.args.cells.now c.place_about.result c.in-None.ensures.lookup.3)

pub returns-in-Some : goal.returns-in-Some
returns-in-Some c d =
    c.names.ensures d
    ∙ about_cell d c.args.subject.now c.args.cells.now c.place_about.result (Some c.in-Some.cell.now) (c.place_about.ensures d)
    (slice_get_read c.args.cells.now _ c.place_about.result c.in-Some.cell.now refl c.in-Some.ensures.lookup.3.0 c.in-Some.ensures.lookup.1)
