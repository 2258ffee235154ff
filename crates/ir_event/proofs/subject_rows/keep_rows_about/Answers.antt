use Rattle.std.proofs.Common.{rules, ◌∙◌, ap}
use Rattle.std.proofs.lemmas.Fn.{filter_same}
use Rattle.ir_event.proofs.Abouts.{is_row_about, shows_kept}
use Rattle.ir_event.proofs.subject_rows.keep_rows_about.Goals as goal

pub returns : goal.returns
returns c d terms shows =
    let s = c.args.subject.now in
    shows_kept d s c.args.rows.now.items c.retain.new.self.items terms (filter_same _ _ _ (λ x b f k. (k.called.met.1 d ∙ ap (is_row_about d s) k.shows, search rules)) _ _ c.retain.ensures.filtered) shows
