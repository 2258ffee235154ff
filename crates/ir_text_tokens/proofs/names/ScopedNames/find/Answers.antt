use Rattle.std.proofs.Common.{ap, ◌∙◌}
use Rattle.ir_text_tokens.specs.Scopes.{Scopes, find}
use Rattle.ir_text_tokens.specs.Places.{views}
use Rattle.ir_text_tokens.proofs.Kept.{find_top}
use Rattle.ir_text_tokens.proofs.names.ScopedNames.find.Goals as goal

pub returns : goal.returns
returns g c =
    let es = c.self.inside.entries.items in
    c.pick.ensures
    ∙ rw (c.deref-2.ensures.value, c.latest_place-place.ensures, c.deref.ensures.value) (find_top c.args.name.now c.self.inside.first (views es))
    ∙ ap (λ (s : Scopes g.row.T.Denot). find c.args.name.now s.here) c.self.view_is
