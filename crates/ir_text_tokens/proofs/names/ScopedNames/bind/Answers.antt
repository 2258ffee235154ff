use Rattle.std.proofs.Common.{ap, ◌∙◌}
use Rattle.ir_text_tokens.specs.Scopes.{bound}
use Rattle.ir_text_tokens.proofs.Kept.{adds}
use Rattle.ir_text_tokens.proofs.names.ScopedNames.bind.Goals as goal

pub returns-clause-ok : goal.returns-clause-ok
returns-clause-ok g c = adds c.self.inside.entries.items c.push_entry.new.entries.items c.self.inside.floors.items (record { name = c.args.name.now; value = c.args.value }) c.self.inside.first c.in_ok-push_entry.ensures.ok c.self.invariant.floor c.self.invariant.standing ∙ ap (bound c.args.name.now c.args.value) c.self.view_is
