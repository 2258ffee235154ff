use Rattle.std.proofs.Common.{refl, sym, ◌∙◌}
use Rattle.listeners.proofs.Following.{meaning_uses}
use Rattle.listeners.proofs.uses.UsesAnalysis.begin.Goals as goal

pub returns-in-Ok-clause-ok : goal.returns-in-Ok-clause-ok
returns-in-Ok-clause-ok c = (refl, c.in-Ok.ensures ∙ sym (meaning_uses c.args.world.now.ctx c.args.world.now.store.module_of.tree))
