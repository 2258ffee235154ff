use Rattle.listeners.proofs.about.push_uses.Goals as goal

pub returns : goal.returns
returns c = (c.uses.result, c.uses.ensures, c.in_ok-push_each_use.ensures)
