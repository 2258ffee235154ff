use Rattle.std.proofs.Common.{sym, ◌∙◌}
use Rattle.greedy.proofs.Beyond.{beyond_last, beyond_none}
use Rattle.greedy.proofs.walk.is_beyond.Goals as goal

pub returns-in_default : goal.returns-in_default
returns-in_default c = λ e. beyond_none c.args.store.now.module_of.tree c.requires.distinct c.args.op c.args.other c.in_default.ensures

pub returns : goal.returns
returns c = λ e. beyond_last c.args.store.now.module_of.tree c.requires.distinct c.args.op c.in-Some.last c.args.other c.in-Some.ensures.0 c.in-Some.ensures.1 (sym c.precedes.ensures ∙ e)
