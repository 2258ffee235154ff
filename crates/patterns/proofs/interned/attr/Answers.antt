use Rattle.patterns.proofs.Adding.{added_one}
use Rattle.patterns.proofs.Numbers.{attr_made}
use Rattle.patterns.proofs.interned.attr.Goals as goal

pub returns-in-Ok-clause-ok : goal.returns-in-Ok-clause-ok
returns-in-Ok-clause-ok g c = attr_made c.args.node c.args.bench.now.transaction.ctx c.attr-made.new.self.transaction.ctx c.in-Ok.attr c.is_wellformed.ensures.context.holds c.requires.simple c.in-Ok.ensures.ok

pub returns-in-Ok-clause-added : goal.returns-in-Ok-clause-added
returns-in-Ok-clause-added g c = added_one g.L.Analysis.meaning c.args.bench.now c.attr-made.new.self c.is_wellformed.ensures.context.holds c.is_wellformed-2.ensures.context.holds c.attr-made.ensures.grown c.attr-made.ensures.listeners

pub returns-in-Err-TooMany-clause-added : goal.returns-in-Err-TooMany-clause-added
returns-in-Err-TooMany-clause-added g c = added_one g.L.Analysis.meaning c.args.bench.now c.attr-made.new.self c.is_wellformed.ensures.context.holds c.is_wellformed-2.ensures.context.holds c.attr-made.ensures.grown c.attr-made.ensures.listeners

pub returns-in-Err-clause-added : goal.returns-in-Err-clause-added
returns-in-Err-clause-added g c = added_one g.L.Analysis.meaning c.args.bench.now c.attr-made.new.self c.is_wellformed.ensures.context.holds c.is_wellformed-2.ensures.context.holds c.attr-made.ensures.grown c.attr-made.ensures.listeners
