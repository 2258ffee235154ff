use Rattle.patterns.proofs.Adding.{added_one}
use Rattle.patterns.proofs.Numbers.{type_made}
use Rattle.user_patterns_apply.proofs.intern.ty.Goals as goal

pub returns-in-Ok-clause-ok : goal.returns-in-Ok-clause-ok
returns-in-Ok-clause-ok g c = type_made c.args.node c.args.bench.now.transaction.ctx c.ty-made.new.self.transaction.ctx c.in-Ok.ty c.is_wellformed.ensures.context.holds c.in-Ok.ensures.ok

pub returns-in-Ok-clause-added : goal.returns-in-Ok-clause-added
returns-in-Ok-clause-added g c = added_one g.L.Analysis.meaning c.args.bench.now c.ty-made.new.self c.is_wellformed.ensures.context.holds c.is_wellformed-2.ensures.context.holds c.ty-made.ensures.grown c.ty-made.ensures.listeners

pub returns-in-Err-TooMany-clause-added : goal.returns-in-Err-TooMany-clause-added
returns-in-Err-TooMany-clause-added g c = added_one g.L.Analysis.meaning c.args.bench.now c.ty-made.new.self c.is_wellformed.ensures.context.holds c.is_wellformed-2.ensures.context.holds c.ty-made.ensures.grown c.ty-made.ensures.listeners

pub returns-in-Err-clause-added : goal.returns-in-Err-clause-added
returns-in-Err-clause-added g c = added_one g.L.Analysis.meaning c.args.bench.now c.ty-made.new.self c.is_wellformed.ensures.context.holds c.is_wellformed-2.ensures.context.holds c.ty-made.ensures.grown c.ty-made.ensures.listeners
