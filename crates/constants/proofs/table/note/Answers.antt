use Rattle.std.proofs.Common.{Some, subst}
use Rattle.listeners_support.specs.Map as idmap
use Rattle.constants.proofs.Tables.{written}
use Rattle.constants.proofs.table.note.Goals as goal

pub returns-in-Ok-clause-noted : goal.returns-in-Ok-clause-noted
returns-in-Ok-clause-noted c =
    written c.args.op (Some c.args.bits.now) c.args.table.now c.insert.new.self
    (subst (λ x. idmap.Updates c.args.table.now c.insert.new.self x (Some c.args.bits.now)) c.number.ensures
    (subst (λ b. idmap.Updates c.args.table.now c.insert.new.self c.number.result (Some b)) c.new.ensures c.in-Ok.ensures.updates))
