use Rattle.std.proofs.Common.{None, subst}
use Rattle.listeners_support.specs.Map as idmap
use Rattle.constants.proofs.Tables.{written}
use Rattle.constants.proofs.table.drop_fact.Goals as goal

pub returns : goal.returns
returns c =
    written c.args.op None c.args.table.now c.remove.new.self (subst (λ x. idmap.Updates c.args.table.now c.remove.new.self x None) c.number.ensures c.remove.ensures.updates)
