use Rattle.std.proofs.Common.{drop}
use Rattle.constants.specs.Facts.{Facts}
use Rattle.constants.specs.Tables.{known_in, look_in, WalkedIds}
use Rattle.constants.proofs.collect.enter_all.Given as goal

abbrev pub invariant-loop-op : goal.invariant-loop-op
invariant-loop-op l = (b : Facts) → WalkedIds (look_in l.world) (drop l.op-index l.ops) (known_in l.table) b → WalkedIds (look_in l.world) l.ops (known_in l.initial.table) b
