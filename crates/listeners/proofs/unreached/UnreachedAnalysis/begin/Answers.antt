use Rattle.std.proofs.Common.{refl}
use Rattle.ir_event.proofs.of_types.Growth.{grows_refl}
use Rattle.listeners_symbols.specs.Table.{tree_in}
use Rattle.listeners_symbols.proofs.Gathered.{meaning_distinct}
use Rattle.listeners.proofs.unreached.UnreachedAnalysis.begin.Goals as goal

pub returns-in-Ok-clause-ok : goal.returns-in-Ok-clause-ok
returns-in-Ok-clause-ok c =
    let w = c.args.world.now in (
      refl,
      meaning_distinct w.ctx (tree_in w) w.wellformed.distinct,
      record { from = w.ctx; sound = c.sound.ensures; grown = grows_refl w.ctx; keeps = c.in-Ok.ensures },
    )
