use Rattle.std.proofs.Common.{◌≡◌, subst}
use Rattle.ir_event.specs.declared.world.World.{World}
use Rattle.dialects_int.specs.Folds.{known_of}
use Rattle.constants.specs.Trails.{IsThere}
use Rattle.constants.specs.Facts.{value}
use Rattle.constants.proofs.Entering.{entered}
use Rattle.constants.specs.Tables.{known_in, look_in}
use Rattle.constants.proofs.collect.enter.Goals as goal

pub returns-in-Ok : goal.returns-in-Ok
returns-in-Ok c =
    entered c.write_found.result (look_in c.args.world.now) c.args.op _ (known_in c.args.table.now) (known_in c.write_found.new.table)
    (subst (λ (z : World). IsThere (look_in z) c.args.op → known_of c.in-Ok.found ≡ value (look_in z) (known_in c.args.table.now) c.args.op) c.new-view.ensures.world c.in-Ok.ensures.value) c.write_found.ensures
