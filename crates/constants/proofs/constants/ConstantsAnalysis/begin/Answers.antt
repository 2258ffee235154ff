use Rattle.std.proofs.Common.{◌≡◌, true, refl, rules}
use Rattle.constants.proofs.Begins.{begun, vacant}
use Rattle.constants.proofs.Learnable.{on_true_is}
use Rattle.constants.specs.Tables.{known_in}
use Rattle.constants.proofs.constants.ConstantsAnalysis.begin.Goals as goal

pub returns-clause-ok : goal.returns-clause-ok
returns-clause-ok c =
    let w = c.args.world.now in
    let yes : c.enter_module.result ≡ true = search rules in (
      refl,
      begun w (known_in c.new.result) (known_in c.enter_module.new.table) (vacant c.new.result c.new.ensures)
          (on_true_is c.enter_module.result _ yes c.enter_module.ensures),
    )
