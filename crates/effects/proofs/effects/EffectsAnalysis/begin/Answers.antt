use Rattle.std.proofs.Common.{◌≡◌, true, refl, ap, rules}
use Rattle.std.specs.Ordering.{nat_cmp}
use Rattle.std.specs.Map.{lookup}
use Rattle.std.specs.BTreeMap.{is_at}
use Rattle.effects.specs.Walks.{row_at}
use Rattle.effects.proofs.Changes.{on_true_is}
use Rattle.effects.proofs.Agreed.{begun_agrees, meaning_distinct}
use Rattle.effects.proofs.effects.EffectsAnalysis.begin.Goals as goal

pub returns-clause-ok : goal.returns-clause-ok
returns-clause-ok c =
    let ctx = c.args.world.now.ctx in
    let t = c.args.world.now.store.module_of.tree in
    let yes : c.insert_module.result ≡ true = search rules in
    let distinct = c.args.world.now.wellformed.distinct in (
      refl,
      (
        meaning_distinct ctx t distinct,
        begun_agrees ctx t (row_at c.no_rows.result) (row_at c.insert_module.new.rows) distinct c.no_rows.ensures
            (on_true_is c.insert_module.result _ yes c.insert_module.ensures),
      ),
    )
