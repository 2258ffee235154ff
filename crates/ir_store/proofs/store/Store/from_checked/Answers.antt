use Rattle.std.proofs.Common.{arith, sym, subst}
use Rattle.ir_store_reads.specs.trees.Ids.{ids}
use Rattle.ir_store_reads.specs.trees.Meaning.{isolated_in}
use Rattle.ir_store_reads.specs.trees.WellFormed.{IsWellFormed}
use Rattle.ir_store.proofs.Loading.{are_below, root_bare}
use Rattle.ir_store.proofs.store.Store.from_checked.Goals as goal

pub spread-requires-clause-below : goal.spread-requires-clause-below
spread-requires-clause-below c = are_below c.args.next (ids c.args.tree) c.requires.below

pub spread-requires-clause-root : goal.spread-requires-clause-root
spread-requires-clause-root c = root_bare (isolated_in c.args.ctx.now) c.args.tree c.requires.wellformed.visible

pub returns-clause-wellformed : goal.returns-clause-wellformed
returns-clause-wellformed c =
    subst (IsWellFormed (isolated_in c.args.ctx.now)) (sym c.in_ok-store.ensures.module_of)
    (record {
      distinct = c.requires.distinct;
      below = c.requires.below;
      next = omega (arith, c.ranges.next.fits);
      wellformed = c.requires.wellformed;
    })
