use Rattle.std.proofs.Common.{◌∙◌, ap}
use Rattle.std.specs.Prelude.{nat_lt}
use Rattle.ir_store_reads.specs.tree_laws.Reads.{around}
use Rattle.ir_store.proofs.Rising.{around_some, headroom_is}
use Rattle.ir_store.proofs.store.Store.fits_around.Goals as goal

pub returns : goal.returns
returns c =
    let t = c.args.self.now.module_of.tree in
    ap (nat_lt c.args.levels) c.headroom_in.ensures ∙ headroom_is c.args.levels (around c.args.parent t) (around_some t c.distinct.ensures c.args.parent c.requires)
