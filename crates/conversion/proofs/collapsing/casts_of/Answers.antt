use Rattle.conversion.proofs.Turns.{among_done, among_more}
use Rattle.conversion.proofs.collapsing.casts_of.Goals as goal

pub ops-preserved : goal.ops-preserved
ops-preserved g c = among_more (g.B.ConversionRewriter.state c.args.bench.now).held.tree c.args.ops.now c.ops.rest.now c.ops.casts.items c.add_cast.new.casts.items c.op-item.result c.in-len1-up.len_at_least c.op-item.is c.ops.invariant c.in-Ok.ensures

pub returns : goal.returns
returns g c = among_done (g.B.ConversionRewriter.state c.args.bench.now).held.tree c.args.ops.now c.ops.rest.now c.ops.casts.items c.in_default.len_below c.ops.invariant
