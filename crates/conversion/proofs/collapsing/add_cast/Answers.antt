use Rattle.std.proofs.Common.{◌∙◌}
use Rattle.conversion.proofs.Turns.{add_none, add_one}
use Rattle.conversion.proofs.collapsing.add_cast.Goals as goal

pub returns-then-not-is_cast : goal.returns-then-not-is_cast
returns-then-not-is_cast g c = add_none c.args.op (g.B.ConversionRewriter.state c.args.bench.now).held.tree c.args.casts.now.items c.is_cast.result c.is_cast.ensures c.if-not-is_cast.true

pub returns-in-Ok : goal.returns-in-Ok
returns-in-Ok g c = c.in-Ok.ensures.items ∙ add_one c.args.op (g.B.ConversionRewriter.state c.args.bench.now).held.tree c.args.casts.now.items c.is_cast.result c.is_cast.ensures c.if-not-is_cast.false
