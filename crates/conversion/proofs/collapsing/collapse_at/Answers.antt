use Rattle.std.proofs.Common.{nat_eq}
use Rattle.std.specs.HashMap.{get}
use Rattle.conversion.proofs.Walking.{gives_each, looked_at, walked_by, walked_past}
use Rattle.conversion.proofs.collapsing.collapse_at.Goals as goal

pub returns-in_default-clause-walked : goal.returns-in_default-clause-walked
returns-in_default-clause-walked g c =
    walked_past c.args.ops.now c.args.place c.args.walk.now.passed c.args.walk.now.again.keys (g.B.ConversionRewriter.state c.args.bench.now) c.requires.listed c.requires.taken c.in_default.ensures

pub returns-in-Ok-clause-looked : goal.returns-in-Ok-clause-looked
returns-in-Ok-clause-looked g c =
    let state = g.B.ConversionRewriter.state in
    looked_at c.args.ops.now c.args.place c.args.walk.now.passed c.args.walk.now.again.keys (state c.args.bench.now) c.requires.listed c.requires.taken c.in-Some.op c.in-Some.ensures c.collapse_op.result (state c.collapse_op.new.bench) c.collapse_op.ensures.answers

pub returns-in-Ok-clause-walked : goal.returns-in-Ok-clause-walked
returns-in-Ok-clause-walked g c =
    let state = g.B.ConversionRewriter.state in
    walked_by c.args.ops.now c.args.place c.args.walk.now.passed c.args.walk.now.again.keys (state c.args.bench.now) c.requires.listed c.requires.taken c.is_whole.ensures c.in-Some.op c.in-Some.ensures
    _ (gives_each c.in-Some.op (state c.args.bench.now).held.tree c.in-Ok.found_defining_ops c.in-Ok.ensures) (get nat_eq c.args.places.now) c.requires.places
    c.collapse_op.result (state c.collapse_op.new.bench) c.collapse_op.new.walk.passed c.collapse_op.new.walk.again.keys c.collapse_op.ensures.answers c.collapse_op.ensures.freed
