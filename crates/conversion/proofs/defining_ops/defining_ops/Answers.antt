use Rattle.std.proofs.Common.{arith, ap, ◌∙◌, sym}
use Rattle.conversion.specs.DefiningOps.{defining_ops_of}
use Rattle.conversion.proofs.Given.{gives_none, gives_shown}
use Rattle.conversion.proofs.defining_ops.defining_ops.Goals as goal

pub returns-in_default : goal.returns-in_default
returns-in_default c = gives_none c.args.world.now.ctx c.args.world.now.store.module_of.tree c.args.op c.new.result.items c.in_default.ensures.node

pub returns : goal.returns
returns c =
    gives_shown c.args.world.now.ctx c.args.world.now.store.module_of.tree c.args.op c.in-Some.node (sym c.in-Some.is ∙ c.shown.ensures.node) (omega (arith, c.region_count.ensures, c.if-region_count-gt0.false)) c.in_ok-found_defining_ops.found_defining_ops.items
    (c.in_ok-found_defining_ops.ensures ∙ ap defining_ops_of c.operands.ensures)
