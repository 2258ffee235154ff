use Rattle.std.proofs.Common.{sym, subst}
use Rattle.std.specs.HashMap.{values}
use Rattle.ir_types.specs.Things.{IsAttr}
use Rattle.ir_types.proofs.Calls.{kept_attr_depth}
use Rattle.ir_types.proofs.context.Context.attr_depth.Goals as goal

pub returns-clause-shallow : goal.returns-clause-shallow
returns-clause-shallow c = kept_attr_depth c.args.self.now _ (values c.self.inside.attrs) c.number.result c.index.result.now c.self.view_is c.self.invariant.holds c.self.invariant.attr_depths c.index.ensures (subst (IsAttr c.args.self.now) (sym c.number.ensures) c.requires)
