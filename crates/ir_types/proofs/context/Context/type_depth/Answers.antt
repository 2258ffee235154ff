use Rattle.std.proofs.Common.{sym, subst}
use Rattle.std.specs.HashMap.{values}
use Rattle.ir_types.specs.Things.{IsType}
use Rattle.ir_types.proofs.Calls.{kept_type_depth}
use Rattle.ir_types.proofs.context.Context.type_depth.Goals as goal

pub returns-clause-shallow : goal.returns-clause-shallow
returns-clause-shallow c = kept_type_depth c.args.self.now _ (values c.self.inside.types) c.number.result c.index.result.now c.self.view_is c.self.invariant.holds c.self.invariant.type_depths c.index.ensures (subst (IsType c.args.self.now) (sym c.number.ensures) c.requires)
