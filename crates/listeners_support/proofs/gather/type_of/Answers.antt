use Rattle.std.proofs.Common.{sym}
use Rattle.ir_event.proofs.Typed.{value_known}
use Rattle.listeners_support.proofs.gather.type_of.Goals as goal

pub returns-clause-known : goal.returns-clause-known
returns-clause-known c = value_known c.args.view.now.world.now c.args.value.now c.in-Some.ty (sym c.in-Some.ensures.answer)
