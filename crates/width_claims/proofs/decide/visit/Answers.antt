use Rattle.std.proofs.Common.{sym}
use Rattle.width_claims.proofs.Walking.{from_complete, none_after}
use Rattle.width_claims.proofs.decide.visit.Goals as goal

pub go_through-requires-clause-from : goal.go_through-requires-clause-from
go_through-requires-clause-from g c = from_complete (g.M.Machine.after c.args.machine.now) (g.M.Machine.accepts c.args.machine.now) (g.M.Machine.letters c.args.machine.now) c.args.states.now.keys c.args.place _ _ _ _ (sym c.in-Some.ensures.key) c.in_ok-complete.ensures c.if-not-complete.false c.deref.ensures.value

pub returns-in_default : goal.returns-in_default
returns-in_default g c = (c.requires, none_after c.args.states.now.keys c.args.place (sym c.in_default.ensures.key))
