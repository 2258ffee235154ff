use Rattle.std.proofs.Common.{refl, arith}
use Rattle.width_claims.proofs.Walking.{goes_first, goes_on, goes_wrong, went_through}
use Rattle.width_claims.proofs.decide.go_through.Goals as goal

pub transitions-init : goal.transitions-init
transitions-init g c = goes_first (g.M.Machine.after c.args.machine.now) (g.M.Machine.accepts c.args.machine.now) (g.M.Machine.letters c.args.machine.now) _ _ _ c.args.place _ c.requires.walked c.requires.from

pub transitions-preserved : goal.transitions-preserved
transitions-preserved g c =
    goes_on (g.M.Machine.after c.args.machine.now) (g.M.Machine.accepts c.args.machine.now) (g.M.Machine.letters c.args.machine.now) _ c.transitions.states.keys c.transitions.origins.items c.args.place c.args.transitions.now c.transitions.at _ _ _ _ _
    c.transitions.invariant (omega (arith, c.transitions-test.true)) c.in_ok-accepted.ensures c.if-not-accepted.false refl refl c.in_ok-find.ensures

pub returns-then-not-accepted : goal.returns-then-not-accepted
returns-then-not-accepted g c =
    goes_wrong (g.M.Machine.after c.args.machine.now) (g.M.Machine.accepts c.args.machine.now) (g.M.Machine.letters c.args.machine.now) _ c.transitions.states.keys c.transitions.origins.items c.args.place c.args.transitions.now c.transitions.at _ _
    c.transitions.invariant (omega (arith, c.transitions-test.true)) c.in_ok-accepted.ensures c.if-not-accepted.true

pub returns : goal.returns
returns g c =
    went_through (g.M.Machine.after c.args.machine.now) (g.M.Machine.accepts c.args.machine.now) (g.M.Machine.letters c.args.machine.now) _ c.transitions.states.keys c.transitions.origins.items c.args.place c.args.transitions.now c.transitions.at
    c.transitions.invariant (omega (arith, c.transitions-test.false))
