use Rattle.std.proofs.Common.{length, arith, ap, List, subst}
use Rattle.width_claims.specs.declared.origin.Origin.{Origin}
use Rattle.width_claims.specs.Walks.{LeadsTo}
use Rattle.width_claims.proofs.Walking.{all_visited, begun, failed, known_origins, passed}
use Rattle.width_claims.proofs.decide.search.Goals as goal

pub returns-in-Missing : goal.returns-in-Missing
returns-in-Missing g c =
    all_visited (g.M.Machine.after c.args.machine.now) (g.M.Machine.accepts c.args.machine.now) (g.M.Machine.letters c.args.machine.now) c.args.start _ _ _ c.places.place _
    c.places.invariant.1.first c.in-Missing.is c.in_ok-visit.ensures

pub word_to-requires-clause-within : goal.word_to-requires-clause-within
word_to-requires-clause-within g c =
    let k = known_origins (g.M.Machine.after c.args.machine.now) (g.M.Machine.accepts c.args.machine.now) (g.M.Machine.letters c.args.machine.now) _ _ _ c.places.place c.in-Fails.letter _ c.in-Fails.is c.in_ok-visit.ensures in
    omega (arith, k.1, ap length c.as_slice.ensures.value)

pub returns-in-Fails : goal.returns-in-Fails
returns-in-Fails g c =
    failed (g.M.Machine.after c.args.machine.now) (g.M.Machine.accepts c.args.machine.now) (g.M.Machine.letters c.args.machine.now) c.args.start _ _ _ c.places.place c.in-Fails.letter _ _
    c.places.invariant.1.first c.in-Fails.is c.in_ok-visit.ensures
    (subst (λ (os : List Origin). LeadsTo os c.places.place c.in-Fails.letter c.in_ok-word-in-Fails.word.items) c.as_slice.ensures.value c.in_ok-word-in-Fails.ensures)

pub places-preserved : goal.places-preserved
places-preserved g c =
    passed (g.M.Machine.after c.args.machine.now) (g.M.Machine.accepts c.args.machine.now) (g.M.Machine.letters c.args.machine.now) c.args.start _ _ _ c.places.place _ _
    c.places.invariant.1.first c.in-Passes.is c.in_ok-visit.ensures

pub places-init : goal.places-init
places-init g c =
    begun (g.M.Machine.after c.args.machine.now) (g.M.Machine.accepts c.args.machine.now) (g.M.Machine.letters c.args.machine.now) c.args.start _ _ _ _ _ (ap length c.requires.states) (ap length c.requires.origins) c.in_ok-find.ensures
