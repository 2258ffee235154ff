use Rattle.std.proofs.Common.{inl, refl}
use Rattle.width_claims.proofs.Walking.{known}
use Rattle.width_claims.proofs.decide.find.Goals as goal

pub returns-else-added : goal.returns-else-added
returns-else-added c =
    let k = known c.args.states.now.keys _ c.args.state _ c.in_ok-added.ensures.added c.if-added.false c.in_ok-added.ensures.keys in
    inl (k.0, k.1, refl)
