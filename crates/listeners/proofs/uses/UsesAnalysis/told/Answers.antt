use Rattle.std.proofs.Common.{refl, inl, arith}
use Rattle.listeners.proofs.Following.{followed_agrees}
use Rattle.listeners.proofs.uses.UsesAnalysis.told.Goals as goal

pub returns-else-not-follow-clause-notified : goal.returns-else-not-follow-clause-notified
returns-else-not-follow-clause-notified c =
    let w = c.args.view.world.now in
    record {
      reported = record {
        same = record { kind = refl; analysis = λ t. refl; most = λ e m n. refl };
        agrees = λ m step shows held. inl (held.0, followed_agrees w.ctx c.args.event w.store m _ _ step shows c.if-not-follow.ensures.followed held.1);
        stale = λ h. h;
        notified = inl refl;
      };
      looks = λ m step shows held. (let once = c.if-not-follow.ensures.looks in omega (arith, once));
      world = c.if-not-follow.ensures.world;
    }

pub returns-else-not-follow-clause-grown : goal.returns-else-not-follow-clause-grown
returns-else-not-follow-clause-grown c m take step shows held =
    let w = c.args.view.world.now in (held.0, followed_agrees w.ctx c.args.event w.store m _ _ step shows c.if-not-follow.ensures.followed held.1)
