use Rattle.std.proofs.Common.{◌≡◌, true, true≢false, refl, sym, ◌∙◌, inl, inr, rules}
use Rattle.ir_event.specs.Modules.{module_in}
use Rattle.constants.proofs.Notified.{followed_facts, followed_looks}
use Rattle.constants.specs.Tables.{known_in}
use Rattle.constants.proofs.constants.ConstantsAnalysis.told.Goals as goal

pub returns-else-not-follow-clause-notified : goal.returns-else-not-follow-clause-notified
returns-else-not-follow-clause-notified c =
    let w = c.args.view.world.now in
    let yes : c.follow.result ≡ true = search rules in
    record {
      reported = record {
        same = record { kind = refl; analysis = λ t. refl; most = λ e m n. refl };
        agrees = λ m step shows held. inl (held.0, (step.after.distinct, followed_facts w.ctx m (module_in w) (c.follow.result ≡ true) (known_in c.args.self.now.table) (known_in c.follow.new.table) c.args.event step c.follow.ensures.followed yes held.1.1));
        stale = λ h. h;
        notified = inl refl;
      };
      looks = λ m step shows held. elim held [
        | inl agreed ↦ followed_looks w.ctx m (module_in w) (known_in c.args.self.now.table) c.args.view.looks c.follow.new.view.looks c.args.event step agreed.1.1 c.follow.ensures.looks
        | inr stale ↦ absurd (true≢false (sym stale ∙ c.if-self.false))
      ];
      world = c.follow.ensures.world;
    }

pub returns-else-not-follow-clause-grown : goal.returns-else-not-follow-clause-grown
returns-else-not-follow-clause-grown c m grown step held =
    let w = c.args.view.world.now in
    (held.0, (step.after.distinct, followed_facts w.ctx m (module_in w) (c.follow.result ≡ true) (known_in c.args.self.now.table) (known_in c.follow.new.table) c.args.event step c.follow.ensures.followed (c.follow.ensures.grown grown) held.1.1))

pub returns-then-not-follow-clause-notified : goal.returns-then-not-follow-clause-notified
returns-then-not-follow-clause-notified c =
    let w = c.args.view.world.now in
    record {
      reported = record {
        same = record { kind = refl; analysis = λ t. refl; most = λ e m n. refl };
        agrees = λ m step shows held. inr refl;
        stale = λ h. refl;
        notified = inl refl;
      };
      looks = λ m step shows held. elim held [
        | inl agreed ↦ followed_looks w.ctx m (module_in w) (known_in c.args.self.now.table) c.args.view.looks c.follow.new.view.looks c.args.event step agreed.1.1 c.follow.ensures.looks
        | inr stale ↦ absurd (true≢false (sym stale ∙ c.if-self.false))
      ];
      world = c.follow.ensures.world;
    }
