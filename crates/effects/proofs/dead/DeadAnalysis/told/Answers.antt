use Rattle.std.proofs.Common.{◌≡◌, ◌||◌, true≢false, Some, refl, sym, ◌∙◌, inl, inr, subst, arith, rules}
use Rattle.std.specs.Prelude.{not}
use Rattle.std.specs.Bool.{OnTrue}
use Rattle.ir_event.specs.Modules.{module_in, node_of_op}
use Rattle.ir_event.specs.Bounds.{op_of}
use Rattle.ir_event.specs.declared.world.World.{World}
use Rattle.effects.specs.Counts.{counts_in, CountsFollowed}
use Rattle.effects.specs.Listeners.{effects_listener}
use Rattle.effects.proofs.Agreed.{shown_there}
use Rattle.effects.proofs.Followed.{both_followed, take_followed}
use Rattle.effects.proofs.dead.DeadAnalysis.told.Goals as goal

pub returns-clause-notified : goal.returns-clause-notified
returns-clause-notified c =
    let w = c.args.view.world.now in
    let a = counts_in c.args.self.now.counts in
    let b = counts_in c.follow_counts-followed.new.counts in
    let own = effects_listener c.told-view.new.self in
    let is : c.if-stale.self ≡ (c.told-view.new.self.stale || not c.follow_counts-followed.result) = search rules in
    let counts = subst (λ (z : World). OnTrue c.follow_counts-followed.result (CountsFollowed (node_of_op z) c.args.event a b)) c.told-view.ensures.notified.world c.follow_counts-followed.ensures.followed in
    record {
      reported = record {
        same = record { kind = refl; analysis = λ t. refl; most = λ e m n. refl };
        agrees = λ m step shows held. elim (both_followed w.ctx c.args.event m (module_in w) (node_of_op w) a b step (shown_there w) shows held.1.1 (own.agrees w.ctx (module_in w)) c.told-view.new.self.stale c.follow_counts-followed.result counts (own.fresh w.ctx (module_in w))
            (c.told-view.ensures.notified.reported.agrees m step shows held.1.0)) [ inl h ↦ inl (is ∙ h.0, h.1) | inr h ↦ inr (is ∙ h) ];
        stale = λ h. absurd (true≢false (sym h ∙ c.if-self.false));
        notified = inl refl;
      };
      looks = λ m step shows held. (let once = c.told-view.ensures.once in let more = c.follow_counts-followed.ensures.looks in omega (arith, once, more));
      world = c.follow_counts-followed.ensures.world ∙ c.told-view.ensures.notified.world;
    }

pub returns-clause-take : goal.returns-clause-take
returns-clause-take c m take step shows held =
    let w = c.args.view.world.now in
    let a = counts_in c.args.self.now.counts in
    let b = counts_in c.follow_counts-followed.new.counts in
    let own = effects_listener c.told-view.new.self in
    let is : c.if-stale.self ≡ (c.told-view.new.self.stale || not c.follow_counts-followed.result) = search rules in
    let counts = subst (λ (z : World). OnTrue c.follow_counts-followed.result (CountsFollowed (node_of_op z) c.args.event a b)) c.told-view.ensures.notified.world c.follow_counts-followed.ensures.followed in
    let h = take_followed w.ctx c.args.event m (module_in w) (node_of_op w) a b step (shown_there w) shows held.1.1 (own.agrees w.ctx (module_in w)) c.told-view.new.self.stale c.follow_counts-followed.result counts (own.fresh w.ctx (module_in w))
    (λ k t e. c.follow_counts-followed.ensures.take k t (subst (λ (z : World). node_of_op z (op_of c.args.event) ≡ Some k) (sym c.told-view.ensures.notified.world) e)) take (c.told-view.ensures.take m take step held.1.0) in
    (is ∙ h.0, h.1)
