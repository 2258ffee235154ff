use Rattle.std.proofs.Common.{◌≡◌, ℕ, true, false, refl, rules, subst, arith, inl, inr, ◌⊎◌}
use Rattle.ir_event.specs.declared.world.World.{World}
use Rattle.ir_event.specs.tree_laws.Members.{In}
use Rattle.constants.specs.Trails.{IsThere}
use Rattle.constants.specs.Phases.{Learnt}
use Rattle.constants.proofs.Learns.{learnt_more}
use Rattle.constants.proofs.Learnable.{learnt_widen}
use Rattle.constants.proofs.Forgetful.{never}
use Rattle.constants.specs.Tables.{known_in, look_in}
use Rattle.constants.proofs.learn.learn_first.Goals as goal

pub returns-then-not-learn-clause-learnt : goal.returns-then-not-learn-clause-learnt
returns-then-not-learn-clause-learnt c here there =
    learnt_widen (look_in c.args.view.now.world.now) (c.learn.result ≡ true) _ (λ y. y ≡ c.args.op) (λ y. (y ≡ c.args.op) ⊎ In y c.args.forgotten.now) (known_in c.args.table.now) (known_in c.learn.new.table) c.args.trail.now.items c.learn.new.trail.items
    (never false refl) (λ y h. inl h) (c.learn.ensures.learnt here)

pub returns-then-not-learn-clause-looks : goal.returns-then-not-learn-clause-looks
returns-then-not-learn-clause-looks c = let a = c.learn.ensures.looks in omega (arith, a)

pub returns-clause-learnt : goal.returns-clause-learnt
returns-clause-learnt c here there =
    let w = c.args.view.now.world.now in
    let yes : c.learn.result ≡ true = search rules in
    let f = subst (λ (z : World). ((y : ℕ) → In y c.args.forgotten.now → IsThere (look_in z) y)
    → Learnt (c.learn_all.result ≡ true) (look_in z) (λ y. In y c.args.forgotten.now) (known_in c.learn.new.table) (known_in c.learn_all.new.table) c.learn.new.trail.items c.learn_all.new.trail.items) c.learn.ensures.world c.learn_all.ensures.learnt in
    learnt_more (look_in w) (c.learn.result ≡ true) (c.learn_all.result ≡ true) (c.learn_all.result ≡ true) (λ y. y ≡ c.args.op) (λ y. In y c.args.forgotten.now) (λ y. (y ≡ c.args.op) ⊎ In y c.args.forgotten.now)
    (known_in c.args.table.now) (known_in c.learn.new.table) (known_in c.learn_all.new.table) c.args.trail.now.items c.learn.new.trail.items c.learn_all.new.trail.items yes (λ z. z) (λ y h. inl h) (λ y h. inr h) (λ z y h. h) (c.learn.ensures.learnt here) (f there)

pub returns-clause-looks : goal.returns-clause-looks
returns-clause-looks c =
    let a = c.learn.ensures.looks in
    let b = c.learn_all.ensures.looks in
    omega (arith, a, b)
