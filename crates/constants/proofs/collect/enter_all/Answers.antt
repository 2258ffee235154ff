use Rattle.std.proofs.Common.{◌≡◌, ◌+◌, ◌≤◌, ◌∷◌, true, refl, sym, ◌∙◌, subst, rules, drop, length}
use Rattle.std.proofs.lemmas.List.{at_drop_more}
use Rattle.std.proofs.Math.ListN.{drop_of_length-le}
use Rattle.constants.specs.Tables.{known_in, look_in, WalkedIds}
use Rattle.constants.proofs.Learnable.{on_true_is}
use Rattle.constants.proofs.collect.enter_all.Goals as goal

pub loop-op-preserved : goal.loop-op-preserved
loop-op-preserved c b p =
    let ops = look_in c.args.world.now in
    let xs = c.args.ops.now in
    let i = c.loop-op.op-index in
    let yes : c.enter.result ≡ true = search rules in
    let split = at_drop_more (λ l. l) xs i c.op-item.result c.loop-op-test.true ∙ (λ j. sym c.op-item.is j ∷ drop (i + 1) xs) in
    c.loop-op.invariant b (subst (λ l. WalkedIds ops l (known_in c.loop-op.table) b) (sym split) (known_in c.enter.new.table, on_true_is c.enter.result _ yes c.enter.ensures, p))

pub returns : goal.returns
returns c =
    let ops = look_in c.args.world.now in
    let xs = c.args.ops.now in
    let r = known_in c.loop-op.table in
    let le : length xs ≤ c.loop-op.op-index = search rules in
    c.loop-op.invariant r (subst (λ l. WalkedIds ops l r r) (sym (drop_of_length-le xs le)) (λ y. refl))
