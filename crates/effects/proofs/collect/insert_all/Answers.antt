use Rattle.std.proofs.Common.{◌≡◌, ◌+◌, ◌∷◌, true, sym, ◌∙◌, subst, rules, drop}
use Rattle.std.proofs.lemmas.List.{at_drop_more}
use Rattle.effects.specs.Walks.{row_at}
use Rattle.effects.specs.Effects.{own_by}
use Rattle.effects.specs.Following.{PutAll}
use Rattle.effects.specs.Found.{head_at, parent_at, points_by}
use Rattle.effects.proofs.Changes.{on_true_is}
use Rattle.effects.proofs.Begins.{put_joined}
use Rattle.effects.proofs.Finding.{point_joined}
use Rattle.effects.proofs.collect.insert_all.Goals as goal

pub loop-op-preserved : goal.loop-op-preserved
loop-op-preserved c b p =
    let w = c.args.world.now in
    let own = own_by w.ctx in
    let all = points_by own (parent_at w.store) (head_at w.store) in
    let xs = c.args.ops.now in
    let i = c.loop-op.op-index in
    let x = c.op-item.result in
    let yes : c.insert_found.result ≡ true = search rules in
    let split = at_drop_more all xs i x c.loop-op-test.true ∙ (λ j. all (sym c.op-item.is j ∷ drop (i + 1) xs)) ∙ point_joined own x (parent_at w.store x) (head_at w.store x) (all (drop (i + 1) xs)) in
    c.loop-op.invariant b (subst (λ l. PutAll l (row_at c.loop-op.rows) b) (sym split)
    (put_joined _ _ (row_at c.loop-op.rows) (row_at c.insert_found.new.rows) b (on_true_is c.insert_found.result _ yes c.insert_found.ensures) p))
