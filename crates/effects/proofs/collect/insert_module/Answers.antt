use Rattle.std.proofs.Common.{◌∙◌, subst}
use Rattle.effects.specs.Walks.{row_at}
use Rattle.effects.specs.Effects.{own_by}
use Rattle.effects.specs.Following.{PutAll}
use Rattle.effects.proofs.Changes.{on_true_more}
use Rattle.effects.proofs.Finding.{points_found}
use Rattle.effects.proofs.collect.insert_module.Goals as goal

pub returns : goal.returns
returns c =
    let w = c.args.world.now in
    on_true_more c.insert_all.result _ _
    (λ p. subst (λ l. PutAll l (row_at c.args.rows.now) (row_at c.insert_all.new.rows)) (points_found (own_by w.ctx) w.store c.deref.result.now w.wellformed.distinct (c.deref.ensures.value ∙ c.in-Ok.ensures.listed)) p)
    c.insert_all.ensures
