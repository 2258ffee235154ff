use Rattle.std.proofs.Common.{◌++◌, ap, ◌∙◌}
use Rattle.listeners.specs.Following.{operands_in}
use Rattle.listeners.specs.Collected.{uses_by}
use Rattle.listeners.proofs.Collecting.{uses_listed}
use Rattle.listeners.proofs.collect.collect.Goals as goal

pub returns : goal.returns
returns c =
    let w = c.args.world.now in
    c.in_ok-push_all.ensures
    ∙ ap (λ z. z ++ uses_by (operands_in w.store) c.deref-2.result.now) c.in_ok-out.ensures
    ∙ uses_listed w.store c.deref-2.result.now w.wellformed.distinct (c.deref-2.ensures.value ∙ c.in-Ok.ensures.listed)
