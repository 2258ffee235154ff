use Rattle.std.proofs.Common.{sym, ◌∙◌, rules, ◌<◌, ◌≤◌, length}
use Rattle.listeners_support.proofs.Lookups.{get_near, get_far}
use Rattle.listeners_support.proofs.map.IdMap.get.Goals as goal

pub returns-then-place-len : goal.returns-then-place-len
returns-then-place-len g c =
    let slots = c.self.inside.near.items in
    let here : c.args.id < length slots = search rules in
    rw (← c.self.view_is)
    (c.as_ref.ensures.value ∙ c.index.ensures ∙ sym (get_near slots c.self.inside.far c.args.id c.index.result.now c.self.invariant here))

pub returns-else-place-len : goal.returns-else-place-len
returns-else-place-len g c =
    let slots = c.self.inside.near.items in
    let past : length slots ≤ c.args.id = search rules in
    rw (← c.self.view_is) (c.get.ensures.value ∙ sym (get_far slots c.self.inside.far c.args.id past))
