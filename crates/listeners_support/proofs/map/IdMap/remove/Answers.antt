use Rattle.std.proofs.Common.{sym, ap, ◌∙◌, rules, ◌<◌, ◌≤◌, ◌++◌, length, set, None}
use Rattle.listeners_support.specs.Map.{entries_from}
use Rattle.listeners_support.proofs.Lookups.{get_near, get_far, after_from, after_kept, look}
use Rattle.listeners_support.proofs.Writes.{near_updated, far_updated}
use Rattle.listeners_support.proofs.map.IdMap.remove.Goals as goal

pub returns-then-place-len-clause-value : goal.returns-then-place-len-clause-value
returns-then-place-len-clause-value g c =
    let slots = c.self.inside.near.items in
    let here : c.args.id < length slots = search rules in
    rw (← c.self.view_is)
    (c.take.ensures.value ∙ c.index_mut.ensures.value ∙ sym (get_near slots c.self.inside.far c.args.id c.index_mut.result.now c.self.invariant here))

pub returns-then-place-len-clause-updates : goal.returns-then-place-len-clause-updates
returns-then-place-len-clause-updates g c =
    let slots = c.self.inside.near.items in
    let far = c.self.inside.far in
    let here : c.args.id < length slots = search rules in
    rw (← c.self.view_is)
    (λ y. ap (λ o. look (entries_from 0 (set slots c.args.id o) ++ far.entries) y) c.take.ensures.after ∙ near_updated c.args.id None slots far.entries here (after_from (length slots) far c.self.invariant) y)

pub returns-else-place-len-clause-value : goal.returns-else-place-len-clause-value
returns-else-place-len-clause-value g c =
    let slots = c.self.inside.near.items in
    let past : length slots ≤ c.args.id = search rules in
    rw (← c.self.view_is) (c.remove.ensures.value ∙ sym (get_far slots c.self.inside.far c.args.id past))

pub returns-else-place-len-clause-updates : goal.returns-else-place-len-clause-updates
returns-else-place-len-clause-updates g c =
    let slots = c.self.inside.near.items in
    let far = c.self.inside.far in
    let later = c.remove.new.self in
    let past : length slots ≤ c.args.id = search rules in
    let is = c.remove.ensures.updates.0 in
    rw (← c.self.view_is)
    (far_updated c.args.id None slots far.entries later.entries past (after_from (length slots) far c.self.invariant) is (after_from (length slots) later (after_kept (length slots) c.args.id None far later past c.self.invariant is)))
