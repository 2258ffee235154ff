use Rattle.std.proofs.Common.{◌≡◌, sym, ap, ◌∙◌, rules, ◌<◌, ◌≤◌, ◌++◌, length, get_or, set, true, is_some, is_none, Some, None}
use Rattle.std.proofs.lemmas.List.{get_or_default}
use Rattle.listeners_support.specs.Map.{entries_from}
use Rattle.listeners_support.proofs.Lookups.{get_near, get_far, after_from}
use Rattle.listeners_support.proofs.Writes.{near_written, near_updated, far_written, far_looks, had_none, had_some}
use Rattle.listeners_support.proofs.map.IdMap.write.Goals as goal

pub returns-then-is_none-clause-had : goal.returns-then-is_none-clause-had
returns-then-is_none-clause-had g c =
    let slots = c.self.inside.near.items in
    let here : c.args.id < length slots = search rules in
    rw (← c.self.view_is)
    (had_none c.index.result.now (search rules)
    ∙ ap is_some (c.index.ensures ∙ sym (get_near slots c.self.inside.far c.args.id c.index.result.now c.self.invariant here)))

pub returns-then-place-len-clause-had : goal.returns-then-place-len-clause-had
returns-then-place-len-clause-had g c =
    let slots = c.self.inside.near.items in
    let here : c.args.id < length slots = search rules in
    rw (← c.self.view_is)
    (had_some c.index.result.now (search rules)
    ∙ ap is_some (c.index.ensures ∙ sym (get_near slots c.self.inside.far c.args.id c.index.result.now c.self.invariant here)))

pub returns-then-place-len-clause-updates : goal.returns-then-place-len-clause-updates
returns-then-place-len-clause-updates g c =
    let slots = c.self.inside.near.items in
    let far = c.self.inside.far in
    let here : c.args.id < length slots = search rules in
    rw (← c.self.view_is) (near_updated c.args.id (Some c.args.value) slots far.entries here (after_from (length slots) far c.self.invariant))

pub returns-then-place-len-clause-entries : goal.returns-then-place-len-clause-entries
returns-then-place-len-clause-entries g c =
    let slots = c.self.inside.near.items in
    let here : c.args.id < length slots = search rules in
    let there = had_some c.index.result.now (search rules) ∙ ap is_some (c.index.ensures ∙ sym (get_or_default slots c.args.id None c.index.result.now here)) in
    rw (← c.self.view_is) (near_written slots c.self.inside.far c.args.id c.args.value here there)

pub returns-clause-had : goal.returns-clause-had
returns-clause-had g c =
    let slots = c.self.inside.near.items in
    let past : length slots ≤ c.args.id = search rules in
    rw (← c.self.view_is) (c.write_far.ensures.had ∙ ap is_some (sym (get_far slots c.self.inside.far c.args.id past)))

pub returns-clause-updates : goal.returns-clause-updates
returns-clause-updates g c =
    let slots = c.self.inside.near.items in
    let past : length slots ≤ c.args.id = search rules in
    rw (← c.self.view_is) (far_looks c.write_far.result slots c.self.inside.far c.write_far.new.far c.args.id c.args.value c.self.invariant past c.write_far.ensures.updates)

pub returns-clause-entries : goal.returns-clause-entries
returns-clause-entries g c =
    let slots = c.self.inside.near.items in
    let past : length slots ≤ c.args.id = search rules in
    rw (← c.self.view_is) (far_written c.write_far.result slots c.self.inside.far c.write_far.new.far c.args.id c.args.value past c.write_far.ensures.entries)
