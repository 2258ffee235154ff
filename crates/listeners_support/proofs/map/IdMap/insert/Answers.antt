use Rattle.std.proofs.Common.{◌≡◌, ap, ◌∙◌, rules, ◌<◌, ◌≤◌, ◌++◌, length, set, Some}
use Rattle.listeners_support.specs.Map.{entries_from}
use Rattle.listeners_support.proofs.Lookups.{look}
use Rattle.listeners_support.proofs.Writes.{near_inserted, add_inserted, put_inserted, insert_looks, looks_by, add_absent, put_absent}
use Rattle.listeners_support.proofs.map.IdMap.insert.Goals as goal

pub returns-then-place-len-clause-entries : goal.returns-then-place-len-clause-entries
returns-then-place-len-clause-entries g c =
    let slots = c.self.inside.near.items in
    let here : c.args.id < length slots = search rules in
    rw (← c.self.view_is) (near_inserted slots c.self.inside.far c.args.id c.args.value c.self.invariant here)

pub returns-then-place-len-clause-updates : goal.returns-then-place-len-clause-updates
returns-then-place-len-clause-updates g c =
    let slots = c.self.inside.near.items in
    let far = c.self.inside.far in
    let here : c.args.id < length slots = search rules in
    rw (← c.self.view_is)
    (λ y. ap (λ es. look es y) (near_inserted slots far c.args.id c.args.value c.self.invariant here) ∙ insert_looks c.args.id c.args.value (entries_from 0 slots ++ far.entries) y)

pub returns-then-place-len-lt-PASSED-clause-entries : goal.returns-then-place-len-lt-PASSED-clause-entries
returns-then-place-len-lt-PASSED-clause-entries g c =
    let slots = c.self.inside.near.items in
    let far = c.self.inside.far in
    let past : length slots ≤ c.args.id = search rules in
    let none : length far.entries ≡ 0 = search rules in
    rw (← c.self.view_is) (add_inserted c.add.result slots c.add.new.near.items far c.args.id c.args.value none past c.add.ensures.added)

pub returns-then-place-len-lt-PASSED-clause-updates : goal.returns-then-place-len-lt-PASSED-clause-updates
returns-then-place-len-lt-PASSED-clause-updates g c =
    let slots = c.self.inside.near.items in
    let far = c.self.inside.far in
    let past : length slots ≤ c.args.id = search rules in
    let none : length far.entries ≡ 0 = search rules in
    rw (← c.self.view_is)
    (looks_by c.add.result (entries_from 0 slots ++ far.entries) (entries_from 0 c.add.new.near.items ++ far.entries) c.args.id c.args.value
    (add_inserted c.add.result slots c.add.new.near.items far c.args.id c.args.value none past c.add.ensures.added))

pub returns-clause-entries : goal.returns-clause-entries
returns-clause-entries g c =
    let slots = c.self.inside.near.items in
    let past : length slots ≤ c.args.id = search rules in
    rw (← c.self.view_is) (put_inserted c.insert_far.result slots c.self.inside.far c.insert_far.new.far c.args.id c.args.value past c.insert_far.ensures.entries)

pub returns-clause-updates : goal.returns-clause-updates
returns-clause-updates g c =
    let slots = c.self.inside.near.items in
    let far = c.self.inside.far in
    let past : length slots ≤ c.args.id = search rules in
    rw (← c.self.view_is)
    (looks_by c.insert_far.result (entries_from 0 slots ++ far.entries) (entries_from 0 slots ++ c.insert_far.new.far.entries) c.args.id c.args.value
    (put_inserted c.insert_far.result slots far c.insert_far.new.far c.args.id c.args.value past c.insert_far.ensures.entries))

pub returns-then-place-len-lt-PASSED-clause-absent : goal.returns-then-place-len-lt-PASSED-clause-absent
returns-then-place-len-lt-PASSED-clause-absent g c =
    let slots = c.self.inside.near.items in
    let far = c.self.inside.far in
    let past : length slots ≤ c.args.id = search rules in
    let none : length far.entries ≡ 0 = search rules in
    rw (← c.self.view_is) (add_absent c.add.result slots far c.args.id none past)

pub returns-clause-absent : goal.returns-clause-absent
returns-clause-absent g c =
    let slots = c.self.inside.near.items in
    let past : length slots ≤ c.args.id = search rules in
    rw (← c.self.view_is) (put_absent c.insert_far.result slots c.self.inside.far c.args.id past c.insert_far.ensures.absent)
