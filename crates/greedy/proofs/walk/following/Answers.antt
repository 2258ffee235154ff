use Rattle.std.proofs.Common.{◌∙◌, sym, arith}
use Rattle.greedy.proofs.Following.{from_inside, from_after, after_root, next_after, up}
use Rattle.greedy.proofs.walk.following.Goals as goal

pub returns-in-Some : goal.returns-in-Some
returns-in-Some c = sym (from_inside c.args.store.now.module_of.tree c.requires.distinct c.args.op c.in-Some.first c.requires.there (sym c.in-Some.ensures))

pub returns-in-Some-next : goal.returns-in-Some-next
returns-in-Some-next c =
    let t = c.args.store.now.module_of.tree in
    sym (from_after t c.requires.distinct c.args.op c.requires.there (sym c.in_default.ensures) ∙ next_after t c.requires.distinct c.args.op c.in-Some-next.next c.requires.there (sym c.in-Some-next.ensures))

pub around-init : goal.around-init
around-init c = (c.requires.there, from_after c.args.store.now.module_of.tree c.requires.distinct c.args.op c.requires.there (sym c.in_default.ensures))

pub returns-in-Some-before : goal.returns-in-Some-before
returns-in-Some-before c =
    let u = up c.args.store.now.module_of.tree c.requires.distinct c.around.at c.in-Some-place.place c.around.invariant.0 (sym c.in-Some-place.ensures) in
    sym (c.around.invariant.1 ∙ u.next c.in-Some-before.next c.in-Some-before.is)

pub overflow_add-place : goal.overflow_add-place
overflow_add-place c =
    let u = up c.args.store.now.module_of.tree c.requires.distinct c.around.at c.in-Some-place.place c.around.invariant.0 (sym c.in-Some-place.ensures) in
    omega (arith, u.few c.requires.few)

pub first_from-requires-in-Some-place-clause-there : goal.first_from-requires-in-Some-place-clause-there
first_from-requires-in-Some-place-clause-there c =
    let u = up c.args.store.now.module_of.tree c.requires.distinct c.around.at c.in-Some-place.place c.around.invariant.0 (sym c.in-Some-place.ensures) in
    u.there

pub returns-in-Some-first_from : goal.returns-in-Some-first_from
returns-in-Some-first_from c =
    let u = up c.args.store.now.module_of.tree c.requires.distinct c.around.at c.in-Some-place.place c.around.invariant.0 (sym c.in-Some-place.ensures) in
    sym (c.around.invariant.1 ∙ u.later c.in-Some-first_from.first c.in_default-before.is (sym c.in-Some-first_from.ensures))

pub around-smaller : goal.around-smaller
around-smaller c =
    let u = up c.args.store.now.module_of.tree c.requires.distinct c.around.at c.in-Some-place.place c.around.invariant.0 (sym c.in-Some-place.ensures) in
    u.lower

pub around-preserved : goal.around-preserved
around-preserved c =
    let u = up c.args.store.now.module_of.tree c.requires.distinct c.around.at c.in-Some-place.place c.around.invariant.0 (sym c.in-Some-place.ensures) in
    (u.there, c.around.invariant.1 ∙ u.around c.in_default-before.is (sym c.in_default-first_from.ensures))

pub returns : goal.returns
returns c = sym (c.around.invariant.1 ∙ after_root c.args.store.now.module_of.tree c.requires.distinct c.around.at c.around.invariant.0 (sym c.in_default-place.ensures))
