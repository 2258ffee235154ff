use Rattle.std.specs.Ordering.{nat_cmp}
use Rattle.std.specs.BTreeSet as set
use Rattle.conversion_base.proofs.Repeated.{known_more, known_one, new_one}
use Rattle.conversion_base.proofs.names.Names.push.Goals as goal

pub invariant_of-self-in-Ok-true : goal.invariant_of-self-in-Ok-true
invariant_of-self-in-Ok-true c =
    let k = set.contains nat_cmp c.self.inside.known c.args.name in
    rw c.in-Ok.ensures.items
    (known_more _ _ _ c.args.name _ _ c.self.invariant c.in-Ok-true.ensures.updates.0 (new_one c.self.inside.repeats k c.in-Ok-true.field-0 c.in-Ok-true.field-0-test c.in-Ok-true.ensures.added))

pub invariant_of-self-in-Ok-false : goal.invariant_of-self-in-Ok-false
invariant_of-self-in-Ok-false c =
    let k = set.contains nat_cmp c.self.inside.known c.args.name in
    rw c.in-Ok.ensures.items
    (known_more _ _ _ c.args.name _ _ c.self.invariant c.in-Ok-false.ensures.updates.0 (known_one c.self.inside.repeats k c.in-Ok-false.field-0 c.in-Ok-false.field-0-test c.in-Ok-false.ensures.added))
