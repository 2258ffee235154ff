use Rattle.std.proofs.Common.{rules, refl, ap, subst, ◌≡◌, ◌+◌, ◌<◌, ◌≤◌, length, map, arith}
use Rattle.std.specs.Prelude.{min}
use Rattle.mlir_work_c_read.specs.Records.{use_item}
use Rattle.mlir_work_c_read.proofs.Joining.{ContinuesFrom, begins_from, ends_from, full_from}
use Rattle.mlir_work_c_read.proofs.Recording.{two_is, use_on}
use Rattle.mlir_work_c_read.proofs.records.write_uses.Goals as goal

pub uses-init : goal.uses-init
uses-init c = (omega arith, omega arith, begins_from (map use_item c.args.uses) c.args.at c.args.into.now c.requires)

pub uses-smaller : goal.uses-smaller
uses-smaller c =
    let steps = ap length c.in-Some.ensures.steps in
    omega (arith, steps)

pub uses-preserved : goal.uses-preserved
uses-preserved c =
    let steps = c.in-Some.ensures.steps in
    let more = ap length steps in
    let sum = c.uses.invariant.0 in
    let place = c.uses.invariant.1 in
    let free = c.uses-test.true in
    let less : c.uses.place < length c.uses.into = omega (arith, free) in (
      omega (arith, more, sum),
      omega (arith, place),
      use_on c.uses.rest c.next.new.self _ _ _ c.args.at c.uses.place c.uses.into c.args.into.now steps (two_is _ _ _ _ c.number.ensures refl) less c.uses.invariant.2,
    )

pub returns-in_default-clause-written : goal.returns-in_default-clause-written
returns-in_default-clause-written c =
    (ends_from (map use_item c.args.uses) c.args.at c.uses.place c.uses.into c.args.into.now
    (subst (λ l. ContinuesFrom (map use_item l) (map use_item c.args.uses) c.args.at c.uses.place c.uses.into c.args.into.now) c.in_default.ensures.steps.0 c.uses.invariant.2)).written

pub returns-in_default-clause-size : goal.returns-in_default-clause-size
returns-in_default-clause-size c = c.uses.invariant.2.size

pub returns-in_default-clause-count : goal.returns-in_default-clause-count
returns-in_default-clause-count c =
    let none = ap length c.in_default.ensures.steps.0 in
    let sum = c.uses.invariant.0 in
    let place = c.uses.invariant.1 in
    let inside = c.uses.invariant.2.inside in
    let fits : length c.args.into.now ≤ 18446744073709551615 = search rules in
    omega (arith, none, sum, place, inside, fits)

pub returns-clause-written : goal.returns-clause-written
returns-clause-written c =
    let full = c.uses-test.false in
    (full_from (map use_item c.uses.rest) (map use_item c.args.uses) c.args.at c.uses.place c.uses.into c.args.into.now (omega (arith, full)) c.uses.invariant.2).written

pub returns-clause-size : goal.returns-clause-size
returns-clause-size c = c.uses.invariant.2.size

pub returns-clause-count : goal.returns-clause-count
returns-clause-count c =
    let left = c.len.ensures in
    let all : c.saturating_add.result ≡ min (c.len.result + c.uses.count) 18446744073709551615 = c.saturating_add.ensures in
    let sum = c.uses.invariant.0 in
    omega (arith, left, all, sum)
