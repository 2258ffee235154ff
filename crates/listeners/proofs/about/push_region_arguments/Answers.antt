use Rattle.std.proofs.Common.{◌<◌, ◌≤◌, length, arith}
use Rattle.listeners.proofs.Pushing.{regions_end, regions_more}
use Rattle.listeners.proofs.about.push_region_arguments.Goals as goal

pub regions-preserved : goal.regions-preserved
regions-preserved c =
    let ls = c.args.node.now.arguments in
    let count = c.region_count-count.ensures in
    let test = c.regions-test.true in
    let within : c.regions.region < length ls = omega (arith, count, test) in
    regions_more c.args.op ls c.args.values.now.items c.regions.region c.regions.values.items c.push_arguments_of.new.values.items within c.in_ok-push_arguments_of.ensures c.regions.invariant

pub returns : goal.returns
returns c =
    let ls = c.args.node.now.arguments in
    let count = c.region_count-count.ensures in
    let test = c.regions-test.false in
    let past : length ls ≤ c.regions.region = omega (arith, count, test) in
    regions_end c.args.op ls c.args.values.now.items c.regions.region c.regions.values.items past c.regions.invariant
