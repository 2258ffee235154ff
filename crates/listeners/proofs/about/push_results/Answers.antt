use Rattle.std.proofs.Common.{◌<◌, ◌≤◌, rules}
use Rattle.listeners.proofs.Pushing.{results_begin, results_end, results_more}
use Rattle.listeners.proofs.about.push_results.Goals as goal

pub results-init : goal.results-init
results-init c = results_begin c.args.op c.args.count c.args.values.now.items

pub results-preserved : goal.results-preserved
results-preserved c =
    results_more c.args.op c.args.count c.args.values.now.items c.results.place c.results.values.items c.push_result.new.values.items c.results-test.true c.in_ok-push_result.ensures c.results.invariant

pub returns : goal.returns
returns c = results_end c.args.op c.args.count c.args.values.now.items c.results.place c.results.values.items c.results-test.false c.results.invariant
