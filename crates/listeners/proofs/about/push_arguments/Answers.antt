use Rattle.listeners.proofs.Pushing.{arguments_begin, arguments_end, arguments_more}
use Rattle.listeners.proofs.about.push_arguments.Goals as goal

pub arguments-init : goal.arguments-init
arguments-init c = arguments_begin c.args.op c.args.region c.args.count c.args.values.now.items

pub arguments-preserved : goal.arguments-preserved
arguments-preserved c =
    arguments_more c.args.op c.args.region c.args.count c.args.values.now.items c.arguments.place c.arguments.values.items c.push_argument.new.values.items c.arguments-test.true c.in_ok-push_argument.ensures c.arguments.invariant

pub returns : goal.returns
returns c = arguments_end c.args.op c.args.region c.args.count c.args.values.now.items c.arguments.place c.arguments.values.items c.arguments-test.false c.arguments.invariant
