use Rattle.listeners_support.proofs.Writes.{passed_by, longer_by}
use Rattle.listeners_support.proofs.map.pass_one.Goals as goal

pub returns-clause-same : goal.returns-clause-same
returns-clause-same g c = passed_by c.push.result c.args.near.now.items c.push.new.near.items c.push.ensures

pub returns-clause-long : goal.returns-clause-long
returns-clause-long g c = longer_by c.push.result c.args.near.now.items c.push.new.near.items c.push.ensures
