use Rattle.listeners_support.proofs.Writes.{added_by, refused_by}
use Rattle.listeners_support.proofs.map.add.Goals as goal

pub returns-clause-added : goal.returns-clause-added
returns-clause-added g c = added_by c.push.result c.args.near.now.items c.pass.new.near.items c.push.new.near.items c.args.place c.args.value (c.in_ok-pass.ensures.same 0) c.in_ok-pass.ensures.long c.push.ensures

pub returns-clause-refused : goal.returns-clause-refused
returns-clause-refused g c = refused_by c.push.result c.args.near.now.items c.pass.new.near.items c.push.new.near.items c.args.value (c.in_ok-pass.ensures.same 0) c.push.ensures
