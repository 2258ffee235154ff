use Rattle.std.proofs.Common.{arith}
use Rattle.conversion.proofs.Waiting.{waits_so}
use Rattle.conversion.proofs.walk.add.Goals as goal

pub returns-in-Ok : goal.returns-in-Ok
returns-in-Ok c = waits_so c.args.place c.args.walk.now.passed c.args.walk.now.again.keys c.insert.new.self.keys (omega (arith, c.if-place-walk.false)) c.in-Ok.ensures.keys
