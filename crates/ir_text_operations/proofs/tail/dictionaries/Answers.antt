use Rattle.std.proofs.Common.{◌≡◌, ◌≤◌, length, arith}
use Rattle.ir_text_operations.proofs.Placing.{lone_dictionaries}
use Rattle.ir_text_operations.proofs.tail.dictionaries.Goals as goal

pub returns-then-len-le1 : goal.returns-then-len-le1
returns-then-len-le1 c =
    let few : length c.args.written.items ≤ 1 = omega (arith, c.if-len-le1.true, c.len.ensures) in
    let none : length c.args.others.now ≡ 0 = omega (arith, c.if-others-eq0.true) in
    rw c.new.ensures.items (lone_dictionaries c.args.ctx.now c.args.name c.args.written.items c.args.others.now few none)
