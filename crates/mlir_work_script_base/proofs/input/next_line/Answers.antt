use Rattle.std.proofs.Common.{arith}
use Rattle.mlir_work_script_base.proofs.Spanning.{after_found, after_none}
use Rattle.mlir_work_script_base.proofs.input.next_line.Goals as goal

pub returns-in-Some : goal.returns-in-Some
returns-in-Some c =
    let found = c.in-Some.ensures in
    after_found c.args.text.now c.in-Some.place found.0.high (λ k below here. found.0.before k (omega arith) below here) found.1

pub returns-in-None : goal.returns-in-None
returns-in-None c = after_none c.args.text.now (λ k below here. c.in-None.ensures k (omega arith) below here)
