use Rattle.std.proofs.Common.{sym, ◌∙◌, eqb-true, arith}
use Rattle.ir_store_cases.proofs.Points.{alone_holds_none}
use Rattle.ir_store_cases.proofs.may.is_bare.Goals as goal

pub returns : goal.returns
returns c = λ e. let one = sym c.op_count.ensures ∙ eqb-true c.op_count.result 1 e in alone_holds_none c.args.header.now (omega (arith, one))
