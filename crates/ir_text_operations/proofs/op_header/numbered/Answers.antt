use Rattle.std.proofs.Common.{sym, ◌∙◌, arith}
use Rattle.ir_text_operations.proofs.Members.{past_limit, past_all}
use Rattle.ir_text_operations.proofs.op_header.numbered.Goals as goal

pub returns-in_err-place : goal.returns-in_err-place
returns-in_err-place c =
    c.from_residual.ensures ∙ sym (past_limit c.args.pack.now c.args.digits.now c.requires (omega (arith, c.len-count.ensures)) (sym c.in_err-place.ensures))

pub returns-then-place-count : goal.returns-then-place-count
returns-then-place-count c =
    sym (past_all c.args.pack.now c.args.digits.now c.in_ok-place.place c.requires (sym c.in_ok-place.ensures) (omega (arith, c.len-count.ensures, c.if-place-count.true)))
