use Rattle.mlir_work_session_base.proofs.JsonText.{control_written, letter_written, plain_written}
use Rattle.mlir_work_session_base.proofs.json_text.write_escaped.Goals as goal

pub returns-in_ok-push-2 : goal.returns-in_ok-push-2
returns-in_ok-push-2 c = letter_written c.args.byte _ _ _ _ c.escape_letter-letter.ensures c.if-letter-gt0.true c.in_ok-push.ensures.items c.in_ok-push-2.ensures.items

pub returns-in_ok-push-4 : goal.returns-in_ok-push-4
returns-in_ok-push-4 c =
    control_written c.args.byte _ _ _ _ _ _ _ c.escape_letter-letter.ensures c.if-letter-gt0.false c.if-byte-lt32.true c.hex_digit.ensures c.hex_digit-then-byte-lt32.ensures
    c.in_ok-extend_from_slice.ensures.items c.in_ok-push-3.ensures.items c.in_ok-push-4.ensures.items

pub returns-in_ok-push-5 : goal.returns-in_ok-push-5
returns-in_ok-push-5 c = plain_written c.args.byte _ _ _ c.escape_letter-letter.ensures c.if-letter-gt0.false c.if-byte-lt32.false c.in_ok-push-5.ensures.items
