use Rattle.ir_text.proofs.Wholes.{opened}
use Rattle.ir_text.proofs.operations.write_opening.Goals as goal

pub returns-in-len1-up : goal.returns-in-len1-up
returns-in-len1-up c = λ d. rw (opened d c.args.regions.now c.in-len1-up.len_at_least) (c.write.ensures d)
