use Rattle.user_patterns_text.proofs.Patterns.{is_read, is_rendered}
use Rattle.user_patterns_text.proofs.reading.read.Goals as goal

pub returns-clause-found : goal.returns-clause-found
returns-clause-found c = is_rendered c.args.bytes.now c.whole.result c.whole.ensures

pub returns-clause-only : goal.returns-clause-only
returns-clause-only c = is_read c.args.bytes.now c.whole.result c.whole.ensures
