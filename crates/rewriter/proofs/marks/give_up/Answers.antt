use Rattle.rewriter.proofs.OpenMarks.{unmarked}
use Rattle.rewriter.proofs.marks.give_up.Goals as goal

pub release_all-requires : goal.release_all-requires
release_all-requires c = unmarked c.args.transaction.now.marks c.if-is_marked.ensures.1
