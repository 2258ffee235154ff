use Rattle.dialects_int.proofs.KnowingMore.{knowing_more}
use Rattle.dialects_int.proofs.fold_laws.knowing_more.Goals as goal

pub returns : goal.returns
returns c name props xs ys results known h e = knowing_more name props xs ys results known h e
