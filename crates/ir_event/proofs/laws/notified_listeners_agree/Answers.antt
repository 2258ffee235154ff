use Rattle.ir_event.proofs.Follows.{all_notified, all_more, all_kept, all_kinds}
use Rattle.ir_event.proofs.laws.notified_listeners_agree.Goals as goal

pub returns-clause-kept : goal.returns-clause-kept
returns-clause-kept g _ e c m n shown xs ys step shows reported kept = all_kept g.L.Analysis.meaning _ _ _ _ _ xs ys (all_notified g.L.Analysis.meaning e c m n shown xs ys step shows reported) kept

pub returns-clause-analysis_kinds : goal.returns-clause-analysis_kinds
returns-clause-analysis_kinds g _ e c m n shown xs ys step shows reported = all_kinds g.L.Analysis.meaning _ _ _ _ _ xs ys (all_notified g.L.Analysis.meaning e c m n shown xs ys step shows reported)

pub returns-clause-one : goal.returns-clause-one
returns-clause-one g _ e c m n shown xs ys step shows reported = all_notified g.L.Analysis.meaning e c m n shown xs ys step shows reported

pub returns-clause-more : goal.returns-clause-more
returns-clause-more g _ es fs c d f m n p xs ys zs h k = all_more g.L.Analysis.meaning es fs c d f m n p xs ys zs h k

pub returns-clause-followed : goal.returns-clause-followed
returns-clause-followed g _ es c d m n xs ys h kept = all_kept g.L.Analysis.meaning es c d m n xs ys h kept
