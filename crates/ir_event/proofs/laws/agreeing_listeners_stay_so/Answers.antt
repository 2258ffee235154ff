use Rattle.ir_event.proofs.Kept.{kept_attached, kept_detached, kept_begun, kept_not_begun, kept_grown}
use Rattle.ir_event.proofs.laws.agreeing_listeners_stay_so.Goals as goal

pub returns-clause-attached : goal.returns-clause-attached
returns-clause-attached g _ c m b xs ys a kept = kept_attached g.L.Analysis.meaning c m b xs ys a kept

pub returns-clause-detached : goal.returns-clause-detached
returns-clause-detached g _ kind c m xs ys d kept = kept_detached g.L.Analysis.meaning c m kind xs ys d kept

pub returns-clause-begun : goal.returns-clause-begun
returns-clause-begun g _ kind c m xs ys b kept = kept_begun g.L.Analysis.meaning c m kind xs ys b kept

pub returns-clause-not_begun : goal.returns-clause-not_begun
returns-clause-not_begun g _ kind c m xs ys e n kept = kept_not_begun g.L.Analysis.meaning c m kind xs ys e n kept

pub returns-clause-grown : goal.returns-clause-grown
returns-clause-grown g _ c d m xs holds also grows kept = kept_grown g.L.Analysis.meaning c m d xs holds also grows kept
