use Rattle.rewriter.proofs.Notified.{notified_none, notified_more, led_kept, led_ages}
use Rattle.rewriter.proofs.laws.led_benches_are_kept.Goals as goal

pub returns-clause-kept : goal.returns-clause-kept
returns-clause-kept g _ a b led kept = led_kept g.L.Analysis.meaning a b led kept

pub returns-clause-ages : goal.returns-clause-ages
returns-clause-ages g _ a b led = led_ages g.L.Analysis.meaning a b led

pub returns-clause-none : goal.returns-clause-none
returns-clause-none g _ a = notified_none g.L.Analysis.meaning a

pub returns-clause-more : goal.returns-clause-more
returns-clause-more g _ es fs a b c holds also h k = notified_more g.L.Analysis.meaning es fs a b c holds h k
