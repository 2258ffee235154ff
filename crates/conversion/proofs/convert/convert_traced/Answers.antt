use Rattle.conversion_base.specs.Conversion.{conversion_of}
use Rattle.conversion_base.specs.Targets.{target_model}
use Rattle.conversion.proofs.Noting.{noted_or_left}
use Rattle.conversion.proofs.Replied.{converts_goes}
use Rattle.conversion.proofs.convert.convert_traced.Goals as goal

pub returns-clause-does : goal.returns-clause-does
returns-clause-does g c =
    converts_goes g.L.Analysis.meaning (conversion_of (target_model c.args.bench.now.transaction.ctx c.args.target.now)) c.args.bench.now c.convert_with.new.bench c.convert_with.ensures.leads.marks c.led_benches_are_kept.ensures.ages c.convert_with.result c.convert_with.ensures.converts
    (c.convert_with.ensures.leads.reported c.is_wellformed.ensures.context.holds).1

pub returns-clause-converts : goal.returns-clause-converts
returns-clause-converts g c = c.convert_with.ensures.converts

pub returns-clause-none : goal.returns-clause-none
returns-clause-none g c = c.convert_with.ensures.none

pub returns-clause-grows : goal.returns-clause-grows
returns-clause-grows g c = c.convert_with.ensures.leads.grows

pub returns-clause-led : goal.returns-clause-led
returns-clause-led g c = (c.convert_with.ensures.leads.reported c.is_wellformed.ensures.context.holds).1

pub returns-clause-journal : goal.returns-clause-journal
returns-clause-journal g c = noted_or_left c.convert_with.result c.args.bench.now.transaction c.convert_with.new.bench.transaction c.convert_with.ensures.leads.noted c.convert_with.ensures.left

pub returns-clause-reported : goal.returns-clause-reported
returns-clause-reported g c = c.convert_with.ensures.reported

pub returns-clause-stays : goal.returns-clause-stays
returns-clause-stays g c = c.convert_with.ensures.stays
