use Rattle.conversion_base.proofs.ReportedReasons as reported
use Rattle.conversion_base.proofs.laws.reported_reasons_hold.Goals as goal

pub returns : goal.returns
returns c = record { applies = reported.reported_where_rules_apply; fails = reported.reported_conditions_fail }
