use Rattle.dialects_int.proofs.CastLaws.{signed_maximum_chosen, maximum_chosen, signed_minimum_chosen, minimum_chosen}
use Rattle.dialects_int.proofs.laws.extremes_by_choice.Goals as goal

pub returns-clause-signed_maximum : goal.returns-clause-signed_maximum
returns-clause-signed_maximum c w a b some ha hb = signed_maximum_chosen w a b some ha hb

pub returns-clause-maximum : goal.returns-clause-maximum
returns-clause-maximum c w a b = maximum_chosen w a b

pub returns-clause-signed_minimum : goal.returns-clause-signed_minimum
returns-clause-signed_minimum c w a b some ha hb = signed_minimum_chosen w a b some ha hb

pub returns-clause-minimum : goal.returns-clause-minimum
returns-clause-minimum c w a b = minimum_chosen w a b
