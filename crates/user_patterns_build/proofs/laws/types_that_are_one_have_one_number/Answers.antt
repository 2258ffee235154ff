use Rattle.user_patterns_build.proofs.Numbered.{have_one_number, numbers_the_same, stays_at_widths}
use Rattle.user_patterns_build.proofs.laws.types_that_are_one_have_one_number.Goals as goal

pub returns-clause-one : goal.returns-clause-one
returns-clause-one c = have_one_number

pub returns-clause-same : goal.returns-clause-same
returns-clause-same c = numbers_the_same

pub returns-clause-widths : goal.returns-clause-widths
returns-clause-widths c = stays_at_widths
