use Rattle.greedy.proofs.Reaching.{far, all_far}
use Rattle.greedy.proofs.laws.events_leave_what_they_do_not_reach.Goals as goal

pub returns-clause-one : goal.returns-clause-one
returns-clause-one c = far

pub returns-clause-all : goal.returns-clause-all
returns-clause-all c = all_far
