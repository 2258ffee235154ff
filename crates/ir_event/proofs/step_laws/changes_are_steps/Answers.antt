use Rattle.ir_event.proofs.Undone.{taken_steps, given_steps, moved_steps, newest_steps}
use Rattle.ir_event.proofs.step_laws.changes_are_steps.Goals as goal

pub returns-clause-take : goal.returns-clause-take
returns-clause-take _ c x place fresh m n w u sound t = taken_steps c x place fresh m n w u sound t

pub returns-clause-put : goal.returns-clause-put
returns-clause-put _ c x place fresh m n w u sound t = given_steps c x place fresh m n w u sound t

pub returns-clause-shift : goal.returns-clause-shift
returns-clause-shift _ c x old new m n w u sound also s = moved_steps c x old new m n w u sound also s

pub returns-clause-newest : goal.returns-clause-newest
returns-clause-newest _ c x m w sound e n = newest_steps c x m w sound e n
