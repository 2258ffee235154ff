use Rattle.ir_event.proofs.Steps.{step_stays}
use Rattle.ir_event.proofs.laws.steps_stay.Goals as goal

pub returns : goal.returns
returns _ c d e m n holds g s = step_stays c d e m n holds g s
