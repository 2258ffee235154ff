use Rattle.patterns_soundness.proofs.Yielding.{loops_hand_on_all, choices_hand_on_all, choices_ask_truth}
use Rattle.patterns_soundness.proofs.yield_laws.verified_blocks_hand_on_all.Goals as goal

pub returns-clause-loops : goal.returns-clause-loops
returns-clause-loops c = loops_hand_on_all

pub returns-clause-choices : goal.returns-clause-choices
returns-clause-choices c = choices_hand_on_all

pub returns-clause-requested : goal.returns-clause-requested
returns-clause-requested c = choices_ask_truth
