use Rattle.patterns_refinement.proofs.TrueNotes.{never_noted}
use Rattle.patterns_refinement.proofs.noted.wrong_patterns_are_not_noted.Goals as goal

pub returns : goal.returns
returns c = never_noted c.noted_patterns_are_proved.ensures.notes c.samples_hold_for_all_outcomes.ensures.refuted
