use Rattle.patterns_refinement.proofs.TrueNotes.{forms_are_sound, noted_are_proved, notes_are_true}
use Rattle.patterns_refinement.proofs.noted.noted_patterns_are_proved.Goals as goal

pub returns-clause-notes : goal.returns-clause-notes
returns-clause-notes c = notes_are_true c.what_is_defined_is_ready.ensures.registry c.what_is_defined_is_ready.ensures.noted c.forgetting_keeps_the_others.ensures.registry c.replacing_keeps_the_others.ensures c.what_is_defined_is_ready.ensures.empty

pub returns-clause-forms : goal.returns-clause-forms
returns-clause-forms c = forms_are_sound c.what_is_defined_is_ready.ensures.registry c.what_is_defined_is_ready.ensures.noted c.forgetting_keeps_the_others.ensures.registry c.replacing_keeps_the_others.ensures c.what_is_defined_is_ready.ensures.empty

pub returns-clause-proved : goal.returns-clause-proved
returns-clause-proved c =
    noted_are_proved c.polynomials_keep.ensures
    (notes_are_true c.what_is_defined_is_ready.ensures.registry c.what_is_defined_is_ready.ensures.noted c.forgetting_keeps_the_others.ensures.registry c.replacing_keeps_the_others.ensures c.what_is_defined_is_ready.ensures.empty)
    (forms_are_sound c.what_is_defined_is_ready.ensures.registry c.what_is_defined_is_ready.ensures.noted c.forgetting_keeps_the_others.ensures.registry c.replacing_keeps_the_others.ensures c.what_is_defined_is_ready.ensures.empty)
