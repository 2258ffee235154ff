use Rattle.ir_event.specs.types.Terms.{type_term}
use Rattle.rewriter_machine.proofs.step_laws.types_are_themselves.Goals as goal
use Rattle.ir_event.proofs.of_types.SameTerms.{type_refl}

pub returns : goal.returns
returns _ c t = type_refl (type_term c t)
