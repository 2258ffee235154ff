use Rattle.width_claims.proofs.Law.{accepted_at_all_widths}
use Rattle.width_claims.proofs.automaton_laws.acceptance_is_sound.Goals as goal

pub returns : goal.returns
returns c = accepted_at_all_widths
