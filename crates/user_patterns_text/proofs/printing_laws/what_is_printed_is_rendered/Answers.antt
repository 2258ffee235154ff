use Rattle.user_patterns_text.proofs.Texts.{is_text_of, spells_again}
use Rattle.user_patterns_text.proofs.printing_laws.what_is_printed_is_rendered.Goals as goal

pub returns-clause-text : goal.returns-clause-text
returns-clause-text c = is_text_of

pub returns-clause-again : goal.returns-clause-again
returns-clause-again c = spells_again
