use Rattle.user_patterns_text.proofs.Printable.{pattern_fits}
use Rattle.user_patterns_text.proofs.Rendered.{pattern_exact}
use Rattle.user_patterns_text.proofs.Whole.{read_again}
use Rattle.user_patterns_text.proofs.grammar_laws.printed_patterns_are_read_again.Goals as goal

pub returns-clause-printable : goal.returns-clause-printable
returns-clause-printable c = read_again

pub returns-clause-read : goal.returns-clause-read
returns-clause-read c = λ text rest p e. read_again p (pattern_fits p text rest (pattern_exact.found text rest p e))
