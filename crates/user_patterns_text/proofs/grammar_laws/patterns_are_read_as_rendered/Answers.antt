use Rattle.std.proofs.Common.{◌∙◌, sym}
use Rattle.user_patterns_text.proofs.Rendered.{pattern_exact}
use Rattle.user_patterns_text.proofs.grammar_laws.patterns_are_read_as_rendered.Goals as goal
use Rattle.std.proofs.lemmas.Option.{none-some}

pub returns-clause-found : goal.returns-clause-found
returns-clause-found c = λ text rest p e. pattern_exact.found text rest p e

pub returns-clause-only : goal.returns-clause-only
returns-clause-only c = λ text rest p h. pattern_exact.only text rest p h

pub returns-clause-nothing : goal.returns-clause-nothing
returns-clause-nothing c = λ text e p h. none-some (p, h.0) (sym e ∙ pattern_exact.only text h.0 p h.1)
