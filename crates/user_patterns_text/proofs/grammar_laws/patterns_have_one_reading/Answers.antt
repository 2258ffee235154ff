use Rattle.std.proofs.Common.{◌∙◌, sym}
use Rattle.user_patterns_text.proofs.Exact.{same_pair}
use Rattle.user_patterns_text.proofs.Rendered.{pattern_exact}
use Rattle.user_patterns_text.proofs.grammar_laws.patterns_have_one_reading.Goals as goal

pub returns : goal.returns
returns c = λ text p q h k. (same_pair (sym (pattern_exact.only text k.0 q k.1) ∙ pattern_exact.only text h.0 p h.1)).0
