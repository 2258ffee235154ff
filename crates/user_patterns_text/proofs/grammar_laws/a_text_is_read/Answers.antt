use Rattle.std.proofs.Common.{refl}
use Rattle.ir_text_tokens.specs.Tokens as tokens
use Rattle.ir_text_types.specs.Marks as marks
use Rattle.user_patterns_text.specs.Heads as heads
use Rattle.user_patterns_text.specs.Recognizing as reading
use Rattle.user_patterns_text.proofs.grammar_laws.a_text_is_read.Goals as goal

pub returns : goal.returns
unfolding reading.read reading.old_term reading.new_term reading.number reading.more heads.type_word heads.folding heads.predicates heads.flagged tokens.next tokens.skip tokens.number_at tokens.fraction_len marks.after
returns c = refl
