use Rattle.std.proofs.Common.{◌%◌, ◌/◌, ◌∙◌, arith, w64, rules}
use Rattle.std.proofs.lemmas.List.{get_or_default}
use Rattle.std.proofs.lemmas.Nat.Bits.{bit_at_clear_same, bit_at_clear_other}
use Rattle.listeners_support.proofs.Words.{bit_here, bit_other}
use Rattle.listeners_support.proofs.bits.clear_bit.Goals as goal

pub returns-clause-here : goal.returns-clause-here
returns-clause-here c = bit_here c.args.words.now.items c.args.at _ (search rules) ∙ bit_at_clear_same w64 _ (c.args.at % 64) (omega arith)

pub returns-clause-others : goal.returns-clause-others
returns-clause-others c = bit_other c.args.words.now.items c.args.at _ (search rules) c.index_mut.result.now (c.index_mut.ensures.value ∙ get_or_default c.args.words.now.items (c.args.at / 64) c.index_mut.result.now 0 (search rules)) (λ i l ne. bit_at_clear_other w64 _ (c.args.at % 64) (omega arith) i l ne)
