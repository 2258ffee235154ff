use Rattle.std.proofs.Common.{arith, rules}
use Rattle.ir_types.proofs.Beginning.{one_more_word, begun_with, begun_things}
use Rattle.ir_types.proofs.context.Context.in_mode.Goals as goal

pub loop-index-preserved : goal.loop-index-preserved
loop-index-preserved c = one_more_word (λ v. v.items) c.loop-index.index c.word.result.now c.loop-index.names.keys c.insert.new.self.keys c.in_ok-from_slice.field-0 c.loop-index.invariant c.word.ensures c.in_ok-from_slice.ensures.items c.in_ok-insert.ensures.keys

pub invariant_of-result : goal.invariant_of-result
invariant_of-result c = begun_with _ _ _ _ c.loop-index.index (omega arith) c.loop-index.invariant (search rules) (search rules)

pub returns-clause-ok : goal.returns-clause-ok
returns-clause-ok c = begun_things _ _ _ _ c.loop-index.index (omega arith) c.loop-index.invariant (search rules) (search rules)
