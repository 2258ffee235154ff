use Rattle.std.proofs.Common.{subst, List, ℕ}
use Rattle.patterns_lowering.specs.Lowered.{IsLowering}
use Rattle.patterns_lowering.proofs.Interning.{lowering_next}
use Rattle.patterns_lowering.proofs.intern.lowered_entry.Goals as goal
use Rattle.std.proofs.Common.{sym}

pub returns-in-Ok-push_entry-clause-lowered : goal.returns-in-Ok-push_entry-clause-lowered
returns-in-Ok-push_entry-clause-lowered g c = λ all rest l.
    subst (λ (made : List (ℕ × ℕ)). IsLowering c.lowered_attr.new.bench.transaction.ctx all rest made) (sym c.in-Ok-push_entry.ensures)
    (lowering_next c.args.bench.now.transaction.ctx c.lowered_attr.new.bench.transaction.ctx c.is_wellformed.ensures.context.holds c.in-Ok.ensures.interned.grown.grows all rest c.args.lowered.now.items c.args.entry c.in-Ok.attr l c.in-Ok.ensures.known c.in-Ok.ensures.is)
