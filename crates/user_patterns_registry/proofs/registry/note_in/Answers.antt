use Rattle.std.proofs.Common.{arith}
use Rattle.user_patterns_registry.proofs.Halves.{half_noted}
use Rattle.user_patterns_registry.proofs.registry.note_in.Goals as goal

pub returns : goal.returns
returns c = half_noted c.args.name.now c.args.said _ _ _ (omega arith) c.loop-one.invariant
