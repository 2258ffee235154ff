use Rattle.user_patterns_registry.proofs.Halves.{Half, IsNoted}
use Rattle.user_patterns_registry.proofs.registry.note_in.Given as goal

abbrev pub invariant-loop-one : goal.invariant-loop-one
invariant-loop-one l = Half (IsNoted l.name l.said) l.initial.one-items l.one-items l.one-index
