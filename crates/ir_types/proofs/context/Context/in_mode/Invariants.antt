use Rattle.std.proofs.Common.{◌≡◌, map, take}
use Rattle.ir_types.specs.Words.{words}
use Rattle.ir_types.proofs.context.Context.in_mode.Given as goal

abbrev pub invariant-loop-index : goal.invariant-loop-index
invariant-loop-index l = map (λ v. v.items) l.names.keys ≡ take l.index words
