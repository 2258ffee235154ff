use Rattle.std.proofs.Common.{◌≡◌, ◌++◌}
use Rattle.listeners_symbols.specs.Listeners.{kept_at}
use Rattle.listeners_symbols.specs.Lines.{defined_by}
use Rattle.listeners_symbols.specs.Telling.{contributions}
use Rattle.listeners_symbols.proofs.definitions.listed.Given as goal

abbrev pub invariant-loop-op : goal.invariant-loop-op
invariant-loop-op l = l.out.items ++ contributions defined_by (kept_at l.fn.roles) l.op-iterator ≡ contributions defined_by (kept_at l.fn.roles) l.fn.roles.symbol_ops.keys
