use Rattle.std.proofs.Common.{◌≡◌, ◌-◌, length}
use Rattle.ir_text_tokens.specs.declared.token.Mark.TheVariants.{CloseRound}
use Rattle.ir_text_types.specs.Marks.{after}
use Rattle.ir_text_types.specs.Lists.{more_at}
use Rattle.ir_text_operations.specs.Free.{free_bound}
use Rattle.ir_text_operations.specs.PrecedingReading.{use_at, uses_at}
use Rattle.ir_text_operations.proofs.op_header.operands.Given as goal

abbrev pub invariant-items : goal.invariant-items
invariant-items g l = record {
  reads : more_at after CloseRound (λ before. use_at (free_bound (g.O.Outer.types l.outer)) l.names.here) (256 - l.counter) l.items.items l.rest ≡ uses_at (free_bound (g.O.Outer.types l.outer)) l.names.here l.bytes;
  count : length l.items.items ≡ l.counter;
}
