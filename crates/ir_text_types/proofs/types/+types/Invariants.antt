use Rattle.std.proofs.Common.{◌≡◌, ◌*◌, ◌+◌, ◌-◌, length}
use Rattle.ir_text_tokens.specs.declared.token.Mark.TheVariants.{CloseRound}
use Rattle.ir_text_types.specs.Lists.{more_at}
use Rattle.ir_text_types.specs.Typed.{after_typed}
use Rattle.ir_text_types.specs.TypeReading.{types_at, type_at}
use Rattle.ir_types.specs.Things.{IsExtendedBy}
use Rattle.ir_text_types.proofs.types.+types.Given as goal

abbrev pub decreases-new_ty : goal.decreases-new_ty
decreases-new_ty l = 6 * l.depth

abbrev pub decreases-ty : goal.decreases-ty
decreases-ty l = 6 * l.depth + 1

abbrev pub decreases-types : goal.decreases-types
decreases-types l = 6 * l.depth + 2

abbrev pub decreases-outputs : goal.decreases-outputs
decreases-outputs l = 6 * l.depth + 3

abbrev pub decreases-signature : goal.decreases-signature
decreases-signature l = 6 * l.depth + 4

abbrev pub decreases-function : goal.decreases-function
decreases-function l = 6 * l.depth + 5

abbrev pub invariant-types-items : goal.invariant-types-items
invariant-types-items l = record {
  reads : more_at after_typed CloseRound (λ before. type_at l.opaque l.depth) (l.headroom - l.counter) l.items.items (l.rest, l.ctx) ≡ types_at (type_at l.opaque l.depth) l.headroom (l.bytes, l.initial.ctx);
  grows : IsExtendedBy l.initial.ctx l.ctx;
  count : length l.items.items ≡ l.counter;
}
