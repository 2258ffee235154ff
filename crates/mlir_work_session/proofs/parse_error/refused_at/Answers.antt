use Rattle.std.proofs.Common.{rules, inl, inr, ◌≡◌}
use Rattle.ir_event.specs.types.declared.refusal.Refusal.TheVariants.{IdsExhausted}
use Rattle.ir_text.specs.Public.{SpellsAttr}
use Rattle.mlir_work_transforms.specs.rewriter.Texts.{SpellsNextTo}
use Rattle.mlir_work_session.proofs.Reading.{ids_are_late, ids_refused, unparsed_at, unparsed_at_op}
use Rattle.mlir_work_session.proofs.parse_error.refused_at.Goals as goal

pub returns-then-eq-clause-attr : goal.returns-then-eq-clause-attr
returns-then-eq-clause-attr c bytes opaque text small none =
    let is : c.args.refusal ≡ IdsExhausted = search rules in
    absurd (ids_are_late c.args.refusal is small)

pub returns-then-eq-clause-op : goal.returns-then-eq-clause-op
returns-then-eq-clause-op c bytes opaque m text reported none =
    let is : c.args.refusal ≡ IdsExhausted = search rules in
    ids_refused bytes (SpellsNextTo opaque m text) c.args.refusal is none

pub returns-clause-attr : goal.returns-clause-attr
returns-clause-attr c bytes opaque text small none = unparsed_at bytes (SpellsAttr opaque text) c.args.refusal c.args.offset small none

pub returns-clause-op : goal.returns-clause-op
returns-clause-op c bytes opaque m text reported none = elim reported [
  | inl small ↦ unparsed_at_op bytes (SpellsNextTo opaque m text) c.args.refusal c.args.offset small none
  | inr is ↦ absurd (search (rules, is))
]
