use Rattle.std.proofs.Common.{ap, ◌∙◌, subst, map}
use Rattle.ir_event.specs.types.WordNames.{word_bytes}
use Rattle.patterns.specs.Interned.{IsNameOf}
use Rattle.patterns.specs.New.{new_op}
use Rattle.patterns.proofs.Adding.{added_on}
use Rattle.patterns.proofs.Numbers.{type_keeps}
use Rattle.user_patterns_apply.specs.Built.{operand_in}
use Rattle.user_patterns_apply.proofs.Makings.{making_stands}
use Rattle.user_patterns_apply.proofs.edits.making.Goals as goal

pub returns-in-Err-entry-clause-added : goal.returns-in-Err-entry-clause-added
returns-in-Err-entry-clause-added g c = added_on g.L.Analysis.meaning c.args.bench.now c.type_number.new.bench c.entry.new.bench c.is_wellformed.ensures.context.holds c.in-Ok.ensures.added c.in-Err-entry.ensures.added

pub returns-in-Ok-new_op-clause-added : goal.returns-in-Ok-new_op-clause-added
returns-in-Ok-new_op-clause-added g c = added_on g.L.Analysis.meaning c.args.bench.now c.type_number.new.bench c.entry.new.bench c.is_wellformed.ensures.context.holds c.in-Ok.ensures.added c.in-Ok-entry.ensures.added

pub returns-in-Err-new_op-clause-added : goal.returns-in-Err-new_op-clause-added
returns-in-Err-new_op-clause-added g c = added_on g.L.Analysis.meaning c.args.bench.now c.type_number.new.bench c.entry.new.bench c.is_wellformed.ensures.context.holds c.in-Ok.ensures.added c.in-Ok-entry.ensures.added

pub returns-in-Ok-new_op-clause-stands : goal.returns-in-Ok-new_op-clause-stands
returns-in-Ok-new_op-clause-stands g c =
    let middle = c.type_number.new.bench.transaction.ctx in
    let new = c.entry.new.bench.transaction.ctx in
    making_stands c.args.bench.now.transaction.ctx middle new c.args.made.now c.args.point.now c.args.next c.in-Ok.ty c.word_name-name.result c.in-Ok-entry.entry c.in-Ok.ensures.ok
    (type_keeps middle new c.in-Ok.ty _ c.in-Ok-entry.ensures.added.grown.grows c.in-Ok.ensures.ok)
    (subst (λ z. IsNameOf z c.word_name-name.result (word_bytes c.args.made.now.word)) c.world.ensures.ctx (c.word_name-name.ensures.of, c.word_name-name.ensures.name)) c.in-Ok-entry.ensures.ok
    c.in-Ok-new_op.op (c.in-Ok-new_op.ensures ∙ ap (λ z. new_op c.word_name-name.result (map (operand_in c.args.next) z) c.in-Ok.ty c.in-Ok-entry.entry) c.deref.ensures.value)
