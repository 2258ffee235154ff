use Rattle.std.proofs.Common.{length, sym, subst, ◌∙◌}
use Rattle.std.specs.Prelude.{reverse}
use Rattle.ir_text_aliases.specs.Steps.{Moved, Stuck}
use Rattle.ir_text_aliases.proofs.Moving.{as_alias, as_lexeme}
use Rattle.ir_text_aliases.proofs.walk.step.Goals as goal

pub returns-in_default-clause-moved : goal.returns-in_default-clause-moved
returns-in_default-clause-moved c =
    subst (λ m. Moved m c.append_lexeme.new.at.scanned (reverse c.append_lexeme.new.at.outer.items) c.args.tail.now c.in_ok-append_lexeme.field-0.now c.args.out.now.text.items c.append_lexeme.new.out.text.items c.args.out.now.marks.items c.append_lexeme.new.out.marks.items)
    (sym (as_lexeme c.args.part.now c.args.values.now c.args.names.now.here c.args.at.now.scanned (reverse c.args.at.now.outer.items) (length c.args.out.now.text.items) c.args.byte c.args.tail.now c.alias_in.result (sym c.goes.ensures ∙ c.if-goes.false) c.alias_in.ensures c.in_default.is))
    c.in_ok-append_lexeme.ensures.moved

pub returns-in-None-clause-moved : goal.returns-in-None-clause-moved
returns-in-None-clause-moved c =
    subst (λ m. Moved m c.write_alias.new.at.scanned (reverse c.write_alias.new.at.outer.items) c.args.tail.now c.in-Some.rest.now c.args.out.now.text.items c.write_alias.new.out.text.items c.args.out.now.marks.items c.write_alias.new.out.marks.items)
    (sym (as_alias c.args.part.now c.args.values.now c.args.names.now.here c.args.at.now.scanned (reverse c.args.at.now.outer.items) (length c.args.out.now.text.items) c.args.byte c.args.tail.now c.alias_in.result c.in-Some.rest (sym c.goes.ensures ∙ c.if-goes.false) c.alias_in.ensures c.in-Some.is))
    (c.in_ok-write_alias.ensures.moved c.in-None.is)

pub returns-in-Some-2-clause-stuck : goal.returns-in-Some-2-clause-stuck
returns-in-Some-2-clause-stuck c =
    subst (λ m. Stuck m c.in-Some-2.fault c.args.out.now.text.items c.write_alias.new.out.text.items c.args.out.now.marks.items c.write_alias.new.out.marks.items)
    (sym (as_alias c.args.part.now c.args.values.now c.args.names.now.here c.args.at.now.scanned (reverse c.args.at.now.outer.items) (length c.args.out.now.text.items) c.args.byte c.args.tail.now c.alias_in.result c.in-Some.rest (sym c.goes.ensures ∙ c.if-goes.false) c.alias_in.ensures c.in-Some.is))
    (c.in_ok-write_alias.ensures.stuck c.in-Some-2.fault c.in-Some-2.is)
