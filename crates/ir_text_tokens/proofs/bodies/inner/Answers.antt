use Rattle.std.proofs.Common.{sym, ◌∙◌}
use Rattle.ir_text_tokens.proofs.Walk.{other, other_refused, deep, opened}
use Rattle.ir_text_tokens.proofs.Ahead.{other_ahead, faulty_ahead, deep_ahead, opened_ahead}
use Rattle.ir_text_tokens.proofs.bodies.inner.Goals as goal

pub returns-in-Ok-clause-ok : goal.returns-in-Ok-clause-ok
returns-in-Ok-clause-ok c =
    other c.args.coming.now.items c.push.new.self.items c.args.nearest c.args.byte c.args.all.now c.args.tail.now c.in-Ok.rest.now
    c.requires.all c.requires.other (sym c.closer_of.ensures ∙ c.in_default.is) c.in-Ok.ensures.ok.0 c.in-Ok.ensures.ok.1 c.push.ensures.items

pub returns-in-Err-clause-err : goal.returns-in-Err-clause-err
returns-in-Err-clause-err c =
    other_refused c.args.coming.now.items c.args.nearest c.args.byte c.args.all.now c.args.tail.now c.at.result c.in-Err.refusal
    c.requires.all c.requires.other (sym c.closer_of.ensures ∙ c.in_default.is) c.in-Err.ensures.err c.at.ensures.refusal c.at.ensures.left

pub returns-then-is_full-clause-err : goal.returns-then-is_full-clause-err
returns-then-is_full-clause-err c =
    deep c.args.coming.now.items c.push.new.self.items c.args.nearest c.args.byte c.in-Some.closer c.args.all.now c.args.tail.now c.at-then-is_full.result
    c.requires.all c.requires.other (sym c.closer_of.ensures ∙ c.in-Some.is) c.push.ensures.items (sym c.is_full.ensures.value ∙ c.if-is_full.true)
    c.at-then-is_full.ensures.refusal c.at-then-is_full.ensures.left

pub returns-clause-ok : goal.returns-clause-ok
returns-clause-ok c =
    opened c.args.coming.now.items c.push.new.self.items c.push-2.new.self.items c.args.nearest c.args.byte c.in-Some.closer c.args.all.now c.args.tail.now
    c.requires.all c.requires.other (sym c.closer_of.ensures ∙ c.in-Some.is) c.push.ensures.items (sym c.is_full.ensures.value ∙ c.if-is_full.false)
    c.push-2.ensures.items

pub returns-in-Ok-clause-ahead : goal.returns-in-Ok-clause-ahead
returns-in-Ok-clause-ahead c =
    other_ahead c.args.coming.now.items c.push.new.self.items c.args.nearest c.args.byte c.args.all.now c.args.tail.now c.in-Ok.rest.now
    c.requires.all c.requires.other (sym c.closer_of.ensures ∙ c.in_default.is) c.in-Ok.ensures.ok.0 c.in-Ok.ensures.ok.1 c.push.ensures.items

pub returns-in-Err-clause-stuck : goal.returns-in-Err-clause-stuck
returns-in-Err-clause-stuck c =
    faulty_ahead c.args.coming.now.items c.args.nearest c.args.byte c.args.all.now c.args.tail.now c.in-Err.refusal
    c.requires.all c.requires.other (sym c.closer_of.ensures ∙ c.in_default.is) c.in-Err.ensures.err

pub returns-then-is_full-clause-stuck : goal.returns-then-is_full-clause-stuck
returns-then-is_full-clause-stuck c =
    deep_ahead c.args.coming.now.items c.push.new.self.items c.args.nearest c.args.byte c.in-Some.closer c.args.all.now c.args.tail.now
    c.requires.all c.requires.other (sym c.closer_of.ensures ∙ c.in-Some.is) c.push.ensures.items (sym c.is_full.ensures.value ∙ c.if-is_full.true)

pub returns-clause-ahead : goal.returns-clause-ahead
returns-clause-ahead c =
    opened_ahead c.args.coming.now.items c.push.new.self.items c.push-2.new.self.items c.args.nearest c.args.byte c.in-Some.closer c.args.all.now c.args.tail.now
    c.requires.all c.requires.other (sym c.closer_of.ensures ∙ c.in-Some.is) c.push.ensures.items (sym c.is_full.ensures.value ∙ c.if-is_full.false)
    c.push-2.ensures.items
