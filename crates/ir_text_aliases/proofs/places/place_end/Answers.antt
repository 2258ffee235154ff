use Rattle.std.proofs.Common.{sym, ◌∙◌}
use Rattle.ir_text_aliases.proofs.Placing.{closed, open_at_the_end}
use Rattle.ir_text_aliases.proofs.places.place_end.Goals as goal

pub returns-then-is_empty : goal.returns-then-is_empty
returns-then-is_empty c = sym (closed c.lexemes.coming.items c.lexemes.rest.now (sym c.is_empty.ensures ∙ c.if-is_empty.true)) ∙ c.lexemes.invariant.same

pub returns-in_default : goal.returns-in_default
returns-in_default c =
    sym (open_at_the_end c.lexemes.coming.items c.lexemes.rest.now c.at.result (sym c.is_empty.ensures ∙ c.if-is_empty.false) c.in_default.len_below c.at.ensures.refusal c.at.ensures.left)
    ∙ c.lexemes.invariant.same
