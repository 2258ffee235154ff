use Rattle.std.proofs.Common.{◌≡◌, true, false, sym, ap, ◌∙◌}
use Rattle.std.specs.Prelude.{reverse}
use Rattle.ir_text_tokens.specs.Bodies.{comma_ahead}
use Rattle.ir_text_tokens.proofs.Walk.{popped}
use Rattle.ir_text_tokens.proofs.Ahead.{comma_here, none_at_the_end, none_after}
use Rattle.ir_text_tokens.proofs.bodies.has_comma.Goals as goal

pub returns-in_default : goal.returns-in_default
returns-in_default c = sym (none_after c.bytes.coming.items c.bytes.rest.now (λ some. let e : false ≡ true = c.in_default.ensures.variant.1 some in absurd cc)) ∙ c.bytes.invariant.same

pub returns-in_default-rest : goal.returns-in_default-rest
returns-in_default-rest c =
    sym (ap (λ l. comma_ahead l 0 c.bytes.rest.now) (popped c.bytes.coming.items c.pop.new.self.items c.in-Some.nearest c.in-Some.ensures.items)
    ∙ none_at_the_end c.in-Some.nearest (reverse c.pop.new.self.items) c.bytes.rest.now c.in_default-rest.len_below)
    ∙ c.bytes.invariant.same

pub returns-then-is_comma : goal.returns-then-is_comma
returns-then-is_comma c =
    sym (ap (λ l. comma_ahead l 0 c.bytes.rest.now) (popped c.bytes.coming.items c.pop.new.self.items c.in-Some.nearest c.in-Some.ensures.items)
    ∙ comma_here c.in-Some.nearest (reverse c.pop.new.self.items) c.bytes.rest.now c.in-len1-up.len_at_least (sym c.is_comma.ensures ∙ c.if-is_comma.true))
    ∙ c.bytes.invariant.same
