use Rattle.std.proofs.Common.{◌≡◌, true, false, sym, ap, ◌∙◌}
use Rattle.ir_text_tokens.specs.Bodies.{scan}
use Rattle.ir_text_tokens.proofs.Walk.{popped, at_the_end, none_to_come}
use Rattle.ir_text_tokens.proofs.bodies.inside.Goals as goal

pub returns-in_default : goal.returns-in_default
returns-in_default c = sym (none_to_come c.bytes.coming.items c.bytes.rest.now (λ some. let e : false ≡ true = c.in_default.ensures.variant.1 some in absurd cc)) ∙ c.bytes.invariant.same

pub returns-in_default-rest : goal.returns-in_default-rest
returns-in_default-rest c =
    sym (ap (λ l. scan l 0 c.bytes.rest.now) (popped c.bytes.coming.items c.pop.new.self.items c.in-Some.nearest c.in-Some.ensures.items)
    ∙ at_the_end c.pop.new.self.items c.in-Some.nearest c.bytes.rest.now c.at.result c.in_default-rest.len_below c.at.ensures.refusal c.at.ensures.left)
    ∙ c.bytes.invariant.same

pub bytes-preserved : goal.bytes-preserved
bytes-preserved c = record {
  same = sym (ap (λ l. scan l 0 c.bytes.rest.now) (popped c.bytes.coming.items c.pop.new.self.items c.in-Some.nearest c.in-Some.ensures.items) ∙ c.in-Ok.ensures.ok) ∙ c.bytes.invariant.same;
  headroom = c.step.ensures.headroom;
}
