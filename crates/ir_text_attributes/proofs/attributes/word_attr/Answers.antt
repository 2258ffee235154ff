use Rattle.ir_text_attributes.proofs.attributes.word_attr.Goals as goal

pub returns-then-eq-4-clause-grows : goal.returns-then-eq-4-clause-grows
returns-then-eq-4-clause-grows c = c.array_attr.ensures.grows
