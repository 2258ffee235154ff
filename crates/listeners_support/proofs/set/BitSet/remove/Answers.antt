use Rattle.std.proofs.Common.{sym, ◌∙◌}
use Rattle.std.proofs.lemmas.Bool.{eqb-true, eqb-false}
use Rattle.listeners_support.proofs.Indexes.{emptied, kept}
use Rattle.listeners_support.proofs.set.BitSet.remove.Goals as goal

pub invariant_of-self : goal.invariant_of-self
invariant_of-self c =
    emptied c.self.inside.words.items c.self.inside.groups.items _ _ _ c.self.invariant c.clear_bit-empty.ensures.len c.clear_bit-left.ensures.len c.clear_bit-empty.ensures.words c.clear_bit-left.ensures.others
    (eqb-true _ 0 (sym c.clear_bit-empty.ensures.empty ∙ c.if-empty.true)) c.clear_bit-left.ensures.here

pub invariant_of-self-else-empty : goal.invariant_of-self-else-empty
invariant_of-self-else-empty c =
    kept c.self.inside.words.items c.self.inside.groups.items _ _ c.self.invariant c.clear_bit-empty.ensures.len c.clear_bit-empty.ensures.words c.clear_bit-empty.ensures.zero
    (eqb-false _ 0 (sym c.clear_bit-empty.ensures.empty ∙ c.if-empty.false))
