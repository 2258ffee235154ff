use Rattle.std.proofs.Common.{refl}
use Rattle.listeners_support.proofs.Indexes.{inserted}
use Rattle.listeners_support.proofs.set.BitSet.insert.Goals as goal

pub invariant_of-self : goal.invariant_of-self
invariant_of-self c =
    inserted c.self.inside.words.items c.self.inside.groups.items _ _ _ c.self.invariant c.set_bit.ensures.len c.set_bit-2.ensures.len c.set_bit.ensures.words c.set_bit-2.ensures.others c.args.number refl c.set_bit.ensures.here c.set_bit-2.ensures.here
