use Rattle.std.proofs.Common.{arith, refl}
use Rattle.ir_text_tokens.specs.Inside.{visible_onto}
use Rattle.ir_text_tokens.proofs.Kept.{no_marks, no_entries}
use Rattle.ir_text_tokens.proofs.names.ScopedNames.new.Goals as goal

pub invariant_of-result : goal.invariant_of-result
invariant_of-result g c = record { agrees = rw c.new.ensures.items (no_entries c.with_hasher.result c.with_hasher.ensures.empty); standing = rw c.new-2.ensures.items (no_marks _); floor = omega arith }

pub returns : goal.returns
unfolding visible_onto
returns g c = rw (c.new.ensures.items, c.new-2.ensures.items) refl
