use Rattle.std.proofs.Common.{◌≡◌, ℕ, Option, sym, subst}
use Rattle.std.specs.Bool.{OnTrue}
use Rattle.ir_event.specs.types.declared.bits.Bits.{Bits}
use Rattle.dialects_int.specs.Folds.{known_of}
use Rattle.constants.specs.Walk.{with_fact}
use Rattle.constants.specs.Tables.{known_in}
use Rattle.constants.proofs.collect.write_found.Goals as goal

pub returns-in-Some : goal.returns-in-Some
returns-in-Some c = subst (λ (o : Option Bits). OnTrue c.note.result ((y : ℕ) → known_in c.note.new.table y ≡ with_fact c.args.op (known_of o) (known_in c.args.table.now) y)) (sym c.in-Some.is) c.note.ensures.noted

pub returns-in-None : goal.returns-in-None
returns-in-None c = subst (λ (o : Option Bits). (y : ℕ) → known_in c.drop_fact.new.table y ≡ with_fact c.args.op (known_of o) (known_in c.args.table.now) y) (sym c.in-None.is) c.drop_fact.ensures
