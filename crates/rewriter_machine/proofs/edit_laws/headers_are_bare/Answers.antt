use Rattle.std.proofs.Common.{subst}
use Rattle.ir_event.specs.tree_laws.Members.{In}
use Rattle.rewriter_machine.proofs.Bare.{header_sound}
use Rattle.rewriter_machine.proofs.Built.{header_count}
use Rattle.rewriter_machine.proofs.Inserted.{header_bare}
use Rattle.rewriter_machine.proofs.Parts.{in_middle}
use Rattle.rewriter_machine.proofs.edit_laws.headers_are_bare.Goals as goal

pub returns-clause-count : goal.returns-clause-count
returns-clause-count _ place o = header_count place o

pub returns-clause-empty : goal.returns-clause-empty
returns-clause-empty _ place o us vs u k = header_bare place o u (subst (In u) k (in_middle us vs u))

pub returns-clause-sound : goal.returns-clause-sound
returns-clause-sound _ c place o us vs u s k = header_sound c place o s u (subst (In u) k (in_middle us vs u))
