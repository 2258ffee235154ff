use Rattle.std.proofs.Common.{◌≡◌, ℕ, length}
use Rattle.ir_text_operations.specs.Spelling.{Spells}
use Rattle.ir_text_operations.specs.Claims.{IsNone}
use Rattle.ir_text.proofs.Errors.{refused_so, full_so}
use Rattle.ir_text.proofs.reader.read_new.Goals as goal

pub returns-in-Err-clause-refused : goal.returns-in-Err-clause-refused
returns-in-Err-clause-refused c = refused_so (length c.args.bytes.now) c.in-Err.e c.at.result (IsNone (Spells c.args.opaque c.args.bytes.now)) c.in-Err.ensures.refused c.at.ensures.is

pub returns-in-Err-clause-headroom : goal.returns-in-Err-clause-headroom
returns-in-Err-clause-headroom c = full_so (length c.args.bytes.now) c.in-Err.e c.at.result ⊥ c.in-Err.ensures.headroom c.at.ensures.is
