use Rattle.std.proofs.Common.{length}
use Rattle.ir_text_modules.specs.Expansions.{expansion_of}
use Rattle.ir_text_modules.proofs.Within.{place_within}
use Rattle.ir_text_modules.proofs.module.extra_left.Goals as goal

pub returns-in_default-clause-offset : goal.returns-in_default-clause-offset
returns-in_default-clause-offset c = rw (c.place-place.ensures) (place_within (length c.args.text.now) (expansion_of c.args.expansion.now) c.args.offset)
