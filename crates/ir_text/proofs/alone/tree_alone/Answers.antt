use Rattle.std.proofs.Common.{sym}
use Rattle.ir_text_types.specs.declared.error.ReadError.TheVariants as errors
use Rattle.ir_text_operations.proofs.Modules.{rendered_of, none_of, source_none, error_is}
use Rattle.ir_text.proofs.Sources.{within_limit}
use Rattle.ir_text.proofs.WholeHeadroom.{text_fits}
use Rattle.ir_text.proofs.alone.tree_alone.Goals as goal

pub returns-in-Err-source_alone-clause-refused : goal.returns-in-Err-source_alone-clause-refused
returns-in-Err-source_alone-clause-refused c = λ f e. source_none c.args.opaque c.args.bytes.now (c.in-Err-source_alone.ensures.refused f e)

pub returns-in-Err-source_alone-clause-headroom : goal.returns-in-Err-source_alone-clause-headroom
returns-in-Err-source_alone-clause-headroom c = λ left e. text_fits c.args.opaque c.args.bytes.now (within_limit c.args.bytes.now (sym c.in-Ok.ensures.ok)) (c.in-Err-source_alone.ensures.full left e)

pub returns-in-Ok-check_dominance-clause-read : goal.returns-in-Ok-check_dominance-clause-read
returns-in-Ok-check_dominance-clause-read c = rendered_of c.in-Ok-source_alone.found.0 c.args.opaque c.args.bytes.now c.in-Ok-source_alone.found.1 c.in-Ok-source_alone.ensures.read c.in-Ok.ensures.ok c.in-Ok-check_dominance.ensures.ok

pub returns-in-Err-check_dominance-clause-refused : goal.returns-in-Err-check_dominance-clause-refused
returns-in-Err-check_dominance-clause-refused c = λ f e. none_of c.in-Ok-source_alone.found.0 c.args.opaque c.args.bytes.now c.in-Ok-source_alone.found.1 c.in-Ok-source_alone.ensures.read (c.in-Err-check_dominance.ensures.refused f (error_is c.in-Err-check_dominance.e (errors.Refused f) e))
