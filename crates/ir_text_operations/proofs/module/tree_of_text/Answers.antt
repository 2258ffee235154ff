use Rattle.ir_text_types.specs.declared.error.ReadError.TheVariants as errors
use Rattle.ir_text_operations.proofs.Modules.{rendered_of, none_of, source_none, error_is}
use Rattle.ir_text_operations.proofs.module.tree_of_text.Goals as goal

pub returns-in-Err-source-clause-refused : goal.returns-in-Err-source-clause-refused
returns-in-Err-source-clause-refused c = λ f e. source_none c.args.ctx.now.opaque c.args.bytes.now (c.in-Err-source.ensures.refused f e)

pub returns-in-Ok-check_dominance-clause-read : goal.returns-in-Ok-check_dominance-clause-read
returns-in-Ok-check_dominance-clause-read c = rendered_of c.source.new.ctx c.args.ctx.now.opaque c.args.bytes.now c.in-Ok-source.tree c.in-Ok-source.ensures.read c.in-Ok.ensures.ok c.in-Ok-check_dominance.ensures.ok

pub returns-in-Err-check_dominance-clause-refused : goal.returns-in-Err-check_dominance-clause-refused
returns-in-Err-check_dominance-clause-refused c = λ f e. none_of c.source.new.ctx c.args.ctx.now.opaque c.args.bytes.now c.in-Ok-source.tree c.in-Ok-source.ensures.read (c.in-Err-check_dominance.ensures.refused f (error_is c.in-Err-check_dominance.e (errors.Refused f) e))
