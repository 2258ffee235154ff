use Rattle.op_registry.proofs.signature.signature_of.Goals as goal

pub returns-clause-inputs : goal.returns-clause-inputs
returns-clause-inputs c = c.signature_in.ensures.inputs c.args.ctx.now c.type_of.ensures.parts

pub returns-clause-outputs : goal.returns-clause-outputs
returns-clause-outputs c = c.signature_in.ensures.outputs c.args.ctx.now c.type_of.ensures.parts
