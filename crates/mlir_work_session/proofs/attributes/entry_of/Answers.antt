use Rattle.ir_text.specs.Public.{SpellsAttr}
use Rattle.mlir_work_session.proofs.Reading.{grown_trans, unparsed_memory, attr_kept}
use Rattle.mlir_work_session.proofs.attributes.entry_of.Goals as goal

pub returns-in_default-clause-unparsed : goal.returns-in_default-clause-unparsed
returns-in_default-clause-unparsed g c = unparsed_memory c.args.bytes (SpellsAttr c.args.bench.now.transaction.ctx.opaque c.args.text.now)

pub returns-in_default-clause-grown : goal.returns-in_default-clause-grown
returns-in_default-clause-grown g c = grown_trans g.L.Analysis.meaning _ _ _ c.attribute_of.ensures.grown c.name_of.ensures.grown

pub returns-clause-attr : goal.returns-clause-attr
returns-clause-attr g c = let h = c.name_of.ensures.grown in attr_kept c.args.bench.now.transaction.ctx.opaque _ _ c.args.text.now c.in-Ok.attribute h.before h.grows c.in-Ok.ensures.attr

pub returns-clause-grown : goal.returns-clause-grown
returns-clause-grown g c = grown_trans g.L.Analysis.meaning _ _ _ c.attribute_of.ensures.grown c.name_of.ensures.grown
