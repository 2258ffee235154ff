use Rattle.std.proofs.Common.{option_map, sym, ◌∙◌}
use Rattle.std.proofs.lemmas.Result.{IfOk-weaker}
use Rattle.ir_event.specs.Modules.{module_in}
use Rattle.patterns_lowering.proofs.Requested.{verified_shown}
use Rattle.patterns.specs.Planned.{made_edits}
use Rattle.patterns_plans.specs.reads.Reads.{header_of_node}
use Rattle.patterns_soundness.proofs.of_base.Facts.{erases_not, others_suit}
use Rattle.patterns.proofs.Planned.{by_rule}
use Rattle.patterns.proofs.plan.made_at.Goals as goal

pub returns-clause-edits : goal.returns-clause-edits
returns-clause-edits c =
    let w = c.args.world.now in
    IfOk-weaker c.made_of.result _ _
    (λ p h. by_rule c.args.rule (module_in w) c.args.op (header_of_node w.ctx c.args.node.now) c.args.point.now (option_map (made_edits w.ctx (module_in w).next c.args.op c.args.point.now) p) c.requires.shown c.requires.point c.requires.eligible h)
    c.made_of.ensures.edits

pub made_of-requires-clause-verified : goal.made_of-requires-clause-verified
made_of-requires-clause-verified c lowers =
    let w = c.args.world.now in
    let h = header_of_node w.ctx c.args.node.now in
    let t = (module_in w).tree in
    verified_shown w c.args.op h c.requires.shown (sym (others_suit c.args.rule t (record h { id = c.args.op }) (erases_not c.args.rule lowers)) ∙ c.requires.eligible)
