use Rattle.std.proofs.Common.{sym, subst, true, ◌∙◌}
use Rattle.ir_event.specs.Modules.{module_in}
use Rattle.std.specs.Prelude.{option_map}
use Rattle.std.proofs.Common.{◌≡◌}
use Rattle.patterns_soundness.specs.base.Rewrites.{edits_of, eligible}
use Rattle.patterns.specs.Planned.{made_edits}
use Rattle.patterns_plans.specs.reads.Reads.{header_of_node}
use Rattle.patterns.proofs.Firsts.{left_out}
use Rattle.patterns.proofs.Lowering.{attempted, tried_ok}
use Rattle.patterns.proofs.Planned.{none_suited}
use Rattle.patterns.proofs.apply_highest_priority.try_likely.Goals as goal

pub returns-then-not-allows : goal.returns-then-not-allows
returns-then-not-allows c =
    let w = c.args.world.now in
    let m = module_in w in
    let h = header_of_node w.ctx c.args.node.now in
    left_out c.args.rule m c.args.op c.requires.likely.attempted
    (none_suited c.args.rule m c.args.op h c.allows.result c.requires.shown (c.allows.ensures m.tree (record h { id = c.args.op }) c.requires.eligibility) c.if-not-allows.true)

pub made_dead-requires-clause-eligible : goal.made_dead-requires-clause-eligible
made_dead-requires-clause-eligible c =
    let w = c.args.world.now in
    let t = (module_in w).tree in
    let h = record (header_of_node w.ctx c.args.node.now) { id = c.args.op } in
    subst (λ r. eligible r t h ≡ true) c.in-EraseDead.is (sym (c.allows.ensures t h c.requires.eligibility) ∙ c.if-not-allows.false)

pub made_at-requires-clause-eligible : goal.made_at-requires-clause-eligible
made_at-requires-clause-eligible c =
    let w = c.args.world.now in
    let t = (module_in w).tree in
    let h = record (header_of_node w.ctx c.args.node.now) { id = c.args.op } in
    sym (c.allows.ensures t h c.requires.eligibility) ∙ c.if-not-allows.false

pub returns-in-EraseDead : goal.returns-in-EraseDead
returns-in-EraseDead c =
    let w = c.args.world.now in
    let m = module_in w in
    attempted w c.args.op c.args.point.now c.args.rule c.requires.likely.attempted c.made_dead.result
    (subst (λ r. option_map (made_edits w.ctx m.next c.args.op c.args.point.now) c.made_dead.result ≡ edits_of r m c.args.op) (sym c.in-EraseDead.is) c.made_dead.ensures.edits)
    c.made_dead.ensures.of

pub returns-in_default : goal.returns-in_default
returns-in_default c = tried_ok c.args.world.now c.args.op c.args.point.now c.args.rule c.requires.likely.attempted c.made_at.result c.made_at.ensures.edits c.made_at.ensures.of
