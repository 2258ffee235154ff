use Rattle.std.proofs.Common.{ap}
use Rattle.effects.specs.declared.effect_rows.EffectRows.{EffectRows}
use Rattle.effects.specs.Counts.{counts_in}
use Rattle.effects.proofs.Judging.{shown_by}
use Rattle.effects.proofs.dead.DeadAnalysis.report.Goals as goal

pub returns-in-Ok-clause-agreed : goal.returns-in-Ok-clause-agreed
returns-in-Ok-clause-agreed c things m held =
    shown_by things c.args.self.now.effects.rows.rows c.rows.result.now.rows (counts_in c.args.self.now.counts) c.in-Ok.rows.items m.tree (ap (λ (z : EffectRows). z.rows) c.rows.ensures) c.in-Ok.ensures.ordered c.in-Ok.ensures.rows held.1.0.1.0 held.1.0.1.1 held.1.1
