use Rattle.ir_event.specs.Modules.{Module}
use Rattle.user_patterns_data.specs.Shapes.{pattern_model}
use Rattle.greedy.specs.own.Own.{user_pattern_rewrite}
use Rattle.mlir_work_transforms.proofs.Applied.{applied_does, applied_full}
use Rattle.mlir_work_transforms.proofs.apply_pattern.apply_pattern.Goals as goal

pub returns-clause-does : goal.returns-clause-does
returns-clause-does g c =
    applied_does g.L.Analysis.meaning (λ (m : Module). user_pattern_rewrite (pattern_model c.args.pattern.now) m c.args.op) c.args.op c.args.bench.now c.apply_pattern.new.bench c.apply_pattern.result c.apply_pattern.ensures.there c.apply_pattern.ensures.ok c.apply_pattern.ensures.err c.apply_pattern.ensures.refused c.apply_pattern.ensures.stays.opens
    (c.led_benches_are_kept.ensures.ages c.args.bench.now c.apply_pattern.new.bench c.apply_pattern.ensures.stays.led)

pub returns-clause-headroom : goal.returns-clause-headroom
returns-clause-headroom g c = applied_full (λ (m : Module). user_pattern_rewrite (pattern_model c.args.pattern.now) m c.args.op) c.args.op _ c.apply_pattern.result c.apply_pattern.new.bench.transaction.ctx c.apply_pattern.ensures.there c.apply_pattern.ensures.refused
