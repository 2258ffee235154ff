use Rattle.ir_event.specs.Modules.{Module}
use Rattle.conversion.specs.patterns.Rewrites.{rewrite_of}
use Rattle.mlir_work_transforms.proofs.Applied.{applied_does, applied_full}
use Rattle.mlir_work_transforms.proofs.apply.apply_rule.Goals as goal

pub returns-clause-does : goal.returns-clause-does
returns-clause-does g c =
    applied_does g.L.Analysis.meaning (λ (m : Module). rewrite_of c.args.rule m c.args.op) c.args.op c.args.bench.now c.apply.new.bench c.apply.result c.apply.ensures.there c.apply.ensures.ok c.apply.ensures.err c.apply.ensures.refused c.apply.ensures.stays.opens
    (c.led_benches_are_kept.ensures.ages c.args.bench.now c.apply.new.bench c.apply.ensures.stays.led)

pub returns-clause-headroom : goal.returns-clause-headroom
returns-clause-headroom g c = applied_full (λ (m : Module). rewrite_of c.args.rule m c.args.op) c.args.op _ c.apply.result c.apply.new.bench.transaction.ctx c.apply.ensures.there c.apply.ensures.refused
