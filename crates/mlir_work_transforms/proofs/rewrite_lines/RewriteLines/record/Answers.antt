use Rattle.std.proofs.Common.{refl}
use Rattle.mlir_work_transforms.proofs.Firings.{taken_counts, taken_each, taken_off}
use Rattle.mlir_work_transforms.proofs.rewrite_lines.RewriteLines.record.Goals as goal

pub returns-in-Off : goal.returns-in-Off
returns-in-Off c = taken_off _ _ _ c.in-Off.is refl refl

pub returns-in-EachRewrite : goal.returns-in-EachRewrite
returns-in-EachRewrite c =
    taken_each c.write_applied_rewrite.result c.args.applied.now c.args.self.now _ c.in-EachRewrite.is refl refl (rw c.deref.ensures.value at c.write_applied_rewrite.ensures)

pub returns-in-Counts : goal.returns-in-Counts
returns-in-Counts c = taken_counts c.count.result _ c.args.self.now _ c.in-Counts.is c.count.ensures.form c.count.ensures.counts
