use Rattle.std.proofs.Common.{◌∙◌, refl}
use Rattle.mlir_work_transforms.proofs.Firings.{fired_at_limit, fired_before_limit}
use Rattle.mlir_work_transforms.proofs.rewrite_lines.RewriteLines.count.Goals as goal

pub returns-then-len-self-clause-counts : goal.returns-then-len-self-clause-counts
returns-then-len-self-clause-counts c =
    fired_before_limit _ _ c.args.applied.now c.in_ok-push.ensures.items refl refl refl refl (λ e. c.if-len-self.true (c.len.ensures ∙ c.push.new.self.ok.0 ∙ e))

pub returns-clause-counts : goal.returns-clause-counts
returns-clause-counts c =
    fired_at_limit _ _ c.args.applied.now c.truncate.new.self.items c.in_ok-push.ensures.items refl refl refl c.truncate.ensures.items (rw (c.deref.ensures.value, c.deref-2.ensures.value) at c.in_ok-write_last.ensures)
