use Rattle.std.proofs.Common.{◌≡◌, ◌∙◌, sym, List, ℕ, ◌++◌, ap, arith, length, length-append}
use Rattle.mlir_work_script_base.specs.Limits.{most_input_bytes}
use Rattle.mlir_work_script_base.specs.Parts.{at_divider}
use Rattle.mlir_work_run.proofs.Feeds.{before_divider, before_end, before_more, more_before}
use Rattle.mlir_work_run.proofs.parts.take_module.Goals as goal

pub overflow_sub-len : goal.overflow_sub-len
unfolding most_input_bytes
overflow_sub-len g c = let short = c.lines.invariant.short in let is = c.len.ensures in omega (arith, short, is)

pub returns-in-Ok-None-clause-module : goal.returns-in-Ok-None-clause-module
returns-in-Ok-None-clause-module g c = before_end _ _ _ c.lines.text.items c.lines.invariant.before (c.in-Ok-None.ensures.end c.in-Ok-None.field-0-is) (c.in-Ok-None.ensures.stays c.in-Ok-None.field-0-is)

pub returns-in-Err-clause-many : goal.returns-in-Err-clause-many
unfolding most_input_bytes
returns-in-Err-clause-many g c e = more_before most_input_bytes _ _ c.lines.text.items _ (let short = c.lines.invariant.short in let is = c.len.ensures in omega (arith, short, is)) c.lines.invariant.before (c.in-Err.ensures.many e)

pub returns-then-at_divider-clause-module : goal.returns-then-at_divider-clause-module
returns-then-at_divider-clause-module g c = before_divider _ _ _ c.lines.text.items c.in-Ok-Some.line.items c.lines.invariant.before (rw c.in-Ok-Some.field-0-is at c.in-Ok-Some.ensures.line) (sym (c.if-at_divider.ensures ∙ ap at_divider c.deref.ensures.value))

pub lines-smaller : goal.lines-smaller
unfolding most_input_bytes
lines-smaller g c =
    let line = rw c.in-Ok-Some.field-0-is at c.in-Ok-Some.ensures.some in
    let short = rw c.in-Ok-Some.field-0-is at c.in-Ok-Some.ensures.short in
    let had = c.lines.invariant.short in
    let is = c.len.ensures in
    let longer = ap length (c.in-Ok.ensures.items ∙ ap (λ (xs : List ℕ). c.lines.text.items ++ xs) c.deref-in-lines.ensures.value) in
    omega (arith, line, short, had, is, longer, length-append c.lines.text.items c.in-Ok-Some.line.items)

pub lines-preserved : goal.lines-preserved
unfolding most_input_bytes
lines-preserved g c =
    let line = rw c.in-Ok-Some.field-0-is at c.in-Ok-Some.ensures.line in
    let short = rw c.in-Ok-Some.field-0-is at c.in-Ok-Some.ensures.short in
    let had = c.lines.invariant.short in
    let is = c.len.ensures in
    let all : c.extend_from_slice.new.self.items ≡ c.lines.text.items ++ c.in-Ok-Some.line.items = c.in-Ok.ensures.items ∙ ap (λ (xs : List ℕ). c.lines.text.items ++ xs) c.deref-in-lines.ensures.value in
    record {
      before = rw all (before_more _ _ _ c.lines.text.items c.in-Ok-Some.line.items c.lines.invariant.before line (sym (c.if-at_divider.ensures ∙ ap at_divider c.deref.ensures.value)));
      short = omega (arith, short, had, is, ap length all, length-append c.lines.text.items c.in-Ok-Some.line.items);
      failed = c.in-Ok-Some.ensures.failed ∙ c.lines.invariant.failed;
    }
