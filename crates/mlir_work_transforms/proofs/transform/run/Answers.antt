use Rattle.std.proofs.Common.{List, subst, sym}
use Rattle.std.specs.Prelude.{OnOk}
use Rattle.conversion.specs.patterns.runs.Interning.{IsFull}
use Rattle.conversion.specs.patterns.Rows.{AreCanonical}
use Rattle.conversion.specs.patterns.Rule.{Rule}
use Rattle.conversion.specs.rewriter.Held.{module_held}
use Rattle.conversion.specs.rewriter.Machine.{Change, IsFullSo}
use Rattle.conversion.specs.rewriter.RewriterCalls.{Does, state_of}
use Rattle.greedy.specs.Changes.{canonical_reply, rewriting}
use Rattle.greedy.specs.PatternSet.{by_rules}
use Rattle.greedy.specs.Tracing.{trace_of}
use Rattle.greedy.proofs.Changing.{canonicalizing_is, led_none, memory_changes, memory_full}
use Rattle.mlir_work_transforms.specs.LineLaws.{Taken}
use Rattle.mlir_work_transforms.specs.Transforming.{MayTransform}
use Rattle.mlir_work_transforms.proofs.transform.run.Goals as goal

pub returns-in-Canonical-clause-does : goal.returns-in-Canonical-clause-does
returns-in-Canonical-clause-does g c = rw c.in-Canonical.is (subst (λ f. Does g.L.Analysis.meaning (Change f) (canonical_reply c.rewrite.result) c.args.bench.now c.rewrite.new.bench) (canonicalizing_is c.args.limit) c.rewrite.ensures.does)

pub returns-in-Canonical-clause-headroom : goal.returns-in-Canonical-clause-headroom
returns-in-Canonical-clause-headroom g c = rw c.in-Canonical.is (subst (λ f. IsFullSo (IsFull c.rewrite.new.bench.transaction.ctx) (state_of g.L.Analysis.meaning c.args.bench.now) f (canonical_reply c.rewrite.result)) (canonicalizing_is c.args.limit) c.rewrite.ensures.headroom)

pub rewrite-requires-in-Ok : goal.rewrite-requires-in-Ok
rewrite-requires-in-Ok g c = record { by_name = c.in-Ok.ensures.rows; canonical = subst AreCanonical (sym c.in-Ok.ensures.list) (subst MayTransform c.in-Listed.is c.requires) }

pub returns-in-Ok-clause-does : goal.returns-in-Ok-clause-does
returns-in-Ok-clause-does g c = rw c.in-Listed.is (subst (λ (rs : List Rule). Does g.L.Analysis.meaning (Change (rewriting (by_rules rs) c.args.limit)) (canonical_reply c.rewrite-in-Ok.result) c.args.bench.now c.rewrite-in-Ok.new.bench) c.in-Ok.ensures.list c.rewrite-in-Ok.ensures.does)

pub returns-in-Ok-clause-headroom : goal.returns-in-Ok-clause-headroom
returns-in-Ok-clause-headroom g c = rw c.in-Listed.is (subst (λ (rs : List Rule). IsFullSo (IsFull c.rewrite-in-Ok.new.bench.transaction.ctx) (state_of g.L.Analysis.meaning c.args.bench.now) (rewriting (by_rules rs) c.args.limit) (canonical_reply c.rewrite-in-Ok.result)) c.in-Ok.ensures.list c.rewrite-in-Ok.ensures.headroom)

pub returns-in-Ok-clause-traced : goal.returns-in-Ok-clause-traced
returns-in-Ok-clause-traced g c = rw c.in-Listed.is (subst (λ (rs : List Rule). OnOk c.rewrite-in-Ok.result (Taken (trace_of (by_rules rs) c.args.limit (module_held c.args.bench.now.transaction)) c.args.lines.now c.rewrite-in-Ok.new.trace)) c.in-Ok.ensures.list c.rewrite-in-Ok.ensures.trace)

pub returns-in-Err-clause-does : goal.returns-in-Err-clause-does
returns-in-Err-clause-does g c = rw c.in-Listed.is (memory_changes g.L.Analysis.meaning c.args.bench.now (by_rules c.in-Listed.rules.now) c.args.limit (c.led_benches_are_kept.ensures.ages c.args.bench.now c.args.bench.now (led_none g.L.Analysis.meaning c.args.bench.now)))

pub returns-in-Err-clause-headroom : goal.returns-in-Err-clause-headroom
returns-in-Err-clause-headroom g c = rw c.in-Listed.is (memory_full (by_rules c.in-Listed.rules.now) c.args.limit (state_of g.L.Analysis.meaning c.args.bench.now) (IsFull c.args.bench.now.transaction.ctx))

pub returns-in-Err-clause-led : goal.returns-in-Err-clause-led
returns-in-Err-clause-led g c = led_none g.L.Analysis.meaning c.args.bench.now
