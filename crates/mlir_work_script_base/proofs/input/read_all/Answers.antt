use Rattle.std.proofs.Common.{rules, ◌++◌, ◌≡◌, ◌+◌, ◌∙◌, ℕ, take, sym, ap, length, arith, length-append, inr, subst}
use Rattle.mlir_work_script_base.specs.Limits.{most_input_bytes, most_reads}
use Rattle.mlir_work_script_base.specs.Reads.{AreMade}
use Rattle.mlir_work_script_base.proofs.Joins.{consumes_join, consumes_kept, kept_more, too_long}
use Rattle.mlir_work_script_base.proofs.Made.{made_join, made_at_most, few_made, fewer_made, gave_more, ran_out}
use Rattle.mlir_work_script_base.proofs.input.read_all.Goals as goal
use Rattle.mlir_work_script_base.proofs.input.read_all.Goals.{in-Ok+else-count-taken, in-Err-Interrupted}

pub overflow_sub-count : goal.overflow_sub-count
unfolding most_input_bytes
overflow_sub-count g c = search rules

pub loop-made-preserved : goal.loop-made-preserved
unfolding most_input_bytes
loop-made-preserved g c =
    let before = c.loop-made.invariant in
    let preceding = c.loop-made.invariant.preceding in
    elim c.match-read_some.branch [
      | in-Ok+else-count-taken w ↦
          let bytes = take w.in-Ok.taken c.read_some.new.buffer in
          let longer : length (preceding ++ bytes) ≡ length preceding + w.in-Ok.taken = length-append preceding bytes ∙ ap (λ n. length preceding + n) (sym w.in-Ok.ensures.bound.1) in
          record {
            preceding = preceding ++ bytes;
            taken = consumes_join _ _ _ preceding bytes before.taken w.in-Ok.ensures.took.0.0;
            failed = w.in-Ok.ensures.took.1.1 ∙ before.failed;
            made = made_join _ _ _ c.loop-made._made 1 before.made w.in-Ok.ensures.took.1.0;
            counted = w.count-is ∙ (ap (λ n. n + w.in-Ok.taken) before.counted ∙ sym longer);
            gave = rw w.count-is (gave_more c.loop-made._made c.loop-made.count w.in-Ok.taken _ _ before.gave w.in-Ok.taken-test.1 w.in-Ok.ensures.took.1.2);
            within = (let headroom = w.if-count-taken.false in let short = before.within in let same = before.counted in omega (arith, longer));
            kept = rw w.kept-is (kept_more (λ all. all.items) _ _ preceding bytes w.keep.ensures.lost w.keep.ensures.kept before.kept);
          }
      | in-Err-Interrupted w ↦
          let took = rw w.in-Err-Interrupted.field-0-is at w.in-Err-Interrupted.ensures.took in
          record {
            preceding = preceding;
            taken = consumes_kept _ _ _ preceding before.taken took.0;
            failed = took.1.1 ∙ before.failed;
            made = made_join _ _ _ c.loop-made._made 1 before.made took.1.0;
            counted = w.count-is ∙ before.counted;
            gave = inr took.1.2;
            within = before.within;
            kept = rw w.kept-is before.kept;
          }
    ]

pub returns-in-Ok-eq0-clause-made : goal.returns-in-Ok-eq0-clause-made
unfolding most_reads
returns-in-Ok-eq0-clause-made g c = few_made _ _ (c.loop-made._made + 1) _ (made_join _ _ _ c.loop-made._made 1 c.loop-made.invariant.made c.in-Ok-eq0.ensures.took.1.0) (let more = c.loop-made-test.true in omega arith)

pub returns-then-count-taken-clause-too_many : goal.returns-then-count-taken-clause-too_many
unfolding most_input_bytes
returns-then-count-taken-clause-too_many g c many =
    let before = c.loop-made.invariant in
    let given = c.in-Ok.ensures.bound.1 in
    let more = c.if-count-taken.true in
    too_long _ _ _ before.preceding (take c.in-Ok.taken c.read_some.new.buffer) _ before.taken c.in-Ok.ensures.took.0.0 (omega arith)

pub returns-then-count-taken-clause-read : goal.returns-then-count-taken-clause-read
unfolding most_input_bytes
returns-then-count-taken-clause-read g c =
    let before = c.loop-made.invariant in
    let given = c.in-Ok.ensures.bound.1 in
    let more = c.if-count-taken.true in
    (inr (too_long _ _ _ before.preceding (take c.in-Ok.taken c.read_some.new.buffer) _ before.taken c.in-Ok.ensures.took.0.0 (omega arith)), c.in-Ok.ensures.took.1.1 ∙ before.failed)

pub returns-then-count-taken-clause-made : goal.returns-then-count-taken-clause-made
unfolding most_reads
returns-then-count-taken-clause-made g c = few_made _ _ (c.loop-made._made + 1) _ (made_join _ _ _ c.loop-made._made 1 c.loop-made.invariant.made c.in-Ok.ensures.took.1.0) (let more = c.loop-made-test.true in omega arith)

pub returns-in-Err-Failed-clause-made : goal.returns-in-Err-Failed-clause-made
unfolding most_reads
returns-in-Err-Failed-clause-made g c =
    let took = rw c.in-Err-Failed.field-0-is at c.in-Err-Failed.ensures.took in
    fewer_made _ _ (c.loop-made._made + 1) _ (made_at_most _ _ _ c.loop-made._made 1 c.loop-made.invariant.made took.1.0) (let more = c.loop-made-test.true in omega arith)

pub returns-clause-read : goal.returns-clause-read
unfolding most_input_bytes most_reads
returns-clause-read g c =
    let before = c.loop-made.invariant in
    let all : c.loop-made._made ≡ most_reads = (let last = c.loop-made-test.false in let end = c.loop-made.auto._made-end in omega arith) in
    inr (subst (λ (n : ℕ). AreMade (g.R.Source.intake c.args.reader.now).reads (g.R.Source.intake c.loop-made.reader).reads n) all before.made, ran_out c.loop-made._made c.loop-made.count _ before.gave (let last = c.loop-made-test.false in let short = before.within in let counted = before.counted in omega arith))

pub returns-clause-made : goal.returns-clause-made
unfolding most_reads
returns-clause-made g c = few_made _ _ c.loop-made._made _ c.loop-made.invariant.made (let all = c.loop-made.auto._made-end in omega arith)
