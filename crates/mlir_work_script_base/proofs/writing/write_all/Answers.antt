use Rattle.std.proofs.Common.{◌++◌, ◌∙◌, ap, sym, append_assoc, get_or, [], Bor, List, ℕ}
use Rattle.mlir_work_script_base.proofs.Joins.{joined_step, grows_join, preceding_within}
use Rattle.mlir_work_script_base.proofs.writing.write_all.Goals as goal

pub returns-in-Err : goal.returns-in-Err
returns-in-Err g c =
    let d : Bor (List ℕ) = record { ref_ptr = (0, 0); now = [] } in
    let step = joined_step c.args.chunks.now c.loop-chunk.chunk-index d c.loop-chunk-test.true in
    preceding_within _ _ _ _ c.loop-chunk.invariant.preceding _ _ (c.loop-chunk.invariant.is ∙ ap (λ xs. c.loop-chunk.invariant.preceding ++ xs) step) c.loop-chunk.invariant.wrote c.in-Err.ensures

pub loop-chunk-preserved : goal.loop-chunk-preserved
loop-chunk-preserved g c =
    let d : Bor (List ℕ) = record { ref_ptr = (0, 0); now = [] } in
    let step = joined_step c.args.chunks.now c.loop-chunk.chunk-index d c.loop-chunk-test.true in
    record {
      preceding = c.loop-chunk.invariant.preceding ++ (get_or c.args.chunks.now c.loop-chunk.chunk-index d).now;
      is = c.loop-chunk.invariant.is ∙ (ap (λ xs. c.loop-chunk.invariant.preceding ++ xs) step ∙ sym (append_assoc c.loop-chunk.invariant.preceding _ _));
      wrote = grows_join _ _ _ c.loop-chunk.invariant.preceding _ c.loop-chunk.invariant.wrote c.in-Ok.ensures;
    }
