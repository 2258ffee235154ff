use Rattle.std.proofs.Common.{sym, ◌∙◌, length, ◌-◌, arith}
use Rattle.mlir_work_script_base.proofs.Trimming.{cut_edge, cut_nothing}
use Rattle.mlir_work_script_base.proofs.words.trim_back.Goals as goal

pub loop-rest-preserved : goal.loop-rest-preserved
loop-rest-preserved c = sym (cut_edge c.loop-rest.rest.now (length c.loop-rest.rest.now - 1) (omega arith) (sym c.if-not-is_edge.ensures)) ∙ c.loop-rest.invariant

pub returns-then-not-is_edge : goal.returns-then-not-is_edge
returns-then-not-is_edge c = sym (cut_nothing c.loop-rest.rest.now (length c.loop-rest.rest.now - 1) (omega arith) (sym c.if-not-is_edge.ensures)) ∙ c.loop-rest.invariant
