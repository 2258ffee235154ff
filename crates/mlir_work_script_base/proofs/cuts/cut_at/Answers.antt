use Rattle.std.proofs.Common.{◌==◌, arith}
use Rattle.std.proofs.lemmas.Grind.{common_steps}
use Rattle.mlir_work_script_base.proofs.Cutting.{cut_found, cut_missing}
use Rattle.mlir_work_script_base.proofs.cuts.cut_at.Goals as goal

pub returns-in-Some-clause-before : goal.returns-in-Some-clause-before
returns-in-Some-clause-before c = (cut_found (λ b. b == c.args.byte) c.args.text.now c.in-Some.place c.in-Some.ensures).0

pub returns-in-Some-clause-after : goal.returns-in-Some-clause-after
returns-in-Some-clause-after c = let h = (cut_found (λ b. b == c.args.byte) c.args.text.now c.in-Some.place c.in-Some.ensures).1 in grind (arith, common_steps, h)

pub returns-in-None-clause-before : goal.returns-in-None-clause-before
returns-in-None-clause-before c = (cut_missing (λ b. b == c.args.byte) c.args.text.now c.in-None.ensures).0

pub returns-in-None-clause-after : goal.returns-in-None-clause-after
returns-in-None-clause-after c = (cut_missing (λ b. b == c.args.byte) c.args.text.now c.in-None.ensures).1
