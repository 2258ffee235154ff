-- The outcomes of transformations, with their words and numbers in a reply.
use Rattle.std.specs.Prelude.{ℕ, List, codes}
use Rattle.rewriter_machine.specs.Machine.{Applied, Outcome, Swept, Converged, Limited, Converted}
use Rattle.mlir_work_script.specs.declared.outcome.Outcome.{Outcome as Coded}
use Rattle.mlir_work_script.specs.declared.outcome.Outcome.TheVariants as code

abbrev pub outcome_of : Coded → Outcome
outcome_of (code.Swept n) = Swept n
outcome_of (code.Converged n) = Converged n
outcome_of (code.Limited n) = Limited n
outcome_of (code.Converted n) = Converted n
outcome_of (code.Applied n) = Applied n

abbrev pub outcome_word : Outcome → List ℕ
outcome_word (Swept n) = codes "swept"
outcome_word (Converged n) = codes "converged"
outcome_word (Limited n) = codes "limit"
outcome_word (Converted n) = codes "converted"
outcome_word (Applied n) = codes "applied"

abbrev pub outcome_count : Outcome → ℕ
outcome_count (Swept n) = n
outcome_count (Converged n) = n
outcome_count (Limited n) = n
outcome_count (Converted n) = n
outcome_count (Applied n) = n
