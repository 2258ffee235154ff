-- Canonicalization, and rewriting by a pattern set, as transformations of the state machine.
use Rattle.std.specs.Prelude.{ℕ, true, None, Result, Ok, Err}
use Rattle.ir_event.specs.types.declared.refusal.Refusal.{Refusal}
use Rattle.ir_event.specs.Modules.{Module}
use Rattle.rewriter_machine.specs.Machine.{Fault, Outcome, Reply, Refused, DoneWith, Transformation}
use Rattle.rewriter_machine.specs.Machine as machine
use Rattle.patterns_base.specs.Canonicalization.{End, converged, limited, Canonical, aborted, ended}
use Rattle.patterns_base.specs.Canonicalization.{canonicalization_of}
use Rattle.greedy.specs.Rewriting.{rewriting_of}
use Rattle.greedy.specs.PatternSet.{PatternSetModel}
use Rattle.greedy.specs.declared.outcome.Outcome.{Outcome as Ended}
use Rattle.greedy.specs.declared.outcome.Outcome.TheVariants.{Converged, Limit}

-- the outcome, after a number of rewrites
abbrev pub outcome_of : ℕ → End → Outcome
outcome_of k converged = machine.Converged k
outcome_of k limited = machine.Limited k

-- the outcome and the new module, or the reason of the refusal
abbrev pub made_of : Canonical → Result (Outcome × Module) Fault
made_of (ended m k e) = Ok (outcome_of k e, m)
made_of (aborted e) = Err (record { refusal = e; op = None })

-- the transformation that makes at most `limit` rewrites; it may intern names, types and attributes
abbrev pub canonicalizing : ℕ → Transformation
canonicalizing limit = record { transformed = λ m. made_of (canonicalization_of limit m); interns = true }

-- the transformation that makes at most a number of rewrites by a pattern set
abbrev pub rewriting : PatternSetModel → ℕ → Transformation
rewriting a limit = record { transformed = λ m. made_of (rewriting_of a limit m); interns = true }

-- the outcome of a run as the state machine reports it
abbrev pub outcome_meaning : Ended → Outcome
outcome_meaning (Converged k) = machine.Converged k
outcome_meaning (Limit k) = machine.Limited k

-- the reply to a canonicalization
abbrev pub canonical_reply : Result Ended Refusal → Reply
canonical_reply (Ok o) = DoneWith (outcome_meaning o)
canonical_reply (Err refusal) = Refused refusal
