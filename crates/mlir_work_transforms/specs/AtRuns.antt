-- The results of rewriting one operation repeatedly.
use Rattle.std.specs.Prelude.{◌≡◌, ℕ}
use Rattle.ir_event.specs.types.declared.refusal.Refusal.{Refusal}
use Rattle.ir_event.specs.Modules.{Module}
use Rattle.conversion.specs.patterns.Canonicalization.{ended}
use Rattle.greedy.specs.Outcomes.{count_of, ending_of, IsReasonFor}
use Rattle.greedy.specs.declared.outcome.Outcome.{Outcome}
use Rattle.mlir_work_transforms.specs.At.{canonicalization_at}

-- the canonicalization of operation `x` of module `m` has outcome `o` and leads to module `n`
abbrev pub IsCanonicalAt : ℕ → ℕ → Module → Outcome → Module → Type 0
IsCanonicalAt limit x m o n = canonicalization_at limit x m ≡ ended n (count_of o) (ending_of o)

-- a reason why the canonicalization may be refused
abbrev pub IsReasonAt : ℕ → ℕ → Module → Type 0 → Refusal → Type 0
IsReasonAt limit x m is_full e = IsReasonFor (canonicalization_at limit x m) limit is_full e
