-- The trace of a rewriting. For each rewrite it has the entry that was applied, the operation, the operations that the
-- rewrite made, and whether the operation is still in the module.
use Rattle.std.specs.Prelude.{◌≡◌, ℕ, zero, suc, List, [], ◌∷◌, length, Option, Some, None}
use Rattle.ir_event.specs.trees.Ids.{has_id, ids}
use Rattle.ir_event.specs.Modules.{Module}
use Rattle.patterns_base.specs.Rewrites.{Rewrite, none, refused, becomes}
use Rattle.patterns_base.specs.Canonicalization.{End, ended}
use Rattle.greedy.specs.Rewriting.{next_by, rewritten_from}
use Rattle.greedy.specs.PatternSet.{PatternSetModel}
use Rattle.greedy.specs.Applications.{IsApplied}
use Rattle.greedy.specs.declared.applied_rewrite.AppliedPattern.{AppliedPattern}
use Rattle.greedy.specs.declared.applied_rewrite.AppliedRewrite.{AppliedRewrite}

-- the applied entry and the operation, or another site if no entry applies
abbrev pub site_or : Option AppliedPattern → ℕ → Option (AppliedPattern × ℕ) → Option (AppliedPattern × ℕ)
site_or None x others = others
site_or (Some r) x others = Some (r, x)

-- the first operation at which an entry applies, with the first entry that applies there
unfoldable pub site_by : PatternSetModel → List ℕ → Module → Option (AppliedPattern × ℕ)
site_by a [] m = None
site_by a (x ∷ xs) m = site_or (a.fires m x) x (site_by a xs m)

-- the site of the next rewrite of a module
abbrev pub site_of : PatternSetModel → Module → Option (AppliedPattern × ℕ)
site_of a m = site_by a (ids m.tree) m

-- the record of a rewrite from module m to module n at operation x
abbrev pub applied_rewrite : AppliedPattern → ℕ → Module → Module → AppliedRewrite
applied_rewrite r x m n = record { by = r; op = x; from = m.next; until = n.next; stays = has_id x n.tree }

-- the trace entry of a rewrite of module m
abbrev pub trace_step : Rewrite → Option (AppliedPattern × ℕ) → Module → Option AppliedRewrite
trace_step none s m = None
trace_step (refused e) s m = None
trace_step (becomes n) None m = None
trace_step (becomes n) (Some s) m = Some (applied_rewrite s.0 s.1 m n)

-- the trace entry of the next rewrite
abbrev pub applied_next : PatternSetModel → Module → Option AppliedRewrite
applied_next a m = trace_step (next_by a m) (site_of a m) m

-- the trace entry of a rewrite, followed by the entries of the later ones
abbrev pub trace_on : Rewrite → Option AppliedRewrite → (Module → List AppliedRewrite) → List AppliedRewrite
trace_on none f more = []
trace_on (refused e) f more = []
trace_on (becomes n) None more = []
trace_on (becomes n) (Some f) more = f ∷ more n

-- the trace of at most a number of rewrites of a module
unfoldable pub trace_of : PatternSetModel → ℕ → Module → List AppliedRewrite
trace_of a zero m = []
trace_of a (suc left) m = trace_on (next_by a m) (applied_next a m) (trace_of a left)

-- a trace has as many entries as there were rewrites
abbrev pub TraceIsCounted : Type 0
TraceIsCounted = (a : PatternSetModel) → IsApplied a → (limit : ℕ) (m n : Module) (k : ℕ) (e : End)
    → rewritten_from a limit 0 m ≡ ended n k e → length (trace_of a limit m) ≡ k
