-- Legalizing an operation (Dialect Conversion, "Conversion Patterns"): the operations that a pattern makes are
-- legalized in turn. Modules take the place of marks; an attempt that fails has no resulting module.
use Rattle.std.specs.Prelude.{ℕ, zero, suc, ◌-◌, List, [], ◌∷◌, ◌++◌, Bool, true, false, ◌||◌, if◌then◌else◌}
use Rattle.std.specs.List.{range_with_len}
use Rattle.ir_event.specs.types.declared.refusal.Refusal.{Refusal}
use Rattle.ir_event.specs.trees.Ids.{has_id}
use Rattle.ir_event.specs.Modules.{Module}
use Rattle.patterns_base.specs.declared.rule.Rule.{Rule}
use Rattle.patterns_base.specs.Rewrites.{Rewrite, none, refused, becomes, rewrite_of}
use Rattle.conversion_base.specs.Targets.{Aim, is_legal}
use Rattle.conversion_base.specs.declared.applied_rule.AppliedRule.{AppliedRule}

-- the outcome of legalizing operations: success with the new module and the applied rules, in the order in which they
-- were applied; failure; or a refusal. Success and failure say whether any attempt reached the depth limit at an
-- operation that isn't legal
pub data Outcome : Type 0 where
  legalised : Module → List AppliedRule → Bool → Outcome
  failed : Bool → Outcome
  aborted : Refusal → Outcome

-- an outcome after earlier applied rules; the flag says whether an earlier attempt reached the depth limit
abbrev pub trailing : List AppliedRule → Bool → Outcome → Outcome
trailing ks limit_reached (legalised m ns deep) = legalised m (ks ++ ns) (limit_reached || deep)
trailing ks limit_reached (failed deep) = failed (limit_reached || deep)
trailing ks limit_reached (aborted e) = aborted e

-- the next step, if this one succeeded
abbrev pub and_then : (Module → Outcome) → Outcome → Outcome
and_then f (legalised m ks limit_reached) = trailing ks limit_reached (f m)
and_then f (failed limit_reached) = failed limit_reached
and_then f (aborted e) = aborted e

-- another attempt, if this one failed
abbrev pub or_else : Outcome → Outcome → Outcome
or_else (legalised m ks limit_reached) o = legalised m ks limit_reached
or_else (failed limit_reached) o = trailing [] limit_reached o
or_else (aborted e) o = aborted e

-- the ids that were given out since a given next id, in ascending order
abbrev pub made_since : ℕ → Module → List ℕ
made_since n m = range_with_len n (m.next - n)

-- the record of a rule that made module n of module m at operation x
abbrev pub applied_rule : Rule → ℕ → Module → Module → AppliedRule
applied_rule r x m n = record { rule = r; op = x; from = m.next; until = n.next; stays = has_id x n.tree }

-- `go` legalises one operation
module _ (go : Module → ℕ → Outcome) where
  -- an operation that is still in the module; an erased operation needs no legalization
  abbrev pub standing : Module → ℕ → Outcome
  standing m x = if has_id x m.tree then go m x else legalised m [] false

  -- some operations in turn
  abbrev pub each_of : List ℕ → Module → Outcome
  each_of [] m = legalised m [] false
  each_of (x ∷ xs) m = and_then (each_of xs) (standing m x)

  -- after a rule: the operations that it made, in ascending order of their ids. A rule that doesn't apply fails
  abbrev pub after_rule : Rule → ℕ → Module → Rewrite → Outcome
  after_rule r x m none = failed false
  after_rule r x m (refused e) = aborted e
  after_rule r x m (becomes n) = trailing (applied_rule r x m n ∷ []) false (each_of (made_since m.next n) n)

  -- the first of some rules that succeeds
  abbrev pub first_rule : List Rule → Module → ℕ → Outcome
  first_rule [] m x = failed false
  first_rule (r ∷ rs) m x = or_else (after_rule r x m (rewrite_of r m x)) (first_rule rs m x)

-- operation x of a module is legalized; the operations that rules make may be legalized to this depth below
abbrev pub legalization_of : Aim → ℕ → Module → ℕ → Outcome
legalization_of g zero m x = if is_legal g x m.tree then legalised m [] false else failed true
legalization_of g (suc d) m x =
    if is_legal g x m.tree then legalised m [] false else first_rule (legalization_of g d) g.rules m x
