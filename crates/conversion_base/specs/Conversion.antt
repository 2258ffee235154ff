-- Dialect conversion (Dialect Conversion, "Modes of Conversion").
use Rattle.std.specs.Prelude.{ℕ, List, [], ◌∷◌, ◌++◌, Bool, true, false, not, if◌then◌else◌, Option, Some, None}
use Rattle.ir_event.specs.types.declared.refusal.Refusal.{Refusal}
use Rattle.ir_event.specs.types.declared.refusal.Refusal.TheVariants.{NotLegalised, ChainTooDeep}
use Rattle.ir_event.specs.types.declared.refusal.Refusal.TheVariants.{Unreconciled, BadTarget}
use Rattle.ir_event.specs.trees.Tree.{head}
use Rattle.ir_event.specs.trees.Ids.{ids}
use Rattle.ir_event.specs.trees.Limits.{every}
use Rattle.ir_event.specs.trees.Meaning.{Operation}
use Rattle.ir_event.specs.Modules.{Module}
use Rattle.patterns_base.specs.Rewrites.{Rewrite, none, refused, becomes}
use Rattle.patterns_base.specs.Words.{named}
use Rattle.conversion_base.specs.Targets.{Aim, cast_name, is_accepted, is_legal}
use Rattle.conversion_base.specs.Legalization.{Outcome, legalised, failed, aborted, legalization_of, standing}
use Rattle.conversion_base.specs.Reconciling.{all_collapsed, index_rewrite, is_cast}
use Rattle.conversion_base.specs.declared.applied_rule.AppliedRule.{AppliedRule}

-- the end of a conversion: the new module with the applied rules, in the order in which they were applied; or a
-- refusal with the id of an operation, if the refusal is about one
pub data Ended : Type 0 where
  converted : Module → List AppliedRule → Ended
  given_up : Refusal → Option ℕ → Ended

-- an end, after earlier applied rules
abbrev pub ended_after : List AppliedRule → Ended → Ended
ended_after ks (converted m ns) = converted m (ks ++ ns)
ended_after ks (given_up e x) = given_up e x

-- the next part, if the earlier parts succeeded
abbrev pub next_part : (Module → Ended) → Ended → Ended
next_part f (converted m ks) = ended_after ks (f m)
next_part f (given_up e x) = given_up e x

-- some operations in turn
abbrev pub in_turn : (Module → ℕ → Ended) → List ℕ → Module → Ended
in_turn f [] m = converted m []
in_turn f (x ∷ xs) m = next_part (in_turn f xs) (f m x)

-- ---- legalizing

-- the refusal for an operation of the original module that can't be legalized
abbrev pub failing : Bool → Refusal
failing true = ChainTooDeep
failing false = NotLegalised

abbrev pub ended_at : ℕ → Outcome → Ended
ended_at x (legalised m ks limit_reached) = converted m ks
ended_at x (failed limit_reached) = given_up (failing limit_reached) (Some x)
ended_at x (aborted e) = given_up e None

-- the end of legalizing an operation of the original module; an erased operation is skipped
abbrev pub legalised_at : Aim → Module → ℕ → Ended
legalised_at g m x = ended_at x (standing (legalization_of g g.depth) m x)

-- ---- reconciling

abbrev pub ended : Rewrite → Module → Ended
ended none m = converted m []
ended (refused e) m = given_up e None
ended (becomes n) m = converted n []

-- a remaining cast becomes an `arith.index_cast`, or can't be reconciled
abbrev pub cast_ended : ℕ → Rewrite → Ended
cast_ended x none = given_up Unreconciled (Some x)
cast_ended x (refused e) = given_up e None
cast_ended x (becomes n) = converted n []

-- the end of replacing an operation, if it is still in the module and is a cast
abbrev pub cast_at : Module → ℕ → Ended
cast_at m x = if is_cast x m.tree then cast_ended x (index_rewrite m x) else converted m []

-- all casts of a module, in pre-order
abbrev pub casts_left : Module → Ended
casts_left m = in_turn cast_at (ids m.tree) m

-- whether no operation of a tree is an unrealized cast
abbrev pub has_no_cast : Operation → Bool
has_no_cast t = every (λ o. not (named cast_name (head o).name)) t

-- ---- full conversion

-- the first of some operations that isn't legal
abbrev pub first_illegal : Aim → Operation → List ℕ → Option ℕ
first_illegal g t [] = None
first_illegal g t (x ∷ xs) = if is_legal g x t then first_illegal g t xs else Some x

abbrev pub ended_full : Option ℕ → Module → Ended
ended_full None m = converted m []
ended_full (Some x) m = given_up NotLegalised (Some x)

-- in full mode every operation must be legal
abbrev pub checked : Aim → Module → Ended
checked g m = if g.full then ended_full (first_illegal g m.tree (ids m.tree)) m else converted m []

-- ---- conversion

-- after legalization, casts are reconciled and the result is checked
abbrev pub later_parts : Aim → Ended → Ended
later_parts g e = next_part (checked g) (next_part casts_left (next_part (λ n. ended (all_collapsed n) n) e))

-- all parts: first the operations of the original module are legalized in pre-order
abbrev pub all_parts : Aim → Module → Ended
all_parts g m = later_parts g (in_turn (legalised_at g) (ids m.tree) m)

-- the conversion of a module
abbrev pub conversion_of : Aim → Module → Ended
conversion_of g m = if is_accepted g then all_parts g m else given_up BadTarget None
