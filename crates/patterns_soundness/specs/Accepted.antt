-- No edit of a rule is refused.
use Rattle.std.specs.Prelude.{◌≡◌, ℕ, List, Some}
use Rattle.ir_event.specs.types.Words.{is_isolated}
use Rattle.ir_event.specs.trees.WellFormed.{IsWellFormed}
use Rattle.ir_event.specs.Modules.{Module}
use Rattle.ir_event.specs.Step.{IsSorted}
use Rattle.rewriter_machine.specs.Contents.{Edit}
use Rattle.patterns_base.specs.Lists.{Free}
use Rattle.patterns_soundness.specs.base.declared.rule.Rule.{Rule}
use Rattle.patterns_soundness.specs.base.Rewrites.{becomes, carried_out, edits_of}

-- if rule r applies at operation x of a module, and its result is within the limits, its edits can be made one after
-- another: none is refused
abbrev pub IsAcceptedAt : Rule → Module → ℕ → Type 0
IsAcceptedAt r m x = (es : List Edit) (n : Module) → edits_of r m x ≡ Some es → carried_out es m ≡ becomes n → Free es m

-- the same for each rule, at each operation of a well-formed module with sorted dictionaries
abbrev pub AreAccepted : Type 0
AreAccepted = (r : Rule) (m : Module) (x : ℕ) → IsWellFormed is_isolated m → IsSorted m → IsAcceptedAt r m x
