-- The soundness of a rule, in one record.
use Rattle.std.specs.Prelude.{◌≡◌, ◌≤◌, ℕ, List, true, false, Some, None}
use Rattle.ir_event.specs.types.Words.{is_isolated}
use Rattle.ir_event.specs.trees.declared.place.Place.{Place}
use Rattle.ir_event.specs.trees.Tree.{head}
use Rattle.ir_event.specs.trees.WellFormed.{IsWellFormed}
use Rattle.ir_event.specs.trees.Meaning.{Operation}
use Rattle.ir_event.specs.Modules.{Module}
use Rattle.ir_event.specs.Step.{IsSorted}
use Rattle.rewriter_machine.specs.Contents.{Edit}
use Rattle.patterns_soundness.specs.base.declared.rule.Rule.{Rule}
use Rattle.patterns_soundness.specs.base.RuleNames.{is_converting, is_lowering}
use Rattle.patterns_soundness.specs.base.Makes.{made_by}
use Rattle.patterns_soundness.specs.base.Rules.{has_rule, rule}
use Rattle.patterns_soundness.specs.Accepted.{IsAcceptedAt}
use Rattle.patterns_soundness.specs.Alike.{LooksAlike, Same}
use Rattle.patterns_soundness.specs.Near.{AreNear}
use Rattle.patterns_soundness.specs.Values.{KeepsValues}

-- the rule applies only at operations whose name the rule table lists for it
abbrev pub IsListed : Rule → Type 0
IsListed r =
    (t : Operation) (n : ℕ) (point : Place) (o : Operation)
    → has_rule r (head o).name ≡ false → rule r t n point o ≡ None

-- the edits of the rule are near its operation
abbrev pub IsNear : Rule → Type 0
IsNear r =
    (t : Operation) (n : ℕ) (point : Place) (o : Operation) (es : List Edit)
    → rule r t n point o ≡ Some es → AreNear point o es

-- if two operations are alike, the rule applies at both or at neither
abbrev pub IsAlike : Rule → Type 0
IsAlike r =
    (t u : Operation) (n k : ℕ) (f g : Place) (o p : Operation)
    → LooksAlike t u o p → Same (rule r t n f o) (rule r u k g p)

-- none of the rule's edits is refused
abbrev pub IsAccepted : Rule → Type 0
IsAccepted r = (m : Module) (x : ℕ) → IsWellFormed is_isolated m → IsSorted m → IsAcceptedAt r m x

-- if the rule applies, it makes an operation
abbrev pub IsMaking : Rule → Type 0
IsMaking r =
    (t : Operation) (n : ℕ) (point : Place) (o : Operation) (es : List Edit)
    → rule r t n point o ≡ Some es → 1 ≤ made_by es

-- everything that is proved of a rule; `near` and `alike` are proved only of rules that don't lower
pub record Soundness (r : Rule) : Type 0 where
  pub keeps : KeepsValues r
  pub listed : IsListed r
  pub near : is_lowering r ≡ false → IsNear r
  pub alike : is_lowering r ≡ false → IsAlike r
  pub accepted : IsAccepted r
  pub makes : is_converting r ≡ true → IsMaking r
