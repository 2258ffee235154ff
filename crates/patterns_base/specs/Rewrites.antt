-- The rewrite of a module by a rule at an operation.
use Rattle.std.specs.Prelude.{◌≡◌, ℕ, ◌+◌, ◌≤◌, nat_le, List, Bool, true, if◌then◌else◌, Option, Some, None}
use Rattle.ir_types.specs.declared.refusal.Refusal.{Refusal}
use Rattle.ir_types.specs.declared.refusal.Refusal.TheVariants.{Full, IdsExhausted}
use Rattle.ir_tree.specs.declared.place.Place.{Place}
use Rattle.ir_tree.specs.Tree.{head}
use Rattle.ir_tree.specs.Ids.{find, op_count}
use Rattle.ir_tree.specs.Limits.{most_ops, most_next}
use Rattle.ir_tree.specs.Meaning.{Operation}
use Rattle.rewriter_machine.specs.events.Modules.{Module}
use Rattle.rewriter_machine.specs.Contents.{Edit, all_edited}
use Rattle.patterns_laws.specs.Keeps.{given}
use Rattle.patterns_base.specs.Looks.{Header, when, is_verified, is_in_order, insertion_of}
use Rattle.patterns_base.specs.Makes.{made_by}
use Rattle.patterns_base.specs.declared.rule.Rule.{Rule}
use Rattle.patterns_base.specs.RuleNames.{is_converting, is_erasing}
use Rattle.patterns_base.specs.Rules.{rule}

-- the result of a rule: none if it doesn't apply, a refusal, or the new module
pub data Rewrite : Type 0 where
  none : Rewrite
  refused : Refusal → Rewrite
  becomes : Module → Rewrite

-- whether an operation is eligible for rule r: it is verified. For an erasing rule it only needs to be in order, so
-- that dead operations outside the table are erased too
unfoldable pub eligible : Rule → Operation → Header → Bool
eligible r t h = if is_erasing r then is_in_order t h else is_verified t h

-- the edits of rule r at operation x, which is eligible and isn't the root
unfoldable pub edits_of : Rule → Module → ℕ → Option (List Edit)
edits_of r m x = given (find x m.tree)
    (λ o. given (insertion_of x m.tree) (λ point. when (eligible r m.tree (head o)) (rule r m.tree m.next point o)))

-- the module after edits, if the number of operations and the ids stay within their limits
abbrev pub carried_out : List Edit → Module → Rewrite
carried_out es m =
    if nat_le (op_count m.tree + made_by es) most_ops
    then (if nat_le (m.next + made_by es) most_next then becomes (all_edited es m) else refused IdsExhausted)
    else refused Full

-- the rewrite of a rule's edits, if there are any
abbrev pub rewrite_by : Option (List Edit) → Module → Rewrite
rewrite_by None m = none
rewrite_by (Some es) m = carried_out es m

-- the rewrite of a module by rule r at operation x
unfoldable pub rewrite_of : Rule → Module → ℕ → Rewrite
rewrite_of r m x = rewrite_by (edits_of r m x) m

-- if a rule that a conversion may try applies, it makes an operation
abbrev pub ConvertingRulesMake : Type 0
ConvertingRulesMake =
    (r : Rule) (t : Operation) (n : ℕ) (point : Place) (o : Operation) (es : List Edit)
    → is_converting r ≡ true → rule r t n point o ≡ Some es → 1 ≤ made_by es
