-- The rule that expands a remainder to a division refines what a module computes, if the division doesn't overflow.
use Rattle.std.specs.Prelude.{◌≡◌, ℕ, ◌==◌, List, [], ◌∷◌, map, Bool, true, false, ◌&&◌, Option, Some, None}
use Rattle.ir_types.specs.Bits.{width_of}
use Rattle.ir_tree.specs.Tree.{head}
use Rattle.ir_tree.specs.Ids.{find}
use Rattle.ir_tree.specs.Meaning.{Operation}
use Rattle.ir_event.specs.Modules.{Module}
use Rattle.dialects_int.specs.declared.operations.Rule.{Rule}
use Rattle.dialects_int.specs.declared.operations.Rule.TheVariants as rule
use Rattle.dialects_int.specs.Arithmetic.{all_ones, least}
use Rattle.dialects_int.specs.Folds.{rule_of}
use Rattle.patterns_base.specs.declared.rule.Rule.TheVariants.{ExpandRemainder}
use Rattle.patterns_base.specs.Rewrites.{becomes, rewrite_of}
use Rattle.user_patterns_data.specs.Matching.{Header}
use Rattle.user_patterns_check.specs.Outcomes.{Outcome, is_signed_remainder}
use Rattle.patterns_refinement.specs.Meaning.{Assignment}
use Rattle.patterns_refinement.specs.Keeping.{Computing, Improves, IsReady, done_after}

-- whether a signed division overflows or may overflow: the least value, or poison, by -1
abbrev pub overflows : List Outcome → Bool
overflows (None ∷ Some y ∷ []) = y.1 == all_ones (width_of y.0)
overflows (Some x ∷ Some y ∷ []) = (x.1 == least (width_of x.0)) && (y.1 == all_ones (width_of y.0))
overflows _ = false

abbrev pub is_signed : Option Rule → Bool
is_signed (Some (rule.Binary o)) = is_signed_remainder o
is_signed _ = false

-- the operation isn't a signed remainder whose division overflows or may overflow, or it isn't executed
abbrev pub HasQuotient : Assignment → (ℕ → Bool) → Header → Type 0
HasQuotient a done h = done h.id ≡ true → (is_signed (rule_of h.name) && overflows (map a h.operands)) ≡ false

-- for all outcomes with which a module computes and that satisfy this at the operation, the module after the rule
-- computes a refinement
abbrev pub ExpandsRemainders : Type 0
ExpandsRemainders =
    (m n : Module) (x : ℕ) (o : Operation) (a : Assignment) (done : ℕ → Bool) → IsReady m → Computing a done m.tree
    → find x m.tree ≡ Some o → HasQuotient a done (head o) → rewrite_of ExpandRemainder m x ≡ becomes n
    → Improves a done m (done_after m.next x done) n.tree
