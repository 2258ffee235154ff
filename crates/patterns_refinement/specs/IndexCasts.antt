-- The rule that removes casts back to the original type refines what a module computes at index casts. An unrealized
-- cast computes nothing in this model.
use Rattle.std.specs.Prelude.{◌≡◌, ℕ, codes, Bool, false, Some}
use Rattle.ir_tree.specs.Tree.{head}
use Rattle.ir_tree.specs.Ids.{find}
use Rattle.ir_tree.specs.Meaning.{Operation}
use Rattle.ir_event.specs.Modules.{Module}
use Rattle.patterns_laws.specs.Words.{named}
use Rattle.patterns_base.specs.declared.rule.Rule.TheVariants.{CastBack}
use Rattle.patterns_base.specs.Rewrites.{becomes, rewrite_of}
use Rattle.patterns_refinement.specs.Meaning.{Assignment}
use Rattle.patterns_refinement.specs.Keeping.{Computing, Improves, IsReady, done_after}

-- for all outcomes with which a module computes, the module after it computes a refinement, if the operation at which
-- the rule is applied isn't an unrealized cast
abbrev pub CastsBack : Type 0
CastsBack =
    (m n : Module) (x : ℕ) (o : Operation) (a : Assignment) (done : ℕ → Bool) → IsReady m → Computing a done m.tree
    → find x m.tree ≡ Some o → named (codes "builtin.unrealized_conversion_cast") (head o).name ≡ false
    → rewrite_of CastBack m x ≡ becomes n → Improves a done m (done_after m.next x done) n.tree
