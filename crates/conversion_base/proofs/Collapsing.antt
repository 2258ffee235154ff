-- The rewrite of a cast, from queries of the module.
use Rattle.std.proofs.Common.{◌≡◌, ap, sym, ◌∙◌, ℕ, Bool, true, false, List, Some, if◌then◌else◌}
use Rattle.std.specs.Prelude.{◌&&◌, codes, eqb, not}
use Rattle.ir_event.specs.trees.Tree.{head}
use Rattle.ir_event.specs.trees.Ids.{find, has_id}
use Rattle.ir_event.proofs.of_tree_laws.Around.{absent_find}
use Rattle.ir_event.specs.Modules.{Module}
use Rattle.effects.specs.Dead.{is_unused}
use Rattle.patterns_base.specs.Contents.{Edit, edited}
use Rattle.patterns_base.specs.Edits.{Erase}
use Rattle.patterns_base.specs.declared.rule.Rule.TheVariants.{CastBack}
use Rattle.patterns_base.specs.Keeps.{given}
use Rattle.patterns_base.specs.Looks.{when, insertion_of, one}
use Rattle.patterns_base.specs.Made.{cast}
use Rattle.patterns_base.specs.Makes.{give_new, made_by}
use Rattle.patterns_base.specs.declared.rule.Rule.{Rule}
use Rattle.patterns_base.specs.Rewrites.{none, becomes, rewrite_by, rewrite_of, eligible}
use Rattle.patterns_base.specs.Rules.{rule}
use Rattle.conversion_base.specs.Reconciling.{collapse, index_edits, is_cast, rewrite_or, takes_index, unused_erased}
use Rattle.conversion_base.proofs.Makes.{given_some}
use Rattle.patterns_base.proofs.Facts.{edits_are, rewrite_is, when_some}

-- no rule applies at an operation that isn't in the module
pub none_there : (r : Rule) (m : Module) (x : ℕ) → has_id x m.tree ≡ false → rewrite_of r m x ≡ none
none_there r m x e =
    rewrite_is r m x
    ∙ ap (λ o. rewrite_by o m) (edits_are r m x ∙ ap (λ o. given o (λ o. given (insertion_of x m.tree) (λ insertion. when (eligible r m.tree (head o)) (rule r m.tree m.next insertion o)))) (absent_find x m.tree e))

-- ---- casts

-- whether the operation is a cast, and not the root
abbrev pub is_inner : ℕ → Module → Bool
is_inner x m = is_cast x m.tree && not (eqb (head m.tree).id x)

collapse_is : (m : Module) (x : ℕ) (b : Bool) → b ≡ is_inner x m → collapse m x ≡ (if b then rewrite_or (unused_erased m x) (rewrite_of CastBack m x) else none)
collapse_is m x b e = ap (λ c. if c then rewrite_or (unused_erased m x) (rewrite_of CastBack m x) else none) (sym e)

-- the module that is read, and the module that it means
module _ (m n : Module) (same : m ≡ n) (x : ℕ) (b : Bool) (is : b ≡ is_inner x m) where
  inner : b ≡ is_inner x n
  inner = is ∙ ap (is_inner x) same

  pub collapse_none : b ≡ false → collapse n x ≡ none
  collapse_none f = collapse_is n x b inner ∙ ap (λ c. if c then rewrite_or (unused_erased n x) (rewrite_of CastBack n x) else none) f

  module _ (here : b ≡ true) (u : Bool) (unused : u ≡ is_unused x m.tree) where
    unused_is : unused_erased n x ≡ (if u then becomes (edited (Erase x) n) else none)
    unused_is = ap (λ c. if c then becomes (edited (Erase x) n) else none) (sym (unused ∙ ap (λ (p : Module). is_unused x p.tree) same))

    either_is : collapse n x ≡ rewrite_or (if u then becomes (edited (Erase x) n) else none) (rewrite_of CastBack n x)
    either_is = collapse_is n x b inner ∙ ap (λ c. if c then rewrite_or (unused_erased n x) (rewrite_of CastBack n x) else none) here ∙ ap (λ a. rewrite_or a (rewrite_of CastBack n x)) unused_is

    pub collapse_erased : u ≡ true → collapse n x ≡ becomes (edited (Erase x) n)
    collapse_erased e = either_is ∙ ap (λ c. rewrite_or (if c then becomes (edited (Erase x) n) else none) (rewrite_of CastBack n x)) e

    pub collapse_rule : u ≡ false → collapse n x ≡ rewrite_of CastBack n x
    collapse_rule e = either_is ∙ ap (λ c. rewrite_or (if c then becomes (edited (Erase x) n) else none) (rewrite_of CastBack n x)) e

-- the edits that replace a cast with an `arith.index_cast` make one operation
pub one_made : (m : Module) (x : ℕ) (es : List Edit) → index_edits m x ≡ Some es → made_by es ≡ 1
one_made m x es e =
    let o = given_some (find x m.tree) _ es e in
    let insertion = given_some (insertion_of x m.tree) _ es o.2 in
    let p = given_some (one (head o.0)) _ es insertion.2 in
    let w = when_some (takes_index m.tree p.0.first p.0.ty) _ es p.2 in
    let n : give_new insertion.0 m.next x (cast (codes "arith.index_cast") p.0.ty p.0.first) ≡ es = cc in
    sym (ap made_by n)
