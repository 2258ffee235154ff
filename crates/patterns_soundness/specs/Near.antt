-- Edits near an operation: they make operations before it, change heads, move the operations of one of its blocks
-- before it, and erase it.
use Rattle.std.specs.Prelude.{◌≡◌, ◌⊎◌, ℕ, List, [], ◌∷◌, Some}
use Rattle.ir_event.specs.types.Terms.{TypeTerm, AttrTerm}
use Rattle.ir_event.specs.trees.declared.place.Place.{Place}
use Rattle.ir_event.specs.trees.Tree.{block, OpsOf, next, no_regions, head, regions}
use Rattle.ir_event.specs.trees.Meaning.{Operation}
use Rattle.ir_event.specs.tree_laws.Values.{region_at}
use Rattle.rewriter_machine.specs.Contents.{Edit}
use Rattle.rewriter_machine.specs.Edits.{Insert, Make, Erase, Move, SetOperand, Replace, SetAttr, DropAttr}
use Rattle.patterns_soundness.specs.base.Looks.{ended_by}

-- edits that move nothing: operations without regions are inserted before x, heads change, and x may be erased at the
-- end
abbrev pub Still : ℕ → Place → List Edit → Type 0
Still x place [] = Unit {0}
Still x place (Make p o ∷ es) = (p ≡ place) × (regions o ≡ no_regions) × Still x place es
Still x place (SetOperand y k v ∷ es) = Still x place es
Still x place (Replace v w ∷ es) = Still x place es
Still x place (SetAttr y k a ∷ es) = Still x place es
Still x place (DropAttr y k ∷ es) = Still x place es
Still x place (Erase y ∷ []) = y ≡ x
Still x place (Erase y ∷ e ∷ es) = ⊥
Still x place (Insert p o ∷ es) = ⊥
Still x place (Move y p ∷ es) = ⊥

-- edits that move these operations of x before x, in order, and erase x
abbrev pub Opens : ℕ → Place → List ℕ → List Edit → Type 0
Opens x place ys (Replace v w ∷ es) = Opens x place ys es
Opens x place (y ∷ ys) (Move z p ∷ es) = (z ≡ y) × (p ≡ place) × Opens x place ys es
Opens x place [] (Erase y ∷ []) = y ≡ x
Opens x place _ _ = ⊥

-- a block of an operation, and edits that move its operations, except the last, before the operation
pub record OpensOne (place : Place) (o : Operation) (es : List Edit) : Type 0 where
  pub number : ℕ
  pub args : List TypeTerm
  pub first : Operation
  pub rest : OpsOf (List ℕ) TypeTerm AttrTerm
  pub there : region_at number (regions o) ≡ Some (block args (next first rest))
  pub opens : Opens (head o).id place (ended_by first rest).before es

-- edits near an operation
abbrev pub AreNear : Place → Operation → List Edit → Type 0
AreNear place o es = Still (head o).id place es ⊎ OpensOne place o es
