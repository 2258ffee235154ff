-- Edits near an operation, composed as rules compose them.
use Rattle.std.proofs.Common.{◌≡◌, refl, ap, sym, subst, ℕ, List, [], ◌∷◌, ◌++◌, append_assoc, Bool, true, false, cond, Option, Some, None, inl, inr}
use Rattle.std.specs.Prelude.{map}
use Rattle.ir_event.specs.types.Terms.{TypeTerm, AttrTerm}
use Rattle.ir_event.specs.trees.declared.value.Value.{Value}
use Rattle.ir_event.specs.trees.declared.place.Place.{Place}
use Rattle.ir_event.specs.trees.Tree.{RegionOf, empty, block, OpsOf, no_ops, next, head, regions}
use Rattle.ir_event.specs.trees.Meaning.{Operation}
use Rattle.ir_event.specs.tree_laws.Values.{region_at}
use Rattle.rewriter_machine.specs.Contents.{Edit}
use Rattle.rewriter_machine.specs.Edits.{Erase}
use Rattle.patterns_soundness.specs.base.Keeps.{given}
use Rattle.patterns_soundness.specs.base.Looks.{Ended, when, is_verified, ended, ended_by, body}
use Rattle.patterns_soundness.specs.base.Makes.{give_body, replacing, moving, results_from, arguments_from, replaced}
use Rattle.patterns_soundness.specs.base.Opening.{opened}
use Rattle.patterns_soundness.specs.Near.{Still, Opens, AreNear}
use Rattle.patterns_soundness.proofs.Looking.{when_some}

-- the operations of a block without the last
record Block (o : Operation) (r : ℕ) (before : List ℕ) : Type 0 where
  args : List TypeTerm
  first : Operation
  rest : OpsOf (List ℕ) TypeTerm AttrTerm
  there : region_at r (regions o) ≡ Some (block args (next first rest))
  names_are : before ≡ (ended_by first rest).before

block_of : (t o : Operation) (r : ℕ) (e : Ended) → body t o r ≡ Some e → Block o r e.before
block_of t o r e i = by_region (region_at r (regions o)) refl i
  where
    by_region : (g : Option (RegionOf (List ℕ) TypeTerm AttrTerm)) → region_at r (regions o) ≡ g → given (given g ended) (λ e. when (is_verified t e.last) (Some e)) ≡ Some e → Block o r e.before
    by_region None k j = absurd cc
    by_region (Some empty) k j = absurd cc
    by_region (Some (block args no_ops)) k j = absurd cc
    by_region (Some (block args (next p os))) k j = record { args = args; first = p; rest = os; there = k; names_are = ap (λ (z : Ended). z.before) (sym (when_some (is_verified t (ended_by p os).last) (ended_by p os) e j)) }

module _ (x : ℕ) (place : Place) where
  pub still_replacing : (vs ws : List Value) (es : List Edit) → Still x place es → Still x place (replacing vs ws ++ es)
  still_replacing [] ws es s = s
  still_replacing (v ∷ vs) [] es s = s
  still_replacing (v ∷ vs) (w ∷ ws) es s = still_replacing vs ws es s

  opens_replacing : (ys : List ℕ) (vs ws : List Value) (es : List Edit) → Opens x place ys es → Opens x place ys (replacing vs ws ++ es)
  opens_replacing ys [] ws es s = s
  opens_replacing ys (v ∷ vs) [] es s = s
  opens_replacing ys (v ∷ vs) (w ∷ ws) es s = opens_replacing ys vs ws es s

  opens_moving : (ys : List ℕ) (es : List Edit) → Opens x place [] es → Opens x place ys (moving place ys ++ es)
  opens_moving [] es s = s
  opens_moving (y ∷ ys) es s = (refl, refl, opens_moving ys es s)

module _ (place : Place) (o : Operation) where
  -- the edits are near the operation, if there are some
  pub record Fine (r : Option (List Edit)) : Type 0 where
    pub each : (es : List Edit) → r ≡ Some es → AreNear place o es

  pub none_there : Fine None
  none_there = record { each = λ es e. absurd cc }

  pub there : (es : List Edit) → AreNear place o es → Fine (Some es)
  there es h = record { each = λ fs e. subst (AreNear place o) (let same : es ≡ fs = cc in same) h }

  pub still : (es : List Edit) → Still (head o).id place es → Fine (Some es)
  still es s = there es (inl s)

  pub tested : (b : Bool) (r : Option (List Edit)) → Fine r → Fine (when b r)
  tested true r h = h
  tested false r h = none_there

  pub either : (b : Bool) (r s : Option (List Edit)) → Fine r → Fine s → Fine (cond b r s)
  either true r s h k = h
  either false r s h k = k

  pub of_some : {X : Type 0} (a : Option X) (f : X → Option (List Edit)) → ((y : X) → Fine (f y)) → Fine (given a f)
  of_some None f h = none_there
  of_some (Some y) f h = h y

  pub of_known : {X : Type 0} (a : Option X) (f : X → Option (List Edit)) → ((y : X) → a ≡ Some y → Fine (f y)) → Fine (given a f)
  of_known None f h = none_there
  of_known (Some y) f h = h y refl

module _ (t : Operation) (place : Place) (o : Operation) where
  -- a block is inlined
  pub open_fine : (r : ℕ) (e : Ended) (values handed : List Value) → body t o r ≡ Some e → Fine place o (Some (opened t place o e values handed))
  open_fine r e values handed k =
      there place o _ (inr (record {
        number = r;
        args = b.args;
        first = b.first;
        rest = b.rest;
        there = b.there;
        opens = let gives = map (replaced (arguments_from (head o).id 0 values) values) handed in
            subst (λ (l : List ℕ). Opens (head o).id place l (opened t place o e values handed)) b.names_are
            (opens_replacing (head o).id place e.before (arguments_from (head o).id 0 values) values (give_body place (head o).id e.before gives)
            (subst (Opens (head o).id place e.before) (sym (append_assoc (moving place e.before) (replacing (results_from (head o).id 0 gives) gives) (Erase (head o).id ∷ [])))
            (opens_moving (head o).id place e.before (replacing (results_from (head o).id 0 gives) gives ++ Erase (head o).id ∷ [])
            (opens_replacing (head o).id place [] (results_from (head o).id 0 gives) gives (Erase (head o).id ∷ []) refl))));
      }))
    where
      b : Block o r e.before
      b = block_of t o r e k
