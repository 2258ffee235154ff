-- A verified operation of a module, and the values that dominate it.
use Rattle.std.proofs.Common.{◌≡◌, refl, ap, sym, ◌∙◌, subst, ℕ, true, List, [], Option, Some, None}
use Rattle.std.specs.Prelude.{option_map}
use Rattle.std.specs.List.{list_all}
use Rattle.ir_event.specs.types.Words.{is_isolated}
use Rattle.ir_event.specs.types.Terms.{TypeTerm, AttrTerm}
use Rattle.ir_event.specs.trees.declared.value.Value.{Value}
use Rattle.ir_event.specs.trees.declared.value.Value.TheVariants.{Result, Arg}
use Rattle.ir_event.specs.trees.declared.place.Place.{Place}
use Rattle.ir_event.specs.trees.Tree.{head}
use Rattle.ir_event.specs.trees.Ids.{HasDistinctIds, find}
use Rattle.ir_event.specs.trees.Places.{place_of}
use Rattle.ir_event.specs.trees.Sites.{operands_visible}
use Rattle.ir_event.specs.trees.Meaning.{Operation}
use Rattle.ir_event.specs.trees.WellFormed.{IsWellFormed}
use Rattle.ir_event.specs.tree_laws.Stands.{OpWithPathOf, stands, dominated_by as dominated_by_from}
use Rattle.ir_event.specs.tree_laws.Members.{In}
use Rattle.ir_event.proofs.of_tree_laws.Listed.{all_each}
use Rattle.ir_event.proofs.of_tree_laws.Members.{found_stands}
use Rattle.ir_event.proofs.of_tree_laws.DominatedBy.{stands_operands, visible_there}
use Rattle.ir_event.specs.Modules.{Module}
use Rattle.ir_event.specs.Step.{IsSorted}
use Rattle.patterns_base.proofs.Preceding.{after_dominated_by}
use Rattle.patterns_base.proofs.Headed.{found_there}
use Rattle.patterns_base.proofs.Made.{located}
use Rattle.patterns_base.proofs.Plans.{StandsAt, dominated_by}
use Rattle.patterns_soundness.specs.base.Looks.{Header, insertion_of, defining_op, insertion_point, is_verified}

-- the operation is in the module and verified, and this place is before it
pub record Point (m : Module) (o : Operation) (insertion : Place) : Type 0 where
  pub wellformed : IsWellFormed is_isolated m
  pub sorted : IsSorted m
  pub found : find (head o).id m.tree ≡ Some o
  pub place : insertion_of (head o).id m.tree ≡ Some insertion
  pub verified : is_verified m.tree (head o) ≡ true

-- the defining operation of a value
pub record DefiningOp (t : Operation) (v : Value) (h : Header) : Type 0 where
  pub id : ℕ
  pub number : ℕ
  pub is : v ≡ Result id number
  pub there : Operation
  pub found : find id t ≡ Some there
  pub header : head there ≡ h

pub defining_op_is : (t : Operation) (v : Value) (h : Header) → defining_op t v ≡ Some h → DefiningOp t v h
defining_op_is t (Arg x r k) h e = absurd cc
defining_op_is t (Result x k) h e = go (find x t) refl e
  where
    go : (o : Option Operation) → find x t ≡ o → option_map (λ o. head o) o ≡ Some h → DefiningOp t (Result x k) h
    go None f e = absurd cc
    go (Some o) f e = record { id = x; number = k; is = refl; there = o; found = f; header = cc }

-- the operands of operations in a tree
pub own_operand : (t : Operation) → HasDistinctIds t → operands_visible is_isolated t ≡ true → (s : OpWithPathOf (List ℕ) TypeTerm AttrTerm) → In s (stands [] t) → (v : Value) → In v (head s.here).operands → dominated_by_from is_isolated s.path v ≡ true
own_operand t d wellformed s h v i =
    all_each (dominated_by_from is_isolated s.path) (head s.here).operands
    (all_each (λ (z : OpWithPathOf (List ℕ) TypeTerm AttrTerm). list_all (dominated_by_from is_isolated z.path) (head z.here).operands) (stands [] t) (sym (stands_operands is_isolated t) ∙ wellformed) s h) v i

-- an operation comes after the place before it, verified or not
pub stands_after : (m : Module) (x : ℕ) (insertion : Place) → IsWellFormed is_isolated m → insertion_of x m.tree ≡ Some insertion → StandsAt x insertion m
stands_after m x insertion wellformed at = placed (place_of x m.tree) refl at
  where
    placed : (p : Option Place) → place_of x m.tree ≡ p → option_map (insertion_point x) p ≡ Some insertion → StandsAt x insertion m
    placed None e f = absurd cc
    placed (Some p) e f = (let one : insertion_point x p ≡ insertion = cc in subst (λ z. StandsAt x z m) one (located is_isolated x p m wellformed e))

module _ (m : Module) (o : Operation) (insertion : Place) (s : Point m o insertion) where
  abbrev x : ℕ
  x = (head o).id

  abbrev t : Operation
  t = m.tree

  -- the operation comes after that place
  pub stands_there : StandsAt (head o).id insertion m
  stands_there = stands_after m (head o).id insertion s.wellformed s.place

  pub here_is : stands_there.at.here ≡ o
  here_is = (let two : Some stands_there.at.here ≡ Some o = sym (found_there is_isolated (head o).id insertion m stands_there) ∙ s.found in cc)

  -- its operands dominate it
  pub dominated_by_operand : (v : Value) → In v (head o).operands → dominated_by (head o).id v m ≡ true
  dominated_by_operand v i =
      let w = found_stands x t o s.found in
      ap (λ z. dominated_by z v m) (sym w.2)
      ∙ visible_there is_isolated t s.wellformed.distinct w.0 w.1 v
      ∙ own_operand t s.wellformed.distinct s.wellformed.wellformed.visible w.0 w.1 v (subst (λ (z : Operation). In v (head z).operands) (sym w.3) i)

  -- and so do the operands of an operand's defining operation
  pub dominated_by_after : (v : Value) → In v (head o).operands → (h : Header) → DefiningOp m.tree v h → (w : Value) → In w h.operands → dominated_by (head o).id w m ≡ true
  dominated_by_after v i h g w j =
      let own = found_stands x t o s.found in
      let far = found_stands g.id t g.there g.found in
      let d = s.wellformed.distinct in
      let inner = own_operand t d s.wellformed.wellformed.visible far.0 far.1 w (subst (λ (z : Operation). In w (head z).operands) (sym far.3) (subst (λ (z : Header). In w z.operands) (sym g.header) j)) in
      let near = own_operand t d s.wellformed.wellformed.visible own.0 own.1 (Result (head far.0.here).id g.number)
      (subst (λ (z : Value). In z (head own.0.here).operands) (g.is ∙ ap (λ z. Result z g.number) (sym far.2)) (subst (λ (z : Operation). In v (head z).operands) (sym own.3) i)) in
      ap (λ z. dominated_by z w m) (sym own.2)
      ∙ visible_there is_isolated t d own.0 own.1 w
      ∙ after_dominated_by is_isolated t d far.0.here far.0.path far.1 own.0.here own.0.path own.1 g.number near w inner
