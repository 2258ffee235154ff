-- The last operations of blocks.
use Rattle.std.proofs.Common.{◌≡◌, refl, ap, sym, ◌∙◌, ℕ, List, [], ◌∷◌, Option, Some, None}
use Rattle.std.specs.Prelude.{option_and_then}
use Rattle.ir_event.specs.trees.declared.place.Place.{Place}
use Rattle.ir_event.specs.trees.Tree.{OpOf, block, OpsOf, no_ops, next, head, regions}
use Rattle.ir_event.specs.trees.Ids.{HasDistinctIds, first_of}
use Rattle.ir_event.specs.trees.Places.{place_of}
use Rattle.ir_event.specs.tree_laws.Values.{region_at}
use Rattle.ir_event.specs.tree_laws.Reads.{last_id}
use Rattle.ir_event.specs.tree_laws.Stands.{StepOf, stands}
use Rattle.ir_event.specs.tree_laws.Members.{In}
use Rattle.ir_event.proofs.of_tree_laws.Readings.{step}
use Rattle.ir_event.proofs.of_tree_laws.Members.{stand, joined_ops}
use Rattle.ir_event.proofs.of_tree_laws.Around.{around_there, place_of_member}
use Rattle.ir_event.proofs.of_tree_laws.Values.{shaped_as}
use Rattle.listeners_support.proofs.Points.{stands_in}
use Rattle.std.proofs.lemmas.Option.{same_Some}

module _ {N T A : Type 0} where
  -- a list up to its last item
  pub record Split (y : ℕ) (os : OpsOf N T A) : Type 0 where
    pub preceding : List (OpOf N T A)
    pub last : OpOf N T A
    pub is : os ≡ joined_ops preceding (next last no_ops)
    pub id : (head last).id ≡ y

  split_more : (o : OpOf N T A) (y : ℕ) (os : OpsOf N T A) → Split y os → Split y (next o os)
  split_more o y os s = record { preceding = o ∷ s.preceding; last = s.last; is = ap (next o) s.is; id = s.id }

  pub some_last : (o : OpOf N T A) (os : OpsOf N T A) → (z : ℕ) × (last_id (next o os) ≡ Some z)
  some_last o no_ops = ((head o).id, refl)
  some_last o (next u us) = let w = some_last u us in (w.0, ap (λ l. first_of l (Some (head o).id)) w.1)

  pub split_last : (y : ℕ) (os : OpsOf N T A) → last_id os ≡ Some y → Split y os
  split_last y no_ops e = absurd cc
  split_last y (next o no_ops) e = record { preceding = []; last = o; is = refl; id = same_Some (head o).id y e }
  split_last y (next o (next u us)) e =
      let w = some_last u us in
      split_more o y (next u us) (split_last y (next u us) (w.1 ∙ (sym (ap (λ l. first_of l (Some (head o).id)) w.1) ∙ e)))

  module _ (t : OpOf N T A) (d : HasDistinctIds t) where
    -- the last operation of a block has no operation after it
    pub last_stands : (p : OpOf N T A) (path : List (StepOf N T A)) (r : ℕ) (args : List T) (os : OpsOf N T A) (y : ℕ) → In (stand p path) (stands [] t) → region_at r (regions p) ≡ Some (block args os) → (e : last_id os ≡ Some y)
        → In (stand (split_last y os e).last (step p r args (split_last y os e).preceding no_ops ∷ path)) (stands [] t)
    last_stands p path r args os y h f e = let s = split_last y os e in stands_in t p path r args s.preceding s.last no_ops h (f ∙ ap (λ l. Some (block args l)) s.is)

    -- an operation that is before another one isn't the last of its block
    pub not_last : (x : ℕ) (place : Place) (b : ℕ) → place_of x t ≡ Some place → place.before ≡ Some b
        → (p : OpOf N T A) (path : List (StepOf N T A)) (r : ℕ) (args : List T) (os : OpsOf N T A) → In (stand p path) (stands [] t) → region_at r (regions p) ≡ Some (block args os) → last_id os ≡ Some x → ⊥
    not_last x place b at more p path r args os h f e =
        let s = split_last x os e in
        let here = place_of_member t d s.last (step p r args s.preceding no_ops) path (last_stands p path r args os x h f e) in
        let two : Some (record { parent = (head p).id; region = r; before = None }) ≡ Some place = sym here ∙ ap (λ k. place_of k t) s.id ∙ at in
        let none : None ≡ place.before = ap (option_and_then (λ (z : Place). z.before)) two in
        let no : None ≡ Some b = none ∙ more in
        absurd cc

    joined_last : (preceding : List (OpOf N T A)) (o : OpOf N T A) (rest : OpsOf N T A) (y : ℕ) → last_id rest ≡ Some y → last_id (joined_ops preceding (next o rest)) ≡ Some y
    joined_last [] o rest y e = ap (λ l. first_of l (Some (head o).id)) e
    joined_last (u ∷ preceding) o rest y e = ap (λ l. first_of l (Some (head u).id)) (joined_last preceding o rest y e)

    pub not_last_after : (x : ℕ) (place : Place) (b : ℕ) → place_of x t ≡ Some place → place.before ≡ Some b
        → (o : OpOf N T A) (a : StepOf N T A) (q : List (StepOf N T A)) → In (stand o (a ∷ q)) (stands [] t) → last_id a.rest ≡ Some x → ⊥
    not_last_after x place b at more o a q h e =
        not_last x place b at more a.parent q a.region a.args (joined_ops a.preceding (next o a.rest)) (around_there t o a q h).1 (shaped_as t o a q h) (joined_last a.preceding o a.rest x e)
