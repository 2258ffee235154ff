-- A walk over a block, one operation after another.
use Rattle.std.proofs.Common.{◌≡◌, refl, ap, sym, ◌∙◌, subst, ℕ, ◌<◌, List, [], ◌∷◌, ◌++◌, length, map, Option, Some, None, arith}
use Rattle.std.specs.Prelude.{option_and_then}
use Rattle.std.proofs.lemmas.List.{map-append, length-map}
use Rattle.ir_event.specs.trees.Tree.{OpOf, OpsOf, no_ops, next, head, op_list}
use Rattle.ir_event.specs.trees.Ids.{HasDistinctIds, find}
use Rattle.ir_event.specs.trees.Places.{first_id}
use Rattle.ir_event.specs.tree_laws.Reads.{ops_at, first_at, next_of}
use Rattle.ir_event.specs.tree_laws.Stands.{StepOf, stands}
use Rattle.ir_event.specs.tree_laws.Members.{In}
use Rattle.ir_event.proofs.of_tree_laws.Readings.{step}
use Rattle.ir_event.proofs.of_tree_laws.Members.{stand, within, joined_ops, ops_child, found_stands, stand_found}
use Rattle.ir_event.proofs.of_tree_laws.Put.{child}
use Rattle.ir_event.proofs.of_tree_laws.Neighbours.{next_there, block_of}
use Rattle.patterns_regions.specs.Blocks.{before_in, before_at}
use Rattle.ir_event.proofs.of_tree_laws.Values.{joined_more}

module _ {N T A : Type 0} where
  -- an operation of the block, with its position
  pub in_block : (t : OpOf N T A) (x r : ℕ) (preceding : List (OpOf N T A)) (o : OpOf N T A) (rest : OpsOf N T A) → ops_at x r t ≡ Some (joined_ops preceding (next o rest))
      → (a : StepOf N T A) × (q : List (StepOf N T A)) × In (stand o (a ∷ q)) (stands [] t) × (a.rest ≡ rest)
  in_block t x r preceding o rest e =
      let b = block_of t x r (joined_ops preceding (next o rest)) e in
      let w = found_stands x t b.0 b.2 in
      let a = step b.0 r b.1 preceding rest in
      let above : In (stand b.0 w.0.path) (stands [] t) = subst (λ (z : OpOf N T A). In (stand z w.0.path) (stands [] t)) w.3 w.1 in (
        a,
        w.0.path,
        within b.0 w.0.path (stand o (a ∷ w.0.path)) (child b.0 w.0.path r b.1 (joined_ops preceding (next o rest)) (stand o (a ∷ w.0.path)) b.3 (ops_child b.0 w.0.path r b.1 [] preceding o rest)) [] t above,
        refl,
      )

  pub next_read : (t : OpOf N T A) → HasDistinctIds t → (x r : ℕ) (preceding : List (OpOf N T A)) (o : OpOf N T A) (rest : OpsOf N T A) → ops_at x r t ≡ Some (joined_ops preceding (next o rest)) → next_of (head o).id t ≡ first_id rest
  next_read t d x r preceding o rest e = let w = in_block t x r preceding o rest e in next_there t d o w.0 w.1 w.2 ∙ ap first_id w.3

  pub found_read : (t : OpOf N T A) → HasDistinctIds t → (x r : ℕ) (preceding : List (OpOf N T A)) (o : OpOf N T A) (rest : OpsOf N T A) → ops_at x r t ≡ Some (joined_ops preceding (next o rest)) → find (head o).id t ≡ Some o
  found_read t d x r preceding o rest e = let w = in_block t x r preceding o rest e in stand_found t d (stand o (w.0 ∷ w.1)) w.2

  -- a walk over the block of region r of operation x has reached y, after the operations of `out`
  pub record Walked (t : OpOf N T A) (x r y : ℕ) (out : List ℕ) : Type 0 where
    pub preceding : List (OpOf N T A)
    pub here : OpOf N T A
    pub rest : OpsOf N T A
    pub block : ops_at x r t ≡ Some (joined_ops preceding (next here rest))
    pub id : (head here).id ≡ y
    pub out_is : out ≡ map (λ o. (head o).id) preceding

  pub walk_starts : (t : OpOf N T A) (x r y : ℕ) → Some y ≡ first_at x r t → Walked t x r y []
  walk_starts t x r y e = go (ops_at x r t) refl e
    where
      go : (l : Option (OpsOf N T A)) → ops_at x r t ≡ l → Some y ≡ option_and_then first_id l → Walked t x r y []
      go None f e = absurd cc
      go (Some no_ops) f e = absurd cc
      go (Some (next o os)) f e = (let same : (head o).id ≡ y = cc in record { preceding = []; here = o; rest = os; block = f; id = same; out_is = refl })

  pub walk_none : (t : OpOf N T A) (x r : ℕ) → None ≡ first_at x r t → [] ≡ before_at x r t
  walk_none t x r e = go (ops_at x r t) e
    where
      go : (l : Option (OpsOf N T A)) → None ≡ option_and_then first_id l → [] ≡ before_in l
      go None e = refl
      go (Some no_ops) e = refl
      go (Some (next o os)) e = absurd cc

  pub walk_goes : (t : OpOf N T A) → HasDistinctIds t → (x r y z : ℕ) (out : List ℕ) → Walked t x r y out → Some z ≡ next_of y t → Walked t x r z (out ++ y ∷ [])
  walk_goes t d x r y z out w e = go w.rest refl (e ∙ ap (λ i. next_of i t) (sym w.id) ∙ next_read t d x r w.preceding w.here w.rest w.block)
    where
      go : (os : OpsOf N T A) → w.rest ≡ os → Some z ≡ first_id os → Walked t x r z (out ++ y ∷ [])
      go no_ops f e = absurd cc
      go (next p ps) f e =
          let same : (head p).id ≡ z = cc in
          record {
            preceding = w.preceding ++ w.here ∷ [];
            here = p;
            rest = ps;
            block = w.block ∙ ap (λ l. Some (joined_ops w.preceding (next w.here l))) f ∙ ap Some (sym (joined_more w.preceding w.here (next p ps)));
            id = same;
            out_is = (λ i. w.out_is i ++ sym w.id i ∷ []) ∙ sym (map-append (λ (o : OpOf N T A). (head o).id) w.preceding (w.here ∷ []));
          }

  last_left : (preceding : List (OpOf N T A)) (o : OpOf N T A) → before_in (Some (joined_ops preceding (next o no_ops))) ≡ map (λ o. (head o).id) preceding
  last_left [] o = refl
  last_left (f ∷ []) o = refl
  last_left (f ∷ g ∷ fs) o = ap (λ l. (head f).id ∷ l) (last_left (g ∷ fs) o)

  pub walk_ends : (t : OpOf N T A) → HasDistinctIds t → (x r y : ℕ) (out : List ℕ) → Walked t x r y out → None ≡ next_of y t → out ≡ before_at x r t
  walk_ends t d x r y out w e = go w.rest refl (e ∙ ap (λ i. next_of i t) (sym w.id) ∙ next_read t d x r w.preceding w.here w.rest w.block)
    where
      go : (os : OpsOf N T A) → w.rest ≡ os → None ≡ first_id os → out ≡ before_at x r t
      go no_ops f e = w.out_is ∙ sym (last_left w.preceding w.here) ∙ sym (ap before_in (w.block ∙ ap (λ l. Some (joined_ops w.preceding (next w.here l))) f))
      go (next p ps) f e = absurd cc

  -- the number of operations of an optional block
  abbrev pub count_in : Option (OpsOf N T A) → ℕ
  count_in None = 0
  count_in (Some os) = length (op_list os)

  joined_count : (preceding : List (OpOf N T A)) (o : OpOf N T A) (os : OpsOf N T A) → length preceding < length (op_list (joined_ops preceding (next o os)))
  joined_count [] o os = omega arith
  joined_count (f ∷ fs) o os = let n = joined_count fs o os in omega (arith, n)

  pub walk_inside : (t : OpOf N T A) (x r y : ℕ) (out : List ℕ) → Walked t x r y out → length out < count_in (ops_at x r t)
  walk_inside t x r y out w =
      let a = ap length w.out_is in
      let b = length-map w.preceding (λ (o : OpOf N T A). (head o).id) in
      let c = joined_count w.preceding w.here w.rest in
      let e = ap count_in w.block in
      omega (arith, a, b, c, e)
