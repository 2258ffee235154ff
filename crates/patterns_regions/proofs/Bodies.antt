-- Blocks whose last operation is verified, as read from the tree of interned numbers.
use Rattle.std.proofs.Common.{◌≡◌, refl, ap, sym, ◌∙◌, ℕ, List, [], ◌∷◌, Bool, true, false, Option, Some, None}
use Rattle.std.specs.Prelude.{option_map, option_and_then}
use Rattle.ir_event.specs.types.Things.{ContextModel}
use Rattle.ir_event.specs.types.Terms.{TypeTerm, AttrTerm, name_term, type_term, attr_term}
use Rattle.ir_event.specs.trees.Tree.{OpOf, op, Op, RegionOf, empty, block, OpsOf, no_ops, next, Ops, head, regions}
use Rattle.ir_event.specs.trees.Ids.{HasDistinctIds, find, first_of}
use Rattle.ir_event.specs.trees.Maps.{map_head, map_tree, map_ops}
use Rattle.ir_event.specs.trees.Meaning.{Operation, meaning}
use Rattle.ir_event.specs.tree_laws.Reads.{ops_in, ops_at, last_id, last_at}
use Rattle.ir_event.specs.tree_laws.Values.{region_at}
use Rattle.ir_event.proofs.of_tree_laws.Members.{joined_ops}
use Rattle.patterns_plans.specs.reads.Keeps.{given}
use Rattle.patterns_plans.specs.reads.Looks.{Header, Ended, ended_by, ended, when, is_verified}
use Rattle.patterns_plans.specs.reads.Reads.{head_at}
use Rattle.patterns_plans.proofs.of_reads.Meant.{head_meaning}
use Rattle.patterns_regions.specs.Blocks.{but_last, before_in, before_at, body_at}
use Rattle.patterns_regions.proofs.Walking.{found_read}
use Rattle.ir_event.proofs.of_tree_laws.Contents.{map_ops_at}

module _ {N T A : Type 0} where
  -- the last operation of a list that isn't empty
  abbrev pub last_op : OpOf N T A → OpsOf N T A → OpOf N T A
  last_op o no_ops = o
  last_op o (next p os) = last_op p os

  last_is : (o : OpOf N T A) (os : OpsOf N T A) → last_id (next o os) ≡ Some (head (last_op o os)).id
  last_is o no_ops = refl
  last_is o (next p os) = ap (λ l. first_of l (Some (head o).id)) (last_is p os)

  last_split : (o : OpOf N T A) (os : OpsOf N T A) → (preceding : List (OpOf N T A)) × (next o os ≡ joined_ops preceding (next (last_op o os) no_ops))
  last_split o no_ops = ([], refl)
  last_split o (next p os) = let s = last_split p os in (o ∷ s.0, ap (next o) s.1)

module _ {N T A M U B : Type 0} (f : N → M) (g : T → U) (h : A → B) where
  map_the_head : (o : OpOf N T A) → head (map_tree f g h o) ≡ map_head f g h (head o)
  map_the_head (op x rs) = refl

  map_but_last : (o : OpOf N T A) (os : OpsOf N T A) → but_last (map_tree f g h o) (map_ops f g h os) ≡ but_last o os
  map_but_last o no_ops = refl
  map_but_last o (next p os) = λ i. (map_the_head o i).id ∷ map_but_last p os i

  map_last : (o : OpOf N T A) (os : OpsOf N T A) → head (last_op (map_tree f g h o) (map_ops f g h os)) ≡ map_head f g h (head (last_op o os))
  map_last o no_ops = map_the_head o
  map_last o (next p os) = map_last p os

-- the end of a block
abbrev ended_ops : OpsOf (List ℕ) TypeTerm AttrTerm → Option Ended
ended_ops no_ops = None
ended_ops (next o os) = Some (ended_by o os)

-- the end of a block, if the last operation is verified
abbrev closed : Operation → Option (OpsOf (List ℕ) TypeTerm AttrTerm) → Option Ended
closed m l = given (given l ended_ops) (λ e. when (is_verified m e.last) (Some e))

body_closed : (x r : ℕ) (m : Operation) → body_at x r m ≡ closed m (ops_at x r m)
body_closed x r m = go (find x m)
  where
    inside : (g : Option (RegionOf (List ℕ) TypeTerm AttrTerm)) → given (given g ended) (λ e. when (is_verified m e.last) (Some e)) ≡ closed m (option_and_then ops_in g)
    inside None = refl
    inside (Some empty) = refl
    inside (Some (block args no_ops)) = refl
    inside (Some (block args (next o os))) = refl

    go : (f : Option Operation) → given f (λ o. given (given (region_at r (regions o)) ended) (λ e. when (is_verified m e.last) (Some e))) ≡ closed m (option_and_then (λ o. option_and_then ops_in (region_at r (regions o))) f)
    go None = refl
    go (Some o) = inside (region_at r (regions o))

by_before : (o : Operation) (os : OpsOf (List ℕ) TypeTerm AttrTerm) → (ended_by o os).before ≡ but_last o os
by_before o no_ops = refl
by_before o (next p os) = ap (λ l. (head o).id ∷ l) (by_before p os)

by_last : (o : Operation) (os : OpsOf (List ℕ) TypeTerm AttrTerm) → (ended_by o os).last ≡ head (last_op o os)
by_last o no_ops = refl
by_last o (next p os) = by_last p os

module _ (c : ContextModel) (x r : ℕ) (t : Op) where
  abbrev m : Operation
  m = meaning c t

  abbrev moved : Ops → OpsOf (List ℕ) TypeTerm AttrTerm
  moved = map_ops (name_term c) (type_term c) (attr_term c)

  whole : body_at x r (meaning c t) ≡ closed (meaning c t) (option_map (map_ops (name_term c) (type_term c) (attr_term c)) (ops_at x r t))
  whole = body_closed x r m ∙ ap (closed m) (map_ops_at (name_term c) (type_term c) (attr_term c) x r t)

  -- a block without a last operation
  pub body_no_last : None ≡ last_at x r t → None ≡ body_at x r (meaning c t)
  body_no_last e = go (ops_at x r t) refl e
    where
      go : (l : Option Ops) → ops_at x r t ≡ l → None ≡ option_and_then last_id l → None ≡ body_at x r (meaning c t)
      go None f e = sym (whole ∙ ap (λ l. closed m (option_map moved l)) f)
      go (Some no_ops) f e = sym (whole ∙ ap (λ l. closed m (option_map moved l)) f)
      go (Some (next o os)) f e = (let l = last_is o os in absurd cc)

  -- a block with a last operation
  record Ends (y : ℕ) : Type 0 where
    first : Op
    rest : Ops
    block : ops_at x r t ≡ Some (next first rest)
    id : (head (last_op first rest)).id ≡ y

  ends : (y : ℕ) → Some y ≡ last_at x r t → Ends y
  ends y e = go (ops_at x r t) refl e
    where
      go : (l : Option Ops) → ops_at x r t ≡ l → Some y ≡ option_and_then last_id l → Ends y
      go None f e = absurd cc
      go (Some no_ops) f e = absurd cc
      go (Some (next o os)) f e = (let l = last_is o os in let same : (head (last_op o os)).id ≡ y = cc in record { first = o; rest = os; block = f; id = same })

  -- the head of the last operation
  last_head : HasDistinctIds t → (y : ℕ) (w : Ends y) → head_at y (meaning c t) ≡ Some (map_head (name_term c) (type_term c) (attr_term c) (head (last_op w.first w.rest)))
  last_head d y w =
      let s = last_split w.first w.rest in
      let found = found_read t d x r s.0 (last_op w.first w.rest) no_ops (w.block ∙ ap Some s.1) in
      head_meaning c y t ∙ ap (λ i. option_map (map_head (name_term c) (type_term c) (attr_term c)) (option_map (λ o. head o) (find i t))) (sym w.id)
      ∙ ap (λ f. option_map (map_head (name_term c) (type_term c) (attr_term c)) (option_map (λ o. head o) f)) found

  pub body_no_node : HasDistinctIds t → (y : ℕ) → Some y ≡ last_at x r t → None ≡ head_at y (meaning c t) → ⊥
  body_no_node d y e f = let l = last_head d y (ends y e) in absurd cc

  abbrev end : List ℕ → Header → ℕ → Ended
  end ids h y = record { before = ids; last = record h { id = y } }

  pub body_whole : HasDistinctIds t → (y : ℕ) → Some y ≡ last_at x r t → (h : Header) → Some h ≡ head_at y (meaning c t)
      → body_at x r (meaning c t) ≡ when (is_verified (meaning c t) (record h { id = y })) (Some (record { before = before_at x r t; last = record h { id = y } }))
  body_whole d y e h f =
      let w = ends y e in
      let o = map_tree (name_term c) (type_term c) (attr_term c) w.first in
      let os = moved w.rest in
      let l = last_head d y w in
      let one : h ≡ map_head (name_term c) (type_term c) (attr_term c) (head (last_op w.first w.rest)) = cc in
      let id : h.id ≡ y = ap (λ (z : Header). z.id) one ∙ w.id in
      let last : (ended_by o os).last ≡ record h { id = y } = by_last o os ∙ map_last (name_term c) (type_term c) (attr_term c) w.first w.rest ∙ sym one ∙ (λ i. record h { id = id i }) in
      let before : (ended_by o os).before ≡ before_at x r t = by_before o os ∙ map_but_last (name_term c) (type_term c) (attr_term c) w.first w.rest ∙ sym (ap before_in w.block) in
      whole ∙ ap (λ l. closed m (option_map moved l)) w.block ∙ (λ i. when (is_verified m (last i)) (Some (record { before = before i; last = last i })))

  -- a block whose last operation isn't verified, and one whose last operation is
  pub body_unclean : HasDistinctIds t → (y : ℕ) → Some y ≡ last_at x r t → (h : Header) → Some h ≡ head_at y (meaning c t) → (b : Bool) → b ≡ is_verified (meaning c t) (record h { id = y }) → b ≡ false → None ≡ body_at x r (meaning c t)
  body_unclean d y e h f b g n = sym (body_whole d y e h f ∙ ap (λ b. when b (Some (end (before_at x r t) h y))) (sym g ∙ n))

  pub body_verified : HasDistinctIds t → (y : ℕ) → Some y ≡ last_at x r t → (h : Header) → Some h ≡ head_at y (meaning c t) → (b : Bool) → b ≡ is_verified (meaning c t) (record h { id = y }) → b ≡ true
      → (ids : List ℕ) → ids ≡ before_at x r t → Some (record { before = ids; last = record h { id = y } }) ≡ body_at x r (meaning c t)
  body_verified d y e h f b g n ids k = ap (λ l. Some (end l h y)) k ∙ sym (body_whole d y e h f ∙ ap (λ b. when b (Some (end (before_at x r t) h y))) (sym g ∙ n))
