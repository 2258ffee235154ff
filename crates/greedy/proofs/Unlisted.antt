-- Rules apply alike at operations that aren't listed.
use Rattle.std.proofs.Common.{◌≡◌, refl, ap, sym, ◌∙◌, subst, ℕ, true, false, ◌&&◌, List, [], ◌∷◌, map, Option, Some, None}
use Rattle.std.specs.Prelude.{option_map, option_and_then, is_some, if◌then◌else◌}
use Rattle.std.specs.List.{list_all}
use Rattle.ir_event.specs.types.Terms.{TypeTerm, AttrTerm}
use Rattle.ir_event.specs.types.Words.{is_inherent}
use Rattle.ir_event.specs.trees.declared.value.Value.{Value}
use Rattle.ir_event.specs.trees.declared.value.Value.TheVariants.{Result, Arg}
use Rattle.ir_event.specs.trees.declared.place.Place.{Place}
use Rattle.ir_event.specs.trees.Tree.{op, RegionOf, empty, block, OpsOf, no_ops, next, head, regions}
use Rattle.ir_event.specs.trees.Ids.{HasDistinctIds, first_of, find, has_id}
use Rattle.ir_event.specs.trees.Places.{place_of}
use Rattle.ir_event.specs.trees.Meaning.{Operation}
use Rattle.ir_event.specs.store.Nodes.{node_of}
use Rattle.ir_event.specs.tree_laws.Members.{In}
use Rattle.ir_event.specs.tree_laws.Reads.{last_id, ops_in}
use Rattle.ir_event.specs.tree_laws.Values.{region_at, type_of_value}
use Rattle.ir_event.specs.tree_laws.Stands.{StepOf, OpWithPathOf, op_with_path_id, stands, op_with_path, place_in}
use Rattle.ir_event.proofs.of_tree_laws.Readings.{stands_find}
use Rattle.ir_event.proofs.of_tree_laws.Members.{stand, joined_ops, member, stand_found, stand_of_member, found_stands, same_stand}
use Rattle.ir_event.proofs.of_tree_laws.Around.{place_of_member, member_of_place, present_stand, stand_present}
use Rattle.ir_verify.specs.Beyond.{reported}
use Rattle.ir_verify.specs.Breaks.{broken}
use Rattle.listeners_support.specs.Surroundings.{SurroundingsOf, surround, surroundings, outer_of}
use Rattle.patterns_laws.specs.Keeps.{given}
use Rattle.patterns_base.specs.Looks.{Header, Ended, ended, ended_by, breaks_none, has_own_properties, is_verified, is_in_order, insertion_point, insertion_of}
use Rattle.patterns_base.specs.Rewrites.{eligible}
use Rattle.patterns_base.specs.RuleNames.{is_erasing}
use Rattle.patterns_base.specs.declared.rule.Rule.{Rule}
use Rattle.greedy.specs.LocalContext.{defining_op as defining_op_id}
use Rattle.patterns.specs.soundness.Alike.{ShowsAlike, last_of}
use Rattle.listeners_support.proofs.Lasts.{split_last, last_stands}
use Rattle.greedy.proofs.Lasting.{last_in}

-- ---- surroundings, from the operation that is found
module _ (t : Operation) where
  pub found_surroundings : (y : ℕ) (o : Operation) → find y t ≡ Some o → (s : SurroundingsOf (List ℕ) TypeTerm AttrTerm) × (surroundings y t ≡ Some s) × (s.node ≡ node_of o) × (s.types ≡ map (λ v. type_of_value v t) (head o).operands)
  found_surroundings y o e = go (op_with_path y t) refl
    where
      go : (a : Option (OpWithPathOf (List ℕ) TypeTerm AttrTerm)) → op_with_path y t ≡ a → (s : SurroundingsOf (List ℕ) TypeTerm AttrTerm) × (surroundings y t ≡ Some s) × (s.node ≡ node_of o) × (s.types ≡ map (λ v. type_of_value v t) (head o).operands)
      go None i = let none : None ≡ Some o = sym (ap (option_map (λ (z : OpWithPathOf (List ℕ) TypeTerm AttrTerm). z.here)) i) ∙ stands_find y [] t ∙ e in absurd cc
      go (Some z) i =
          let some : Some z.here ≡ Some o = sym (ap (option_map (λ (z : OpWithPathOf (List ℕ) TypeTerm AttrTerm). z.here)) i) ∙ stands_find y [] t ∙ e in
          let same : z.here ≡ o = cc in
          (surround t z, ap (option_map (surround t)) i, ap (λ q. node_of q) same, ap (λ (q : Operation). map (λ v. type_of_value v t) (head q).operands) same)

  pub surroundings_found : (y : ℕ) (s : SurroundingsOf (List ℕ) TypeTerm AttrTerm) → surroundings y t ≡ Some s → (o : Operation) × (find y t ≡ Some o)
  surroundings_found y s e = go (op_with_path y t) refl
    where
      go : (a : Option (OpWithPathOf (List ℕ) TypeTerm AttrTerm)) → op_with_path y t ≡ a → (o : Operation) × (find y t ≡ Some o)
      go None i = let none : None ≡ Some s = sym (ap (option_map (surround t)) i) ∙ e in absurd cc
      go (Some z) i = (z.here, sym (stands_find y [] t) ∙ ap (option_map (λ (z : OpWithPathOf (List ℕ) TypeTerm AttrTerm). z.here)) i)

  pub there_found : HasDistinctIds t → (x : ℕ) → has_id x t ≡ true → (o : Operation) × (find x t ≡ Some o)
  there_found d x h = let s = present_stand [] t x h in (s.0.here, ap (λ z. find z t) (sym s.2) ∙ stand_found t d s.0 s.1)

  pub found_there : (x : ℕ) (o : Operation) → find x t ≡ Some o → has_id x t ≡ true
  found_there x o e = let s = found_stands x t o e in ap (λ z. has_id z t) (sym s.2) ∙ stand_present [] t s.0 s.1

  -- an operation has an insertion point before it exactly if it has a parent
  pub outer_some : HasDistinctIds t → (x : ℕ) → is_some (insertion_of x t) ≡ is_some (option_and_then (λ (s : SurroundingsOf (List ℕ) TypeTerm AttrTerm). s.outer) (surroundings x t))
  outer_some d x = go (op_with_path x t) refl
    where
      unplaced : ((s : OpWithPathOf (List ℕ) TypeTerm AttrTerm) → In s (stands [] t) → op_with_path_id s ≡ x → (place : Place) → place_in s.path ≡ Some place → ⊥) → is_some (insertion_of x t) ≡ false
      unplaced none = by (place_of x t) refl
        where
          by : (a : Option Place) → place_of x t ≡ a → is_some (insertion_of x t) ≡ false
          by None e = ap (λ z. is_some (option_map (insertion_point x) z)) e
          by (Some place) e = let u = member_of_place x place t e in absurd (none u.0 u.1 u.2 place u.3)

      root_unplaced : (s z : OpWithPathOf (List ℕ) TypeTerm AttrTerm) → z.path ≡ [] → s ≡ z → (place : Place) → place_in s.path ≡ Some place → ⊥
      root_unplaced s z j same place e = let none : None ≡ Some place = sym (ap place_in (ap (λ (w : OpWithPathOf (List ℕ) TypeTerm AttrTerm). w.path) same ∙ j)) ∙ e in absurd cc

      by_path : (z : OpWithPathOf (List ℕ) TypeTerm AttrTerm) → In z (stands [] t) → op_with_path_id z ≡ x → (q : List (StepOf (List ℕ) TypeTerm AttrTerm)) → z.path ≡ q → is_some (insertion_of x t) ≡ is_some (outer_of q)
      by_path z h i [] j = unplaced (λ s k l place e. root_unplaced s z j (same_stand t d s z k h (l ∙ sym i)) place e)
      by_path z h i (a ∷ q) j =
          let at : place_of x t ≡ place_in (a ∷ q) = ap (λ k. place_of k t) (sym i) ∙ place_of_member t d z.here a q (subst (λ l. In (stand z.here l) (stands [] t)) j h) in
          ap (λ k. is_some (option_map (insertion_point x) k)) at

      go : (a : Option (OpWithPathOf (List ℕ) TypeTerm AttrTerm)) → op_with_path x t ≡ a → is_some (insertion_of x t) ≡ is_some (option_and_then (λ (s : SurroundingsOf (List ℕ) TypeTerm AttrTerm). s.outer) (surroundings x t))
      go None i =
          unplaced (λ s k l place e. let no_stand : None ≡ Some s = sym i ∙ ap (λ z. op_with_path z t) (sym l) ∙ stand_of_member t d s k in absurd cc)
          ∙ sym (ap (λ a. is_some (option_and_then (λ (s : SurroundingsOf (List ℕ) TypeTerm AttrTerm). s.outer) (option_map (surround t) a))) i)
      go (Some z) i =
          let m = member x (stands [] t) z i in
          by_path z m.0 m.1 z.path refl ∙ sym (ap (λ a. is_some (option_and_then (λ (s : SurroundingsOf (List ℕ) TypeTerm AttrTerm). s.outer) (option_map (surround t) a))) i)

  -- the last operation of a block is in the tree
  pub last_header : HasDistinctIds t → (o : Operation) (path : List (StepOf (List ℕ) TypeTerm AttrTerm)) → In (stand o path) (stands [] t) → (r : ℕ)
      → last_of o r ≡ option_and_then (λ l. option_map head (find l t)) (last_in r (regions o))
  last_header d o path h r = go (region_at r (regions o)) refl
    where
      by_preceding : (f : Operation) (fs : List Operation) (l : Operation) → (ended_by f (joined_ops fs (next l no_ops))).last ≡ head l
      by_preceding f [] l = refl
      by_preceding f (k ∷ fs) l = by_preceding k fs l

      last_joined : (preceding : List Operation) (l : Operation) (args : List TypeTerm) → option_map (λ (w : Ended). w.last) (ended (block args (joined_ops preceding (next l no_ops)))) ≡ Some (head l)
      last_joined [] l args = refl
      last_joined (f ∷ fs) l args = ap Some (by_preceding f fs l)

      some_last : (u : Operation) (us : OpsOf (List ℕ) TypeTerm AttrTerm) → (l : ℕ) × (last_id (next u us) ≡ Some l)
      some_last u no_ops = ((head u).id, refl)
      some_last u (next w ws) = let k = some_last w ws in (k.0, ap (λ z. first_of z (Some (head u).id)) k.1)

      go : (a : Option (RegionOf (List ℕ) TypeTerm AttrTerm)) → region_at r (regions o) ≡ a → last_of o r ≡ option_and_then (λ l. option_map head (find l t)) (last_in r (regions o))
      go None e = ap (λ a. option_map (λ (w : Ended). w.last) (given a ended)) e ∙ sym (ap (λ a. option_and_then (λ l. option_map head (find l t)) (option_and_then last_id (option_and_then ops_in a))) e)
      go (Some empty) e = ap (λ a. option_map (λ (w : Ended). w.last) (given a ended)) e ∙ sym (ap (λ a. option_and_then (λ l. option_map head (find l t)) (option_and_then last_id (option_and_then ops_in a))) e)
      go (Some (block args no_ops)) e = ap (λ a. option_map (λ (w : Ended). w.last) (given a ended)) e ∙ sym (ap (λ a. option_and_then (λ l. option_map head (find l t)) (option_and_then last_id (option_and_then ops_in a))) e)
      go (Some (block args (next u us))) e =
          let k = some_last u us in
          let s = split_last k.0 (next u us) k.1 in
          let found : find k.0 t ≡ Some s.last = ap (λ z. find z t) (sym s.id) ∙ stand_found t d _ (last_stands t d o path r args (next u us) k.0 h e k.1) in
          ap (λ a. option_map (λ (w : Ended). w.last) (given a ended)) e
          ∙ ap (λ os. option_map (λ (w : Ended). w.last) (ended (block args os))) s.is
          ∙ last_joined s.preceding s.last args
          ∙ sym (ap (option_map head) found)
          ∙ sym (ap (option_and_then (λ l. option_map head (find l t))) k.1)
          ∙ sym (ap (λ a. option_and_then (λ l. option_map head (find l t)) (option_and_then last_id (option_and_then ops_in a))) e)

-- ---- what two trees with the same surroundings have in common
heads_of : (y : ℕ) (t : Operation) → option_map head (find y t) ≡ option_map (λ (s : SurroundingsOf (List ℕ) TypeTerm AttrTerm). s.node.head) (surroundings y t)
heads_of y t = go (op_with_path y t) refl
  where
    node_head : (o : Operation) → head o ≡ (node_of o).head
    node_head (op h rs) = refl

    go : (a : Option (OpWithPathOf (List ℕ) TypeTerm AttrTerm)) → op_with_path y t ≡ a → option_map head (find y t) ≡ option_map (λ (s : SurroundingsOf (List ℕ) TypeTerm AttrTerm). s.node.head) (surroundings y t)
    go None i = ap (option_map head) (sym (stands_find y [] t) ∙ ap (option_map (λ (z : OpWithPathOf (List ℕ) TypeTerm AttrTerm). z.here)) i) ∙ sym (ap (λ a. option_map (λ (s : SurroundingsOf (List ℕ) TypeTerm AttrTerm). s.node.head) (option_map (surround t) a)) i)
    go (Some z) i = ap (option_map head) (sym (stands_find y [] t) ∙ ap (option_map (λ (z : OpWithPathOf (List ℕ) TypeTerm AttrTerm). z.here)) i) ∙ ap Some (node_head z.here) ∙ sym (ap (λ a. option_map (λ (s : SurroundingsOf (List ℕ) TypeTerm AttrTerm). s.node.head) (option_map (surround t) a)) i)

module _ (t u : Operation) where
  pub verified_alike : (h : Header) → surroundings h.id t ≡ surroundings h.id u → is_verified t h ≡ is_verified u h
  unfolding is_verified
  verified_alike h e = ap (λ a. breaks_none (option_map broken a) && list_all (λ (k : List ℕ × AttrTerm). is_inherent h.name k.0) h.properties) e

  pub eligible_alike : (r : Rule) (h : Header) → surroundings h.id t ≡ surroundings h.id u → eligible r t h ≡ eligible r u h
  unfolding eligible is_in_order
  eligible_alike r h e =
      let cleans = verified_alike h e in
      let orders = ap (λ a. breaks_none (option_map reported a) && has_own_properties h) e in
      λ i. if is_erasing r then orders i else cleans i

  pub heads_alike : (y : ℕ) → surroundings y t ≡ surroundings y u → option_map head (find y t) ≡ option_map head (find y u)
  heads_alike y e = heads_of y t ∙ ap (option_map (λ (s : SurroundingsOf (List ℕ) TypeTerm AttrTerm). s.node.head)) e ∙ sym (heads_of y u)

  pub head_id : (y : ℕ) (h : Header) → option_map head (find y t) ≡ Some h → h.id ≡ y
  head_id y h e = go (find y t) refl e
    where
      go : (a : Option Operation) → find y t ≡ a → option_map head a ≡ Some h → h.id ≡ y
      go None i k = absurd cc
      go (Some o) i k =
          let s = found_stands y t o i in
          let same : head o ≡ h = cc in
          ap (λ (z : Header). z.id) (sym same) ∙ ap (λ (z : Operation). (head z).id) (sym s.3) ∙ s.2

  pub shows_alike : (v : Value) → ((y : ℕ) → defining_op_id v ≡ Some y → surroundings y t ≡ surroundings y u) → ShowsAlike t u v
  shows_alike (Result y k) f = record {
    gives = heads_alike y (f y refl);
    verified = λ h e. verified_alike h (let i = head_id y h e in ap (λ z. surroundings z t) i ∙ f y refl ∙ ap (λ z. surroundings z u) (sym i));
  }
  shows_alike (Arg x r k) f = record { gives = refl; verified = λ h e. absurd cc }
