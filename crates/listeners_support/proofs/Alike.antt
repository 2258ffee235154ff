-- Operations with the same contexts in two trees.
use Rattle.std.proofs.Common.{◌≡◌, refl, ap, sym, ◌∙◌, ℕ, [], map, Option, Some, None}
use Rattle.std.specs.Prelude.{option_map, option_and_then}
use Rattle.ir_event.specs.trees.declared.value.Value.{Value}
use Rattle.ir_event.specs.trees.Tree.{HeadOf, OpOf, op, head}
use Rattle.ir_event.specs.trees.Ids.{HasDistinctIds}
use Rattle.ir_event.specs.trees.Frames.{owner_of}
use Rattle.ir_event.specs.store.Nodes.{node_of}
use Rattle.ir_event.specs.tree_laws.Values.{type_of_value}
use Rattle.ir_event.specs.tree_laws.Stands.{OpWithPathOf, op_with_path_id, stands, op_with_path}
use Rattle.ir_event.specs.tree_laws.Members.{In}
use Rattle.ir_event.proofs.of_tree_laws.Readings.{stands_find}
use Rattle.ir_event.proofs.of_tree_laws.Members.{member, stand_of_member}
use Rattle.listeners_support.specs.Surroundings.{surround, surroundings}
use Rattle.ir_event.proofs.Typed.{types_of, typed, typed_value}
use Rattle.listeners_support.proofs.Operands.{same_map}
use Rattle.listeners_support.proofs.Left.{AlikeStands}

-- operation z is in neither tree, or is in both and R holds
pub data Both {N T A : Type 0} (R : OpWithPathOf N T A → OpWithPathOf N T A → Type 0) (z : ℕ) (t u : OpOf N T A) : Type 0 where
  neither : op_with_path z t ≡ None → op_with_path z u ≡ None → Both R z t u
  each : (s r : OpWithPathOf N T A) → In s (stands [] t) → op_with_path z t ≡ Some s → op_with_path z u ≡ Some r → R s r → Both R z t u

module _ {N T A : Type 0} where
  pub both : (R : OpWithPathOf N T A → OpWithPathOf N T A → Type 0) (z : ℕ) (t u : OpOf N T A) → HasDistinctIds t → HasDistinctIds u
      → ((s : OpWithPathOf N T A) → In s (stands [] t) → op_with_path_id s ≡ z → (r : OpWithPathOf N T A) × In r (stands [] u) × (op_with_path_id r ≡ z) × R s r)
      → ((r : OpWithPathOf N T A) → In r (stands [] u) → op_with_path_id r ≡ z → (s : OpWithPathOf N T A) × In s (stands [] t) × (op_with_path_id s ≡ z))
      → Both R z t u
  both R z t u d e f g = go (op_with_path z t) refl (op_with_path z u) refl
    where
      go : (a : Option (OpWithPathOf N T A)) → op_with_path z t ≡ a → (b : Option (OpWithPathOf N T A)) → op_with_path z u ≡ b → Both R z t u
      go (Some s) i b j =
          let m = member z (stands [] t) s i in
          let r = f s m.0 m.1 in
          each s r.0 m.0 i (ap (λ y. op_with_path y u) (sym r.2) ∙ stand_of_member u e r.0 r.1) r.3
      go None i None j = neither i j
      go None i (Some r) j =
          let m = member z (stands [] u) r j in
          let s = g r m.0 m.1 in
          let no : None ≡ Some s.0 = sym i ∙ ap (λ y. op_with_path y t) (sym s.2) ∙ stand_of_member t d s.0 s.1 in
          absurd cc

  node_head : (o q : OpOf N T A) → node_of o ≡ node_of q → head o ≡ head q
  node_head (op h rs) (op k qs) e = λ i. (e i).head

  pub node_types : (o q : OpOf N T A) → node_of o ≡ node_of q → types_of o ≡ types_of q
  node_types (op h rs) (op k qs) e = λ i. ((e i).head.results, (e i).arguments)

  -- a value of an operation that is the same in both trees has the same type in both
  pub same_value_type : (v : Value) (t u : OpOf N T A) → Both (λ s r. node_of s.here ≡ node_of r.here) (owner_of v).0 t u → type_of_value v t ≡ type_of_value v u
  same_value_type v t u b =
      typed_value v t ∙ ap (option_and_then (typed v)) (
      ap (option_map types_of) (sym (stands_find (owner_of v).0 [] t)) ∙ go b ∙ ap (option_map types_of) (stands_find (owner_of v).0 [] u)
      ) ∙ sym (typed_value v u)
    where
      go : Both (λ s r. node_of s.here ≡ node_of r.here) (owner_of v).0 t u
          → option_map types_of (option_map (λ (s : OpWithPathOf N T A). s.here) (op_with_path (owner_of v).0 t)) ≡ option_map types_of (option_map (λ (s : OpWithPathOf N T A). s.here) (op_with_path (owner_of v).0 u))
      go (neither i j) = ap (λ o. option_map types_of (option_map (λ (s : OpWithPathOf N T A). s.here) o)) (i ∙ sym j)
      go (each s r m i j e) =
          ap (λ o. option_map types_of (option_map (λ (s : OpWithPathOf N T A). s.here) o)) i
          ∙ ap Some (node_types s.here r.here e)
          ∙ ap (λ o. option_map types_of (option_map (λ (s : OpWithPathOf N T A). s.here) o)) (sym j)

  pub same_surroundings : (y : ℕ) (t u : OpOf N T A) → Both AlikeStands y t u → ((s : OpWithPathOf N T A) → In s (stands [] t) → op_with_path_id s ≡ y → (v : Value) → In v (head s.here).operands → type_of_value v t ≡ type_of_value v u) → surroundings y t ≡ surroundings y u
  same_surroundings y t u (neither i j) f = ap (option_map (surround t)) i ∙ sym (ap (option_map (surround u)) j)
  same_surroundings y t u (each s r m i j a) f =
      let id = (member y (stands [] t) s i).1 in
      let same : surround t s ≡ surround u r = (λ k. record { node = a.node k; lasts = a.lasts k; types = types s r a (f s m id) k; outer = a.outer k }) in
      ap (option_map (surround t)) i ∙ ap Some same ∙ sym (ap (option_map (surround u)) j)
    where
      types : (s r : OpWithPathOf N T A) → AlikeStands s r → ((v : Value) → In v (head s.here).operands → type_of_value v t ≡ type_of_value v u)
          → map (λ v. type_of_value v t) (head s.here).operands ≡ map (λ v. type_of_value v u) (head r.here).operands
      types s r a f = same_map (λ v. type_of_value v t) (λ v. type_of_value v u) (head s.here).operands f ∙ ap (λ (h : HeadOf N T A). map (λ v. type_of_value v u) h.operands) (node_head s.here r.here a.node)
