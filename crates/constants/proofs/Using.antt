-- The users of a result, and the fold of an operation that the view shows.
use Rattle.std.proofs.Common.{◌≡◌, ◌≤◌, ℕ, ◌+◌, ◌-◌, ◌^◌, min, List, [], ◌∷◌, ◌++◌, length, map, Bool, true, false, true≢false, ◌||◌, ◌&&◌, Option, Some, None, inl, inr, refl, sym, ap, ◌∙◌, subst, arith, cond, eqb, length-append}
use Rattle.std.specs.Option.{option_map}
use Rattle.std.specs.Prelude.{All}
use Rattle.std.specs.FinMap as finmap
use Rattle.std.proofs.lemmas.Bool.{eq-eqb, eqb-true}
use Rattle.ir_event.specs.types.declared.bits.Bits.{Bits}
use Rattle.ir_event.specs.types.Things.{ContextModel, IsName, IsType, IsAttr}
use Rattle.ir_event.specs.types.Terms.{name_term, type_term, attr_term}
use Rattle.ir_event.specs.trees.declared.value.Value.{Value}
use Rattle.ir_event.specs.trees.declared.value.Value.TheVariants.{Result, Arg}
use Rattle.ir_event.specs.trees.Tree.{Op, op, head}
use Rattle.ir_event.specs.trees.Ids.{find, first_of}
use Rattle.ir_event.specs.trees.Maps.{map_head}
use Rattle.ir_event.specs.trees.Meaning.{meaning}
use Rattle.ir_event.specs.trees.Uses.{same_value, operand_uses, uses_of}
use Rattle.ir_event.proofs.of_trees.Mapped.{map_find}
use Rattle.ir_event.specs.tree_laws.Members.{In}
use Rattle.ir_event.specs.tree_laws.Stands.{OpWithPathOf, op_with_path_id, stands, gather}
use Rattle.ir_event.proofs.of_tree_laws.Listed.{in_left, in_right, in_parts, in_map, in_mapped, both, both_hold, either}
use Rattle.ir_event.proofs.of_tree_laws.Readings.{stands_uses}
use Rattle.ir_event.proofs.of_tree_laws.Members.{found_stands, stand_found}
use Rattle.ir_event.proofs.of_tree_laws.HeadForm.{in_gather}
use Rattle.ir_event.specs.store.Nodes.{Node as Numbers, node_of}
use Rattle.ir_event.specs.store.Stored.{known}
use Rattle.ir_event.specs.store.Using.{AreUses, EachOnce, is_use, same_use}
use Rattle.ir_event.specs.declared.world.World.{World}
use Rattle.ir_event.proofs.Nodes.{known_node}
use Rattle.dialects_int.specs.Folds.{known_of, entries_of, fold_of}
use Rattle.ir_event.specs.Heads.{heads}
use Rattle.constants.specs.Facts.{Header, Facts, knowns, folded_if, value}
use Rattle.constants.specs.Reached.{uses_among}
use Rattle.constants.specs.Trails.{Uses, IsThere}
use Rattle.constants.specs.Phases.{AreUsers}
use Rattle.constants.proofs.Counts.{length_uses}
use Rattle.constants.specs.Tables.{look_in, uses_in, users_of}
use Rattle.ir_event.proofs.of_trees.Replaced.{same_value_true, same_value_refl}

-- ---- uses in a list

-- an operand gives a listed use
listed_use : (v : Value) (x k : ℕ) (vs : List Value) → In v vs → (j : ℕ) × In (x, j) (operand_uses v x k vs)
listed_use v x k [] h = absurd h
listed_use v x k (w ∷ ws) (inl e) = (k, subst (λ b. In (x, k) (cond b ((x, k) ∷ operand_uses v x (k + 1) ws) (operand_uses v x (k + 1) ws))) (sym (ap (λ z. same_value v z) (sym e) ∙ same_value_refl v)) (inl refl))
listed_use v x k (w ∷ ws) (inr h) =
    let r = listed_use v x (k + 1) ws h in
    (r.0, elim (same_value v w) as (λ b. In (x, r.0) (cond b ((x, k) ∷ operand_uses v x (k + 1) ws) (operand_uses v x (k + 1) ws))) [ true ↦ inr r.1 | false ↦ r.1 ])

use_operand : (v : Value) (x k y j : ℕ) (vs : List Value) → In (y, j) (operand_uses v x k vs) → (y ≡ x) × In v vs
use_operand v x k y j [] h = absurd h
use_operand v x k y j (w ∷ ws) h = go (use_operand v x (k + 1) y j ws) (same_value v w) refl h
  where
    go : (In (y, j) (operand_uses v x (k + 1) ws) → (y ≡ x) × In v ws) → (b : Bool) → same_value v w ≡ b → In (y, j) (cond b ((x, k) ∷ operand_uses v x (k + 1) ws) (operand_uses v x (k + 1) ws)) → (y ≡ x) × (In v (w ∷ ws))
    go more true e (inl q) = (ap (λ (p : ℕ × ℕ). p.0) q, inl (same_value_true v w e))
    go more true e (inr g) = (let r = more g in (r.0, inr r.1))
    go more false e g = (let r = more g in (r.0, inr r.1))

gathered : {X Y : Type 0} (f : X → List Y) (y : Y) (xs : List X) → In y (gather f xs) → (x : X) × In x xs × In y (f x)
gathered f y [] h = absurd h
gathered f y (x ∷ xs) h = elim (in_parts y (f x) (gather f xs) h) [ inl a ↦ (x, inl refl, a) | inr b ↦ (let r = gathered f y xs b in (r.0, inr r.1, r.2)) ]

is_use_in : (x j : ℕ) (us : List (ℕ × ℕ)) → is_use x j us ≡ true → In (x, j) us
is_use_in x j [] e = absurd (true≢false (sym e))
is_use_in x j (u ∷ us) e = elim (either (same_use u (x, j)) (is_use x j us) e) [
  | inl h ↦ (let b = both (eqb u.0 x) (eqb u.1 j) h in inl (λ i. (sym (eqb-true u.0 x b.0) i, sym (eqb-true u.1 j b.1) i)))
  | inr h ↦ inr (is_use_in x j us h)
]

in_is_use : (x j : ℕ) (us : List (ℕ × ℕ)) → In (x, j) us → is_use x j us ≡ true
in_is_use x j [] h = absurd h
in_is_use x j (u ∷ us) (inl e) =
    ap (λ b. b || is_use x j us) (both_hold (eqb u.0 x) (eqb u.1 j) (eq-eqb u.0 x (ap (λ (p : ℕ × ℕ). p.0) (sym e))) (eq-eqb u.1 j (ap (λ (p : ℕ × ℕ). p.1) (sym e))))
in_is_use x j (u ∷ us) (inr h) = later (same_use u (x, j)) (in_is_use x j us h)
  where
    later : (b : Bool) → is_use x j us ≡ true → (b || is_use x j us) ≡ true
    later true e = refl
    later false e = e

-- distinct uses that are among others are at most as many
record Split (u : ℕ × ℕ) (ws : List (ℕ × ℕ)) : Type 0 where
  preceding : List (ℕ × ℕ)
  back : List (ℕ × ℕ)
  is : ws ≡ preceding ++ u ∷ back

split : (u : ℕ × ℕ) (ws : List (ℕ × ℕ)) → In u ws → Split u ws
split u [] h = absurd h
split u (w ∷ ws) (inl e) = record { preceding = []; back = ws; is = ap (λ z. z ∷ ws) (sym e) }
split u (w ∷ ws) (inr h) = let r = split u ws h in record { preceding = w ∷ r.preceding; back = r.back; is = ap (λ l. w ∷ l) r.is }

fewer : (us ws : List (ℕ × ℕ)) → EachOnce us → ((p : ℕ × ℕ) → In p us → In p ws) → length us ≤ length ws
fewer [] ws once h = omega arith
fewer (u ∷ us) ws once h =
    let s = split u ws (h u (inl refl)) in
    let rest : length us ≤ length (s.preceding ++ s.back) = fewer us (s.preceding ++ s.back) once.1 (λ p k. elim (in_parts p s.preceding (u ∷ s.back) (subst (In p) s.is (h p (inr k)))) [
      | inl a ↦ in_left p s.preceding s.back a
      | inr b ↦ elim b [
        | inl e ↦ absurd (true≢false (sym (in_is_use u.0 u.1 us (subst (λ z. In z us) e k)) ∙ once.0))
        | inr c ↦ in_right p s.preceding s.back c
      ]
    ]) in
    let a = length-append s.preceding s.back in
    let b : length ws ≡ length s.preceding + length (u ∷ s.back) = ap length s.is ∙ length-append s.preceding (u ∷ s.back) in
    omega (arith, rest, a, b)

-- ---- the uses of a module

look_number : (w : World) (y : ℕ) → look_in w y ≡ option_map (λ (o : Op). map_head (name_term w.ctx) (type_term w.ctx) (attr_term w.ctx) (head o)) (find y w.store.module_of.tree)
look_number w y = ap (option_map head) (map_find (name_term w.ctx) (type_term w.ctx) (attr_term w.ctx) y w.store.module_of.tree) ∙ go (find y w.store.module_of.tree)
  where
    go : (o : Option Op) → option_map head (option_map (meaning w.ctx) o) ≡ option_map (λ (o : Op). map_head (name_term w.ctx) (type_term w.ctx) (attr_term w.ctx) (head o)) o
    go None = refl
    go (Some (op h rs)) = refl

module _ (w : World) (d : ℕ) (us : List (ℕ × ℕ)) (are : AreUses (Result d 0) w.store.module_of.tree us) where
  the_uses : List (ℕ × ℕ)
  the_uses = uses_of (Result d 0) w.store.module_of.tree

  in_uses : (y j : ℕ) → In (y, j) us → In (y, j) (uses_of (Result d 0) w.store.module_of.tree)
  in_uses y j h = is_use_in y j (uses_of (Result d 0) w.store.module_of.tree) (sym (are.same y j) ∙ in_is_use y j us h)

  used : (y : ℕ) → In y (users_of us) → Uses (look_in w) d y
  used y h =
      let u = in_mapped (λ (u : ℕ × ℕ). u.0) y us h in
      let i : In (u.0.0, u.0.1) (gather (λ s. operand_uses (Result d 0) (op_with_path_id s) 0 (head s.here).operands) (stands [] w.store.module_of.tree)) =
      subst (In (u.0.0, u.0.1)) (sym (stands_uses (Result d 0) [] w.store.module_of.tree)) (in_uses u.0.0 u.0.1 u.1) in
      let g = gathered (λ (s : OpWithPathOf ℕ ℕ ℕ). operand_uses (Result d 0) (op_with_path_id s) 0 (head s.here).operands) (u.0.0, u.0.1) (stands [] w.store.module_of.tree) i in
      let r = use_operand (Result d 0) (op_with_path_id g.0) 0 u.0.0 u.0.1 (head g.0.here).operands g.2 in
      let id : y ≡ op_with_path_id g.0 = u.2 ∙ r.0 in
      record {
        here = map_head (name_term w.ctx) (type_term w.ctx) (attr_term w.ctx) (head g.0.here);
        is = ap (look_in w) id
            ∙ look_number w (op_with_path_id g.0)
            ∙ ap (option_map (λ (o : Op). map_head (name_term w.ctx) (type_term w.ctx) (attr_term w.ctx) (head o))) (stand_found w.store.module_of.tree w.wellformed.distinct g.0 g.1);
        operand = r.1;
      }

  using : (y : ℕ) → Uses (look_in w) d y → In y (users_of us)
  using y u = go (find y w.store.module_of.tree) refl (sym (look_number w y) ∙ u.is)
    where
      go : (o : Option Op) → find y w.store.module_of.tree ≡ o → option_map (λ (o : Op). map_head (name_term w.ctx) (type_term w.ctx) (attr_term w.ctx) (head o)) o ≡ Some u.here → In y (users_of us)
      go None f e = (let bad : None ≡ Some u.here = e in absurd cc)
      go (Some o) f e =
          let one : map_head (name_term w.ctx) (type_term w.ctx) (attr_term w.ctx) (head o) ≡ u.here = cc in
          let operand : In (Result d 0) (head o).operands = subst (λ (h : Header). In (Result d 0) h.operands) (sym one) u.operand in
          let s = found_stands y w.store.module_of.tree o f in
          let l = listed_use (Result d 0) (op_with_path_id s.0) 0 (head s.0.here).operands (subst (λ (q : Op). In (Result d 0) (head q).operands) (sym s.3) operand) in
          let i : In (op_with_path_id s.0, l.0) (uses_of (Result d 0) w.store.module_of.tree) =
          subst (In (op_with_path_id s.0, l.0)) (stands_uses (Result d 0) [] w.store.module_of.tree)
          (in_gather (λ (s : OpWithPathOf ℕ ℕ ℕ). operand_uses (Result d 0) (op_with_path_id s) 0 (head s.here).operands) (op_with_path_id s.0, l.0) s.0 (stands [] w.store.module_of.tree) s.1 l.1) in
          let k : In (op_with_path_id s.0, l.0) us = is_use_in (op_with_path_id s.0) l.0 us (are.same (op_with_path_id s.0) l.0 ∙ in_is_use (op_with_path_id s.0) l.0 (uses_of (Result d 0) w.store.module_of.tree) i) in
          subst (λ z. In z (users_of us)) s.2 (in_map (λ (u : ℕ × ℕ). u.0) (op_with_path_id s.0, l.0) us k)

  pub users_are : AreUsers (look_in w) d (users_of us)
  users_are = record { all = using; only = used }

  pub users_few : length us ≤ uses_in w d
  users_few =
      let a = fewer us (uses_of (Result d 0) w.store.module_of.tree) are.once (λ p h. in_uses p.0 p.1 h) in
      let b : length (uses_of (Result d 0) w.store.module_of.tree) ≤ uses_among (heads (meaning w.ctx w.store.module_of.tree)) d =
      length_uses (name_term w.ctx) (type_term w.ctx) (attr_term w.ctx) d 0 w.store.module_of.tree in
      omega (arith, a, b)

pub few_looks : (n m old : ℕ) → n ≤ m → min (old + (n + 1)) (2 ^ 64 - 1) ≤ old + (1 + m)
few_looks n m old le = omega (arith, le)

-- ---- operations that the view shows

types_of : {P : ℕ × ℕ → Type 0} {Q : ℕ × ℕ → Type 0} → ((e : ℕ × ℕ) → P e → Q e) → (es : List (ℕ × ℕ)) → All P es → All Q es
types_of f es a k d lt = f _ (a k d lt)

module _ (w : World) (x : ℕ) (n : Numbers) (is : option_map node_of (known x w.store) ≡ Some n) where
  pub shown_properties : All (λ (e : ℕ × ℕ). IsAttr w.ctx e.1) n.head.properties
  shown_properties = types_of {P = λ (e : ℕ × ℕ). IsName w.ctx e.0 × IsAttr w.ctx e.1} {Q = λ (e : ℕ × ℕ). IsAttr w.ctx e.1} (λ e b. b.1) n.head.properties (known_node w x n is).properties

  pub shown_results : All (λ t. IsType w.ctx t) n.head.results
  shown_results = (known_node w x n is).results

  pub folds_to : (t : Facts) (ks : List (Option Bits)) (r : Option Bits) → map known_of ks ≡ knowns t n.head.operands
      → known_of r ≡ fold_of (name_term w.ctx n.head.name) (entries_of w.ctx n.head.properties) (map known_of ks) (map (type_term w.ctx) n.head.results) → IsThere (look_in w) x → known_of r ≡ value (look_in w) t x
  folds_to t ks r are gives there = go (find x w.store.module_of.tree) refl
    where
      h : Header
      h = map_head (name_term w.ctx) (type_term w.ctx) (attr_term w.ctx) n.head

      go : (o : Option Op) → find x w.store.module_of.tree ≡ o → known_of r ≡ value (look_in w) t x
      go None f = (let bad : None ≡ Some there.0 = sym (look_number w x ∙ ap (option_map (λ (o : Op). map_head (name_term w.ctx) (type_term w.ctx) (attr_term w.ctx) (head o))) f) ∙ there.1 in absurd cc)
      go (Some (op k rs)) f =
          let shown : Some (node_of (op k rs)) ≡ Some n = sym (ap (λ o. option_map node_of (first_of o (finmap.get w.store.held x))) f) ∙ is in
          let one : node_of (op k rs) ≡ n = cc in
          let here : look_in w x ≡ Some (map_head (name_term w.ctx) (type_term w.ctx) (attr_term w.ctx) n.head) =
          look_number w x
          ∙ ap (option_map (λ (o : Op). map_head (name_term w.ctx) (type_term w.ctx) (attr_term w.ctx) (head o))) f
          ∙ ap (λ (m : Numbers). Some (map_head (name_term w.ctx) (type_term w.ctx) (attr_term w.ctx) m.head)) one in
          gives ∙ ap (λ l. fold_of (name_term w.ctx n.head.name) (entries_of w.ctx n.head.properties) l (map (type_term w.ctx) n.head.results)) are ∙ sym (ap (λ o. folded_if o t) here)

  -- these facts in the forms that the code needs
  pub properties_known : (c : ContextModel) (ps : List (ℕ × ℕ)) → c ≡ w.ctx → ps ≡ n.head.properties → All (λ (e : ℕ × ℕ). IsAttr c e.1) ps
  properties_known c ps e f = subst (λ c. All (λ (e : ℕ × ℕ). IsAttr c e.1) ps) (sym e) (subst (All (λ (e : ℕ × ℕ). IsAttr w.ctx e.1)) (sym f) shown_properties)

  pub results_known : (c : ContextModel) (ts : List ℕ) → c ≡ w.ctx → ts ≡ n.head.results → All (λ t. IsType c t) ts
  results_known c ts e f = subst (λ c. All (λ t. IsType c t) ts) (sym e) (subst (All (λ t. IsType w.ctx t)) (sym f) shown_results)

  pub folds_as : (t : Facts) (ks ls : List (Option Bits)) (r : Option Bits) (c : ContextModel) (name : ℕ) (ps : List (ℕ × ℕ)) (os : List Value) (ts : List ℕ) → c ≡ w.ctx → name ≡ n.head.name → ps ≡ n.head.properties → os ≡ n.head.operands → ts ≡ n.head.results
      → ls ≡ ks → map known_of ks ≡ knowns t os → known_of r ≡ fold_of (name_term c name) (entries_of c ps) (map known_of ls) (map (type_term c) ts) → IsThere (look_in w) x → known_of r ≡ value (look_in w) t x
  folds_as t ks ls r c name ps os ts ec en ep eo et el are gives =
      folds_to t ks r (are ∙ ap (knowns t) eo) (gives ∙ λ i. fold_of (name_term (ec i) (en i)) (entries_of (ec i) (ep i)) (map known_of (el i)) (map (type_term (ec i)) (et i)))

-- an operation that the view doesn't show isn't in the module
pub not_shown : (w : World) (x : ℕ) → option_map node_of (known x w.store) ≡ None → IsThere (look_in w) x → ⊥
not_shown w x e there = go (find x w.store.module_of.tree) refl
  where
    go : (o : Option Op) → find x w.store.module_of.tree ≡ o → ⊥
    go None f = (let bad : None ≡ Some there.0 = sym (look_number w x ∙ ap (option_map (λ (o : Op). map_head (name_term w.ctx) (type_term w.ctx) (attr_term w.ctx) (head o))) f) ∙ there.1 in cc)
    go (Some o) f = (let bad : Some (node_of o) ≡ None = sym (ap (λ o. option_map node_of (first_of o (finmap.get w.store.held x))) f) ∙ e in cc)
