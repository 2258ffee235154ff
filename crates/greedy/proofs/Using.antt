-- The users of an operation, by the uses of its results.
use Rattle.std.proofs.Common.{◌≡◌, refl, ap, sym, ◌∙◌, subst, ℕ, zero, suc, ◌+◌, ◌<◌, ◌≤◌, Bool, true, false, true≢false, cond, ◌||◌, ◌&&◌, eqb, eq-eqb, eqb-true, List, [], ◌∷◌, length, Option, Some, None, inl, inr, ◌⊎◌, arith}
use Rattle.std.specs.Prelude.{option_map, option_and_then, is_some, slice_get}
use Rattle.ir_event.specs.trees.declared.value.Value.{Value}
use Rattle.ir_event.specs.trees.declared.value.Value.TheVariants.{Result, Arg}
use Rattle.ir_event.specs.trees.Tree.{Op, op, head}
use Rattle.ir_event.specs.trees.Ids.{find, has_id, ids}
use Rattle.ir_event.specs.trees.Meaning.{isolated_in}
use Rattle.ir_event.specs.trees.Uses.{same_value, operand_uses, uses_of}
use Rattle.ir_event.specs.store.Nodes.{Node, node_of}
use Rattle.ir_event.specs.store.Using.{is_use, same_use, AreUses}
use Rattle.ir_event.specs.tree_laws.Values.{has_value}
use Rattle.ir_event.specs.tree_laws.Stands.{OpWithPathOf, op_with_path_id, stands, op_with_path, dominated_by}
use Rattle.ir_event.specs.tree_laws.Members.{In}
use Rattle.ir_event.proofs.of_tree_laws.Listed.{any_one, both_hold, bool_cases, all_each}
use Rattle.ir_event.proofs.of_tree_laws.Readings.{stands_uses}
use Rattle.ir_event.proofs.of_tree_laws.Members.{member, same_stand, stand, stand_found}
use Rattle.std.specs.List.{list_any}
use Rattle.effects.specs.Dead.{is_result_of}
use Rattle.ir_event.proofs.of_tree_laws.HeadForm.{in_gather}
use Rattle.ir_event.proofs.of_tree_laws.Values.{seen_by}
use Rattle.ir_event.proofs.of_tree_laws.Wellformed.{from_wellformed}
use Rattle.ir_event.specs.declared.world.World.{World}
use Rattle.listeners_support.specs.Surroundings.{surround}
use Rattle.greedy.specs.LocalContext.{Uses, defining_op, operands_of}
use Rattle.greedy.specs.Adding.{Adding, Adds}
use Rattle.greedy.specs.Parts.{IsHanded, IsIn, IsSeer, IsUser}
use Rattle.greedy.proofs.Listed.{first_there, second_there}
use Rattle.greedy.specs.Reached.{ends}
use Rattle.greedy.proofs.BlockEnds.{ending}
use Rattle.greedy.proofs.Following.{dominates, dominates_parent}
use Rattle.listeners_support.proofs.Points.{last_is}
use Rattle.ir_event.specs.tree_laws.Reads.{precedes}
use Rattle.greedy.proofs.Adding.{adding_none, adding_more, adding_done}
use Rattle.ir_event.proofs.of_trees.Replaced.{same_value_refl}

-- the use of an operand is listed
listed_use : (v : Value) (x k : ℕ) (vs : List Value) → In v vs → (j : ℕ) × In (x, j) (operand_uses v x k vs)
listed_use v x k [] h = absurd h
listed_use v x k (w ∷ ws) (inl e) = (k, subst (λ b. In (x, k) (cond b ((x, k) ∷ operand_uses v x (k + 1) ws) (operand_uses v x (k + 1) ws))) (sym (ap (λ z. same_value v z) (sym e) ∙ same_value_refl v)) (inl refl))
listed_use v x k (w ∷ ws) (inr h) =
    let r = listed_use v x (k + 1) ws h in
    (r.0, elim (same_value v w) as (λ b. In (x, r.0) (cond b ((x, k) ∷ operand_uses v x (k + 1) ws) (operand_uses v x (k + 1) ws))) [ true ↦ inr r.1 | false ↦ r.1 ])

in_is_use : (x j : ℕ) (us : List (ℕ × ℕ)) → In (x, j) us → is_use x j us ≡ true
in_is_use x j [] h = absurd h
in_is_use x j (u ∷ us) (inl e) =
    ap (λ b. b || is_use x j us) (both_hold (eqb u.0 x) (eqb u.1 j) (eq-eqb u.0 x (ap (λ (p : ℕ × ℕ). p.0) (sym e))) (eq-eqb u.1 j (ap (λ (p : ℕ × ℕ). p.1) (sym e))))
in_is_use x j (u ∷ us) (inr h) = later (same_use u (x, j)) (in_is_use x j us h)
  where
    later : (b : Bool) → is_use x j us ≡ true → (b || is_use x j us) ≡ true
    later true e = refl
    later false e = e

-- an operand that is a result of an operation
gives_result : (v : Value) (y : ℕ) → defining_op v ≡ Some y → (k : ℕ) × (v ≡ Result y k)
gives_result (Result z k) y e = let same : z ≡ y = cc in (k, ap (λ q. Result q k) same)
gives_result (Arg z r k) y e = absurd cc

below : {X : Type 0} (xs : List X) (k : ℕ) → is_some (slice_get xs k) ≡ true → k < length xs
below [] k e = absurd (true≢false (sym e))
below (x ∷ xs) zero e = omega arith
below (x ∷ xs) (suc k) e = omega (arith, below xs k e)

module _ (w : World) where
  operands_shown : (o : Op) → (node_of o).head.operands ≡ (head o).operands
  operands_shown (op h rs) = refl

  results_shown : (o : Op) → (node_of o).head.results ≡ (head o).results
  results_shown (op h rs) = refl

  -- a user is in the module and has a result of the operation as an operand, which is a value of the module
  record Used (x y : ℕ) : Type 0 where
    number : ℕ
    user : IsUser (Result y number) w.store.module_of.tree x
    value : has_value (Result y number) w.store.module_of.tree ≡ true

  used : (x y : ℕ) → Uses x y w.store.module_of.tree → Used x y
  used x y u = go (op_with_path x w.store.module_of.tree) refl
    where
      by_stand : (s : OpWithPathOf ℕ ℕ ℕ) → In s (stands [] w.store.module_of.tree) → op_with_path_id s ≡ x → (v : Value) → In v (head s.here).operands → (k : ℕ) → v ≡ Result y k → Used x y
      by_stand s h i v k n e =
          let l = listed_use v (op_with_path_id s) 0 (head s.here).operands k in
          let g : In (op_with_path_id s, l.0) (uses_of v w.store.module_of.tree) =
          subst (In (op_with_path_id s, l.0)) (stands_uses v [] w.store.module_of.tree)
          (in_gather (λ (u : OpWithPathOf ℕ ℕ ℕ). operand_uses v (op_with_path_id u) 0 (head u.here).operands) (op_with_path_id s, l.0) s (stands [] w.store.module_of.tree) h l.1) in
          let each = (from_wellformed (isolated_in w.ctx) w.store.module_of.tree w.wellformed.wellformed).dominated_by_own s h in
          let is = (seen_by (isolated_in w.ctx) w.store.module_of.tree w.wellformed.distinct s h v (all_each (dominated_by (isolated_in w.ctx) s.path) (head s.here).operands each v k)).is in
          record {
            number = n;
            user = (
              l.0,
              subst (λ q. is_use q l.0 (uses_of (Result y n) w.store.module_of.tree) ≡ true) i
                  (ap (λ q. is_use (op_with_path_id s) l.0 (uses_of q w.store.module_of.tree)) (sym e) ∙ in_is_use (op_with_path_id s) l.0 (uses_of v w.store.module_of.tree) g),
            );
            value = ap (λ q. has_value q w.store.module_of.tree) (sym e) ∙ is;
          }

      go : (f : Option (OpWithPathOf ℕ ℕ ℕ)) → op_with_path x w.store.module_of.tree ≡ f → Used x y
      go None i = absurd (subst (λ f. In u.0 (operands_of (option_map (surround w.store.module_of.tree) f))) i u.1)
      go (Some s) i =
          let m = member x (stands [] w.store.module_of.tree) s i in
          let h : In u.0 (head s.here).operands = subst (In u.0) (operands_shown s.here) (subst (λ f. In u.0 (operands_of (option_map (surround w.store.module_of.tree) f))) i u.1) in
          let r = gives_result u.0 y u.2 in
          by_stand s m.0 m.1 u.0 h r.0 r.1

  -- the operand of a user, with the path to the user
  record Operand (x y : ℕ) : Type 0 where
    at : OpWithPathOf ℕ ℕ ℕ
    there : In at (stands [] w.store.module_of.tree)
    id : op_with_path_id at ≡ x
    number : ℕ
    visible : dominated_by (isolated_in w.ctx) at.path (Result y number) ≡ true

  operand : (x y : ℕ) → Uses x y w.store.module_of.tree → Operand x y
  operand x y u = go (op_with_path x w.store.module_of.tree) refl
    where
      go : (f : Option (OpWithPathOf ℕ ℕ ℕ)) → op_with_path x w.store.module_of.tree ≡ f → Operand x y
      go None i = absurd (subst (λ f. In u.0 (operands_of (option_map (surround w.store.module_of.tree) f))) i u.1)
      go (Some s) i =
          let m = member x (stands [] w.store.module_of.tree) s i in
          let h : In u.0 (head s.here).operands = subst (In u.0) (operands_shown s.here) (subst (λ f. In u.0 (operands_of (option_map (surround w.store.module_of.tree) f))) i u.1) in
          let r = gives_result u.0 y u.2 in
          let each = (from_wellformed (isolated_in w.ctx) w.store.module_of.tree w.wellformed.wellformed).dominated_by_own s m.0 in
          record {
            at = s;
            there = m.0;
            id = m.1;
            number = r.0;
            visible = subst (λ v. dominated_by (isolated_in w.ctx) s.path v ≡ true) r.1 (all_each (dominated_by (isolated_in w.ctx) s.path) (head s.here).operands each u.0 h);
          }

  -- a user by its node
  user_found : (x y : ℕ) → Uses x y w.store.module_of.tree → (o : Op) × (find x w.store.module_of.tree ≡ Some o) × (list_any (is_result_of y) (head o).operands ≡ true)
  user_found x y u = go (op_with_path x w.store.module_of.tree) refl
    where
      own : (v : Value) → defining_op v ≡ Some y → is_result_of y v ≡ true
      own (Result z k) e = let same : z ≡ y = cc in eq-eqb z y same
      own (Arg z r k) e = absurd cc

      go : (f : Option (OpWithPathOf ℕ ℕ ℕ)) → op_with_path x w.store.module_of.tree ≡ f → (o : Op) × (find x w.store.module_of.tree ≡ Some o) × (list_any (is_result_of y) (head o).operands ≡ true)
      go None i = absurd (subst (λ f. In u.0 (operands_of (option_map (surround w.store.module_of.tree) f))) i u.1)
      go (Some s) i =
          let m = member x (stands [] w.store.module_of.tree) s i in
          let h : In u.0 (head s.here).operands = subst (In u.0) (operands_shown s.here) (subst (λ f. In u.0 (operands_of (option_map (surround w.store.module_of.tree) f))) i u.1) in
          (s.here, ap (λ z. find z w.store.module_of.tree) (sym m.1) ∙ stand_found w.store.module_of.tree w.wellformed.distinct s m.0, any_one (is_result_of y) (head s.here).operands u.0 h (own u.0 u.2))

  pub not_user_none : (x y : ℕ) → None ≡ option_map node_of (find x w.store.module_of.tree) → Uses x y w.store.module_of.tree → ⊥
  not_user_none x y e u = let f = user_found x y u in let no : None ≡ Some (node_of f.0) = e ∙ ap (option_map node_of) f.1 in absurd cc

  pub not_user_some : (x y : ℕ) (n : Node) → Some n ≡ option_map node_of (find x w.store.module_of.tree) → list_any (is_result_of y) n.head.operands ≡ false → Uses x y w.store.module_of.tree → ⊥
  not_user_some x y n e f u =
      let o = user_found x y u in
      let some : Some n ≡ Some (node_of o.0) = e ∙ ap (option_map node_of) o.1 in
      let same : n ≡ node_of o.0 = cc in
      true≢false (sym o.2 ∙ ap (list_any (is_result_of y)) (sym (ap (λ (m : Node). m.head.operands) same ∙ operands_shown o.0)) ∙ f)

  -- a user comes after the operation that it uses
  pub user_after : (y x : ℕ) → Uses x y w.store.module_of.tree → precedes y x w.store.module_of.tree ≡ true
  user_after y x u =
      let o = operand x y u in
      subst (λ z. precedes y z w.store.module_of.tree ≡ true) o.id (dominates w.store.module_of.tree w.wellformed.distinct (isolated_in w.ctx) y o.number o.at.here o.at.path o.there o.visible)

  -- an absent operation has no users, and comes after no operation
  pub seer_absent : (passed y : ℕ) → has_id y w.store.module_of.tree ≡ false → (x : ℕ) → IsSeer w.store.module_of.tree passed y x → ⊥
  seer_absent passed y a x (inl u) = true≢false (sym (first_there y x (ids w.store.module_of.tree) (user_after y x u.0)) ∙ a)
  seer_absent passed y a x (inr h) = true≢false (sym (second_there passed y (ids w.store.module_of.tree) h.0) ∙ a)

  -- a user l that ends a block of x: operation y comes before x, or is in the block
  pub handed_on : (y l x : ℕ) → Uses l y w.store.module_of.tree → ends x l w.store.module_of.tree ≡ true → (precedes y x w.store.module_of.tree ≡ true) ⊎ IsHanded w.store.module_of.tree y x
  handed_on y l x u k =
      let o = operand l y u in
      let z = ending x l w.store.module_of.tree k in
      let one : o.at ≡ stand z.here (z.step ∷ z.path) = same_stand w.store.module_of.tree w.wellformed.distinct o.at (stand z.here (z.step ∷ z.path)) o.there z.there (o.id ∙ sym z.id) in
      let paths : o.at.path ≡ z.step ∷ z.path = ap (λ (s : OpWithPathOf ℕ ℕ ℕ). s.path) one in
      elim (dominates_parent w.store.module_of.tree w.wellformed.distinct (isolated_in w.ctx) y o.number z.here z.step z.path z.there (subst (λ p. dominated_by (isolated_in w.ctx) p (Result y o.number) ≡ true) paths o.visible)) [
        | inl b ↦ inl (subst (λ p. precedes y p w.store.module_of.tree ≡ true) z.parent b)
        | inr e ↦ inr (
          record { parent = (head z.step.parent).id; region = z.step.region; before = e.next_one },
          e.place,
          z.parent,
          (l, last_is w.store.module_of.tree w.wellformed.distinct z.here z.step z.path z.there z.last ∙ ap Some z.id, u),
        )
      ]

  -- x uses one of the results of operation y, counting a number of results from an index on
  abbrev pub IsUserAmong : ℕ → ℕ → ℕ → ℕ → Type 0
  IsUserAmong y from count x = (k : ℕ) × (from ≤ k) × (k < count) × IsUser (Result y k) w.store.module_of.tree x

  pub users_absent : (y : ℕ) → None ≡ option_map node_of (find y w.store.module_of.tree) → (x : ℕ) → Uses x y w.store.module_of.tree → ⊥
  users_absent y e x u = go (find y w.store.module_of.tree) refl
    where
      go : (f : Option Op) → find y w.store.module_of.tree ≡ f → ⊥
      go None i = true≢false (sym (used x y u).value ∙ ap (λ f. is_some (option_and_then (λ (o : Op). slice_get (head o).results (used x y u).number) f)) i)
      go (Some o) i = let no : None ≡ Some (node_of o) = e ∙ ap (option_map node_of) i in absurd cc

  pub users_begin : (y count : ℕ) (n : Node) → Some n ≡ option_map node_of (find y w.store.module_of.tree) → count ≡ length n.head.results → (xs : List ℕ) → Adding (λ x. Uses x y w.store.module_of.tree) (IsUserAmong y 0 count) xs xs
  users_begin y count n e c xs = adding_none (λ x. Uses x y w.store.module_of.tree) (IsUserAmong y 0 count) xs (λ x u. let z = used x y u in (z.number, omega arith, few z.number z.value, z.user))
    where
      few : (k : ℕ) → has_value (Result y k) w.store.module_of.tree ≡ true → k < count
      few k h = go (find y w.store.module_of.tree) refl
        where
          go : (f : Option Op) → find y w.store.module_of.tree ≡ f → k < count
          go None i = absurd (true≢false (sym h ∙ ap (λ f. is_some (option_and_then (λ (o : Op). slice_get (head o).results k) f)) i))
          go (Some o) i =
              let some : Some n ≡ Some (node_of o) = e ∙ ap (option_map node_of) i in
              let same : n ≡ node_of o = cc in
              let size : count ≡ length (head o).results = c ∙ ap (λ (m : Node). length m.head.results) same ∙ ap length (results_shown o) in
              let at = below (head o).results k (sym (ap (λ f. is_some (option_and_then (λ (o : Op). slice_get (head o).results k) f)) i) ∙ h) in
              omega (arith, size, at)

  pub users_more : (P : ℕ → Type 0) (y from count : ℕ) (xs ys zs : List ℕ) → Adding P (IsUserAmong y from count) xs ys → Adds (IsUser (Result y from) w.store.module_of.tree) ys zs → Adding P (IsUserAmong y (from + 1) count) xs zs
  users_more P y from count xs ys zs a b =
      adding_more P (IsUserAmong y from count) (IsUser (Result y from) w.store.module_of.tree) (IsUserAmong y (from + 1) count) xs ys zs
      (λ x q. elim (bool_cases (eqb q.0 from)) [
        | inl e ↦ inl (subst (λ k. IsUser (Result y k) w.store.module_of.tree x) (eqb-true q.0 from e) q.3)
        | inr e ↦ inr (q.0, later q.0 q.1 (λ i. true≢false (sym (eq-eqb q.0 from i) ∙ e)), q.2, q.3)
      ]) a b
    where
      later : (k : ℕ) → from ≤ k → (k ≡ from → ⊥) → from + 1 ≤ k
      later k l apart = omega (arith, l, apart)

  pub users_end : (P : ℕ → Type 0) (y from count : ℕ) (xs ys : List ℕ) → count ≤ from → Adding P (IsUserAmong y from count) xs ys → Adds P xs ys
  users_end P y from count xs ys l a = adding_done P (IsUserAmong y from count) xs ys (λ x q. let low = q.1 in let high = q.2 in omega (arith, low, high, l)) a

-- the listed uses are the uses of the value
pub are_users : (v : Value) (t : Op) (us : List (ℕ × ℕ)) → AreUses v t us → (x : ℕ) → IsUser v t x → IsIn us x
are_users v t us a x u = (u.0, a.same x u.0 ∙ u.1)

-- a walk over uses
pub uses_begin : (whole us : List (ℕ × ℕ)) (xs : List ℕ) → us ≡ whole → Adding (IsIn whole) (IsIn us) xs xs
uses_begin whole us xs e = adding_none (IsIn whole) (IsIn us) xs (λ x h. subst (λ l. IsIn l x) (sym e) h)

pub uses_more : (P : ℕ → Type 0) (u : ℕ × ℕ) (left rest : List (ℕ × ℕ)) (xs ys zs : List ℕ) → left ≡ u ∷ rest → Adding P (IsIn left) xs ys → Adds (λ x. x ≡ u.0) ys zs → Adding P (IsIn rest) xs zs
uses_more P u left rest xs ys zs e a b =
    adding_more P (IsIn (u ∷ rest)) (λ x. x ≡ u.0) (IsIn rest) xs ys zs (λ x q. split x q.0 (bool_cases (same_use u (x, q.0))) q.1)
    (subst (λ l. Adding P (IsIn l) xs ys) e a) b
  where
    preceding : (a b : Bool) → (a && b) ≡ true → a ≡ true
    preceding true b e = refl
    preceding false b e = absurd (true≢false (sym e))

    split : (x j : ℕ) → (same_use u (x, j) ≡ true) ⊎ (same_use u (x, j) ≡ false) → is_use x j (u ∷ rest) ≡ true → (x ≡ u.0) ⊎ IsIn rest x
    split x j (inl i) h = inl (sym (eqb-true u.0 x (preceding (eqb u.0 x) (eqb u.1 j) i)))
    split x j (inr i) h = inr (j, sym (ap (λ b. b || is_use x j rest) i) ∙ h)

pub uses_end : (P : ℕ → Type 0) (left : List (ℕ × ℕ)) (xs ys : List ℕ) → left ≡ [] → Adding P (IsIn left) xs ys → Adds P xs ys
uses_end P left xs ys e a = adding_done P (IsIn []) xs ys (λ x q. true≢false (sym q.1)) (subst (λ l. Adding P (IsIn l) xs ys) e a)
