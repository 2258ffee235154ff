-- The uses that the module lists by value are the uses about a subject.
use Rattle.std.proofs.Common.{◌≡◌, refl, ap, sym, ◌∙◌, subst, ℕ, zero, suc, ◌+◌, ◌<◌, ◌≤◌, Bool, true, false, true≢false, ◌&&◌, ◌||◌, cond, eqb, eq-eqb, eqb-true, List, [], ◌∷◌, ◌++◌, length, map, filter, Option, Some, None, inl, inr, ◌⊎◌, arith}
use Rattle.std.specs.Prelude.{option_map, option_and_then, is_some, slice_get}
use Rattle.std.specs.List.{AllByRecursion, IsDistinct, list_all}
use Rattle.std.proofs.lemmas.List.{map-append}
use Rattle.std.proofs.lemmas.List.Elements.{filter-append}
use Rattle.ir_event.specs.trees.declared.value.Value.{Value}
use Rattle.ir_event.specs.trees.declared.value.Value.TheVariants.{Result, Arg}
use Rattle.ir_event.specs.trees.Frames.{owner_of}
use Rattle.ir_event.specs.trees.Ids.{HasDistinctIds, find, ids}
use Rattle.ir_event.specs.trees.Meaning.{isolated_in}
use Rattle.ir_event.specs.trees.Tree.{Op, OpOf, op, RegionsOf, no_regions, region, RegionOf, head, regions}
use Rattle.ir_event.specs.trees.Uses.{same_value, uses_of}
use Rattle.ir_event.specs.trees.Uses as uses
use Rattle.ir_event.specs.store.Nodes.{NodeOf, node_of, regions_arguments}
use Rattle.ir_event.specs.store.Using.{AreUses, EachOnce, is_use, same_use}
use Rattle.ir_event.specs.tree_laws.Members.{In}
use Rattle.ir_event.specs.tree_laws.Stands.{OpWithPathOf, op_with_path_id, stands, gather, dominated_by}
use Rattle.ir_event.specs.tree_laws.Values.{arguments_of, arguments_at, has_value, region_at}
use Rattle.ir_event.specs.declared.world.World.{World}
use Rattle.ir_event.specs.declared.subject.Subject.{Subject}
use Rattle.ir_event.specs.declared.subject.Subject.TheVariants as subject
use Rattle.ir_event.proofs.of_trees.Replaced.{same_value_true, same_value_refl}
use Rattle.ir_event.proofs.of_tree_laws.Listed.{all_each, bool_cases, both, both_hold, either, in_filter, in_filtered, in_left, in_map, in_mapped, in_parts, in_right}
use Rattle.ir_event.proofs.of_tree_laws.Readings.{stands_ids, stands_uses}
use Rattle.ir_event.proofs.of_tree_laws.Values.{seen_by}
use Rattle.ir_event.proofs.of_tree_laws.Wellformed.{from_wellformed}
use Rattle.listeners.specs.declared.key.Use.{Use}
use Rattle.listeners.specs.About.{AreUsesOf, about, argument_count, arguments_from, is_use_about, region_arguments, results_from, use_with, values_about, values_found, values_of}
use Rattle.listeners.specs.Uses.{all_uses, in_order, operand_uses, uses_in}
use Rattle.listeners.proofs.Cutting.{uses_stands}
use Rattle.listeners.proofs.Filtered.{Once, filter_order, once_filter, once_joined, same_order}

-- ---- the uses of a tree

-- whether a use is of a value
abbrev is_of : Value → Use → Bool
is_of v u = same_value v u.value

operands_with : (v : Value) (x k : ℕ) (vs : List Value) → map (use_with v) (uses.operand_uses v x k vs) ≡ filter (is_of v) (operand_uses x k vs)
operands_with v x k [] = refl
operands_with v x k (w ∷ ws) = go (operands_with v x (k + 1) ws) (same_value v w) refl
  where
    go : map (use_with v) (uses.operand_uses v x (k + 1) ws) ≡ filter (is_of v) (operand_uses x (k + 1) ws) → (b : Bool) → same_value v w ≡ b
        → map (use_with v) (cond b ((x, k) ∷ uses.operand_uses v x (k + 1) ws) (uses.operand_uses v x (k + 1) ws)) ≡ cond b (record { value = w; user = x; operand = k } ∷ filter (is_of v) (operand_uses x (k + 1) ws)) (filter (is_of v) (operand_uses x (k + 1) ws))
    go rest true e = λ i. record { value = same_value_true v w e i; user = x; operand = k } ∷ rest i
    go rest false e = rest

-- the uses of an operation
abbrev own : OpWithPathOf ℕ ℕ ℕ → List Use
own s = operand_uses (op_with_path_id s) 0 (head s.here).operands

abbrev own_of : Value → OpWithPathOf ℕ ℕ ℕ → List (ℕ × ℕ)
own_of v s = uses.operand_uses v (op_with_path_id s) 0 (head s.here).operands

gathered_with : (v : Value) (ss : List (OpWithPathOf ℕ ℕ ℕ)) → map (use_with v) (gather (own_of v) ss) ≡ filter (is_of v) (gather own ss)
gathered_with v [] = refl
gathered_with v (s ∷ ss) =
    map-append (use_with v) (own_of v s) (gather (own_of v) ss)
    ∙ (λ i. operands_with v (op_with_path_id s) 0 (head s.here).operands i ++ gathered_with v ss i)
    ∙ sym (filter-append (is_of v) (own s) (gather own ss))

-- the uses of a value are among the uses of the tree
uses_with : (v : Value) (t : Op) → map (use_with v) (uses_of v t) ≡ filter (is_of v) (uses_in t)
uses_with v t = ap (map (use_with v)) (sym (stands_uses v [] t)) ∙ gathered_with v (stands [] t) ∙ ap (filter (is_of v)) (uses_stands [] t)

-- each use of a tree is there once
in_operands : (u : Use) (x k : ℕ) (vs : List Value) → In u (operand_uses x k vs) → (u.user ≡ x) × (k ≤ u.operand)
in_operands u x k [] h = absurd h
in_operands u x k (v ∷ vs) (inl e) = (ap (λ (w : Use). w.user) e, (let o : u.operand ≡ k = ap (λ (w : Use). w.operand) e in omega (arith, o)))
in_operands u x k (v ∷ vs) (inr h) = (let r = in_operands u x (k + 1) vs h in (r.0, (let l = r.1 in omega (arith, l))))

once_operands : (x k : ℕ) (vs : List Value) → Once (operand_uses x k vs)
once_operands x k [] = tt
once_operands x k (v ∷ vs) =
    ((λ h. (let l : k + 1 ≤ k = (in_operands (record { value = v; user = x; operand = k }) x (k + 1) vs h).1 in absurd (omega (arith, l)))), once_operands x (k + 1) vs)

-- no operation of the list has id x
abbrev Lacks : ℕ → List (OpWithPathOf ℕ ℕ ℕ) → Type 0
Lacks x [] = Unit {0}
Lacks x (s ∷ ss) = (x ≡ op_with_path_id s → ⊥) × Lacks x ss

abbrev Apart : List (OpWithPathOf ℕ ℕ ℕ) → Type 0
Apart [] = Unit {0}
Apart (s ∷ ss) = Lacks (op_with_path_id s) ss × Apart ss

not_gathered : (u : Use) (ss : List (OpWithPathOf ℕ ℕ ℕ)) → Lacks u.user ss → In u (gather own ss) → ⊥
not_gathered u [] l h = h
not_gathered u (s ∷ ss) l h = elim (in_parts u (own s) (gather own ss) h) [
  | inl k ↦ l.0 (in_operands u (op_with_path_id s) 0 (head s.here).operands k).0
  | inr k ↦ not_gathered u ss l.1 k
]

once_gathered : (ss : List (OpWithPathOf ℕ ℕ ℕ)) → Apart ss → Once (gather own ss)
once_gathered [] a = tt
once_gathered (s ∷ ss) a =
    once_joined (own s) (gather own ss) (once_operands (op_with_path_id s) 0 (head s.here).operands) (once_gathered ss a.1)
    (λ u h k. not_gathered u ss (subst (λ x. Lacks x ss) (sym (in_operands u (op_with_path_id s) 0 (head s.here).operands h).0) a.0) k)

apart_ids : (ss : List (OpWithPathOf ℕ ℕ ℕ)) → IsDistinct eqb (map (λ (s : OpWithPathOf ℕ ℕ ℕ). op_with_path_id s) ss) → Apart ss
unfolding IsDistinct
apart_ids [] d = tt
apart_ids (s ∷ ss) d = (lacks (op_with_path_id s) ss d.0, apart_ids ss d.1)
  where
    lacks : (x : ℕ) (ss : List (OpWithPathOf ℕ ℕ ℕ)) → AllByRecursion (λ y. eqb x y ≡ false) (map (λ (s : OpWithPathOf ℕ ℕ ℕ). op_with_path_id s) ss) → Lacks x ss
    lacks x [] a = tt
    lacks x (u ∷ us) a = ((λ e. true≢false (sym (eq-eqb x (op_with_path_id u) e) ∙ a.0)), lacks x us a.1)

once_uses : (t : Op) → HasDistinctIds t → Once (uses_in t)
once_uses t d = subst (λ (l : List Use). Once l) (uses_stands [] t) (once_gathered (stands [] t) (apart_ids (stands [] t) (subst (IsDistinct eqb) (sym (stands_ids [] t)) d)))

-- ---- the listed uses of a value
is_use_in : (p : ℕ × ℕ) (ps : List (ℕ × ℕ)) → is_use p.0 p.1 ps ≡ true → In p ps
is_use_in p [] e = absurd (true≢false (sym e))
is_use_in p (q ∷ qs) e = elim (either (same_use q (p.0, p.1)) (is_use p.0 p.1 qs) e) [
  | inl h ↦ (let b = both (eqb q.0 p.0) (eqb q.1 p.1) h in inl (λ i. (sym (eqb-true q.0 p.0 b.0) i, sym (eqb-true q.1 p.1 b.1) i)))
  | inr h ↦ inr (is_use_in p qs h)
]

in_is_use : (p : ℕ × ℕ) (ps : List (ℕ × ℕ)) → In p ps → is_use p.0 p.1 ps ≡ true
in_is_use p [] h = absurd h
in_is_use p (q ∷ qs) (inl e) =
    ap (λ b. b || is_use p.0 p.1 qs) (both_hold (eqb q.0 p.0) (eqb q.1 p.1) (eq-eqb q.0 p.0 (ap (λ (z : ℕ × ℕ). z.0) (sym e))) (eq-eqb q.1 p.1 (ap (λ (z : ℕ × ℕ). z.1) (sym e))))
in_is_use p (q ∷ qs) (inr h) = later (same_use q (p.0, p.1)) (in_is_use p qs h)
  where
    later : (b : Bool) → is_use p.0 p.1 qs ≡ true → (b || is_use p.0 p.1 qs) ≡ true
    later true e = refl
    later false e = e

same_pair : (v : Value) (p q : ℕ × ℕ) → use_with v p ≡ use_with v q → p ≡ q
same_pair v p q e = λ i. (ap (λ (u : Use). u.user) e i, ap (λ (u : Use). u.operand) e i)

once_with : (v : Value) (ps : List (ℕ × ℕ)) → EachOnce ps → Once (map (use_with v) ps)
once_with v [] o = tt
once_with v (p ∷ ps) o =
    ((λ h. (let m = in_mapped (use_with v) (use_with v p) ps h in true≢false (sym (in_is_use p ps (subst (λ z. In z ps) (sym (same_pair v p m.0 m.2)) m.1)) ∙ o.0))), once_with v ps o.1)

module _ (t : Op) where
  -- the listed uses of a value are its uses
  listed_in : (v : Value) (ps : List (ℕ × ℕ)) → AreUses v t ps → (u : Use) → In u (map (use_with v) ps) → In u (uses_in t) × (v ≡ u.value)
  listed_in v ps are u h =
      let m = in_mapped (use_with v) u ps h in
      let there : In m.0 (uses_of v t) = is_use_in m.0 (uses_of v t) (sym (are.same m.0.0 m.0.1) ∙ in_is_use m.0 ps m.1) in
      let mine : In u (filter (is_of v) (uses_in t)) = subst (λ z. In z (filter (is_of v) (uses_in t))) (sym m.2) (subst (In (use_with v m.0)) (uses_with v t) (in_map (use_with v) m.0 (uses_of v t) there)) in
      let f = in_filtered (is_of v) u (uses_in t) mine in
      (f.0, same_value_true v u.value f.1)

  in_listed : (v : Value) (ps : List (ℕ × ℕ)) → AreUses v t ps → (u : Use) → In u (uses_in t) → v ≡ u.value → In u (map (use_with v) ps)
  in_listed v ps are u h e =
      let mine : In u (filter (is_of v) (uses_in t)) = in_filter (is_of v) u (uses_in t) (subst (λ w. same_value v w ≡ true) e (same_value_refl v)) h in
      let m = in_mapped (use_with v) u (uses_of v t) (subst (In u) (sym (uses_with v t)) mine) in
      let there : In m.0 ps = is_use_in m.0 ps (are.same m.0.0 m.0.1 ∙ in_is_use m.0 (uses_of v t) m.1) in
      subst (λ z. In z (map (use_with v) ps)) (sym m.2) (in_map (use_with v) m.0 ps there)

  -- the same for several values
  all_listed_in : (vs : List Value) (us : List Use) → AreUsesOf vs t us → (u : Use) → In u us → In u (uses_in t) × In u.value vs
  all_listed_in [] us a u h = absurd (subst (In u) a h)
  all_listed_in (v ∷ vs) us a u h = elim (in_parts u (map (use_with v) a.0) a.1 (subst (In u) a.4 h)) [
    | inl k ↦ (let r = listed_in v a.0 a.2 u k in (r.0, inl (sym r.1)))
    | inr k ↦ (let r = all_listed_in vs a.1 a.3 u k in (r.0, inr r.1))
  ]

  in_all_listed : (vs : List Value) (us : List Use) → AreUsesOf vs t us → (u : Use) → In u (uses_in t) → In u.value vs → In u us
  in_all_listed [] us a u h k = absurd k
  in_all_listed (v ∷ vs) us a u h (inl e) = subst (In u) (sym a.4) (in_left u (map (use_with v) a.0) a.1 (in_listed v a.0 a.2 u h (sym e)))
  in_all_listed (v ∷ vs) us a u h (inr k) = subst (In u) (sym a.4) (in_right u (map (use_with v) a.0) a.1 (in_all_listed vs a.1 a.3 u h k))

  once_listed : (vs : List Value) (us : List Use) → AreUsesOf vs t us → Once vs → Once us
  once_listed [] us a o = subst (λ (l : List Use). Once l) (sym a) tt
  once_listed (v ∷ vs) us a o =
      subst (λ (l : List Use). Once l) (sym a.4)
      (once_joined (map (use_with v) a.0) a.1 (once_with v a.0 a.2.once) (once_listed vs a.1 a.3 o.1)
      (λ u h k. o.0 (subst (λ w. In w vs) (sym (listed_in v a.0 a.2 u h).1) (all_listed_in vs a.1 a.3 u k).1)))

-- ---- the values about a subject
below : {X : Type 0} (xs : List X) (k : ℕ) → is_some (slice_get xs k) ≡ true → k < length xs
below [] k e = absurd (true≢false (sym e))
below (x ∷ xs) zero e = omega arith
below (x ∷ xs) (suc k) e = omega (arith, below xs k e)

-- whether an operation has a value, by its index
abbrev has_here : Value → Op → Bool
has_here (Result y k) o = is_some (slice_get (head o).results k)
has_here (Arg y r k) o = is_some (option_and_then (λ args. slice_get args k) (arguments_at r o))

module _ (x : ℕ) where
  in_results : (v : Value) (k n : ℕ) → In v (results_from x k n) → (j : ℕ) × (v ≡ Result x j) × (k ≤ j)
  in_results v k zero h = absurd h
  in_results v k (suc n) (inl e) = (k, e, omega arith)
  in_results v k (suc n) (inr h) = (let r = in_results v (k + 1) n h in (r.0, r.1, (let l = r.2 in omega (arith, l))))

  result_in : (j k n : ℕ) → k ≤ j → j < k + n → In (Result x j) (results_from x k n)
  result_in j k zero l m = absurd (omega (arith, l, m))
  result_in j k (suc n) l m = elim (bool_cases (eqb j k)) [
    | inl e ↦ inl (ap (Result x) (eqb-true j k e))
    | inr e ↦ inr (let ne : j ≡ k → ⊥ = λ i. true≢false (sym (eq-eqb j k i) ∙ e) in result_in j (k + 1) n (omega (arith, l, ne)) (omega (arith, m)))
  ]

  once_results : (k n : ℕ) → Once (results_from x k n)
  once_results k zero = tt
  once_results k (suc n) =
      ((λ h. (let r = in_results (Result x k) (k + 1) n h in let e : Result x k ≡ Result x r.0 = r.1 in let same : k ≡ r.0 = cc in let l = r.2 in absurd (omega (arith, same, l)))), once_results (k + 1) n)

  module _ (r : ℕ) where
    in_arguments : (v : Value) (k n : ℕ) → In v (arguments_from x r k n) → (j : ℕ) × (v ≡ Arg x r j) × (k ≤ j)
    in_arguments v k zero h = absurd h
    in_arguments v k (suc n) (inl e) = (k, e, omega arith)
    in_arguments v k (suc n) (inr h) = (let q = in_arguments v (k + 1) n h in (q.0, q.1, (let l = q.2 in omega (arith, l))))

    argument_in : (j k n : ℕ) → k ≤ j → j < k + n → In (Arg x r j) (arguments_from x r k n)
    argument_in j k zero l m = absurd (omega (arith, l, m))
    argument_in j k (suc n) l m = elim (bool_cases (eqb j k)) [
      | inl e ↦ inl (ap (Arg x r) (eqb-true j k e))
      | inr e ↦ inr (let ne : j ≡ k → ⊥ = λ i. true≢false (sym (eq-eqb j k i) ∙ e) in argument_in j (k + 1) n (omega (arith, l, ne)) (omega (arith, m)))
    ]

    once_arguments : (k n : ℕ) → Once (arguments_from x r k n)
    once_arguments k zero = tt
    once_arguments k (suc n) =
        ((λ h. (let q = in_arguments (Arg x r k) (k + 1) n h in let e : Arg x r k ≡ Arg x r q.0 = q.1 in let same : k ≡ q.0 = cc in let l = q.2 in absurd (omega (arith, same, l)))), once_arguments (k + 1) n)

  module _ {T : Type 0} where
    in_regions : (v : Value) (r : ℕ) (ls : List (Option (List T))) → In v (region_arguments x r ls) → (s j : ℕ) × (v ≡ Arg x s j) × (r ≤ s)
    in_regions v r [] h = absurd h
    in_regions v r (a ∷ ls) h = elim (in_parts v (arguments_from x r 0 (argument_count a)) (region_arguments x (r + 1) ls) h) [
      | inl k ↦ (let q = in_arguments r v 0 (argument_count a) k in (r, q.0, q.1, omega arith))
      | inr k ↦ (let q = in_regions v (r + 1) ls k in (q.0, q.1, q.2, (let l = q.3 in omega (arith, l))))
    ]

    once_regions : (r : ℕ) (ls : List (Option (List T))) → Once (region_arguments x r ls)
    once_regions r [] = tt
    once_regions r (a ∷ ls) =
        once_joined (arguments_from x r 0 (argument_count a)) (region_arguments x (r + 1) ls) (once_arguments r 0 (argument_count a)) (once_regions (r + 1) ls)
        (λ v h k. (let q = in_arguments r v 0 (argument_count a) h in
        let p = in_regions v (r + 1) ls k in
        let e : Arg x r q.0 ≡ Arg x p.0 p.1 = sym q.1 ∙ p.2 in
        let same : r ≡ p.0 = cc in
        let l = p.3 in
        absurd (omega (arith, same, l))))

  once_values : (n : NodeOf ℕ ℕ ℕ) → Once (values_of x n)
  once_values n =
      once_joined (results_from x 0 (length n.head.results)) (region_arguments x 0 n.arguments) (once_results 0 (length n.head.results)) (once_regions 0 n.arguments)
      (λ v h k. (let q = in_results v 0 (length n.head.results) h in
      let p = in_regions v 0 n.arguments k in
      let bad : Result x q.0 ≡ Arg x p.0 p.1 = sym q.1 ∙ p.2 in
      absurd cc))

  -- the values are of the operation
  values_own : (n : NodeOf ℕ ℕ ℕ) (v : Value) → In v (values_of x n) → (owner_of v).0 ≡ x
  values_own n v h = elim (in_parts v (results_from x 0 (length n.head.results)) (region_arguments x 0 n.arguments) h) [
    | inl k ↦ ap (λ w. (owner_of w).0) (in_results v 0 (length n.head.results) k).1
    | inr k ↦ ap (λ w. (owner_of w).0) (in_regions v 0 n.arguments k).2
  ]

  -- the values of an operation of a tree
  argument_there : (r j : ℕ) (s : ℕ) (rs : RegionsOf ℕ ℕ ℕ) → is_some (option_and_then (λ args. slice_get args j) (option_and_then arguments_of (region_at r rs))) ≡ true → In (Arg x (s + r) j) (region_arguments x s (regions_arguments rs))
  argument_there r j s no_regions e = absurd (true≢false (sym e))
  argument_there zero j s (region g rs) e = go (arguments_of g) refl e
    where
      go : (a : Option (List ℕ)) → arguments_of g ≡ a → is_some (option_and_then (λ args. slice_get args j) a) ≡ true → In (Arg x (s + zero) j) (region_arguments x s (arguments_of g ∷ regions_arguments rs))
      go None i e = absurd (true≢false (sym e))
      go (Some args) i e =
          let few = below args j e in
          let count : argument_count (arguments_of g) ≡ length args = ap argument_count i in
          let at : s + 0 ≡ s = omega arith in
          in_left (Arg x (s + zero) j) (arguments_from x s 0 (argument_count (arguments_of g))) (region_arguments x (s + 1) (regions_arguments rs))
          (subst (λ z. In (Arg x z j) (arguments_from x s 0 (argument_count (arguments_of g)))) (sym at) (argument_in s j 0 (argument_count (arguments_of g)) (omega arith) (omega (arith, few, count))))
  argument_there (suc r) j s (region g rs) e =
      let at : (s + 1) + r ≡ s + suc r = omega arith in
      in_right (Arg x (s + suc r) j) (arguments_from x s 0 (argument_count (arguments_of g))) (region_arguments x (s + 1) (regions_arguments rs))
      (subst (λ z. In (Arg x z j) (region_arguments x (s + 1) (regions_arguments rs))) at (argument_there r j (s + 1) rs e))

  value_there : (v : Value) (o : Op) → (owner_of v).0 ≡ x → has_here v o ≡ true → In v (values_of x (node_of o))
  value_there (Result y k) (op h rs) e i =
      let few = below h.results k i in
      in_left (Result y k) (results_from x 0 (length h.results)) (region_arguments x 0 (regions_arguments rs))
      (subst (λ z. In (Result z k) (results_from x 0 (length h.results))) (sym e) (result_in k 0 (length h.results) (omega arith) (omega (arith, few))))
  value_there (Arg y r k) (op h rs) e i =
      in_right (Arg y r k) (results_from x 0 (length h.results)) (region_arguments x 0 (regions_arguments rs))
      (subst (λ z. In (Arg z r k) (region_arguments x 0 (regions_arguments rs))) (sym e)
      (subst (λ s. In (Arg x s k) (region_arguments x 0 (regions_arguments rs))) (let at : 0 + r ≡ r = omega arith in at) (argument_there r k 0 rs i)))

  value_found : (v : Value) (t : Op) → (owner_of v).0 ≡ x → has_value v t ≡ true → In v (values_found x (option_map node_of (find x t)))
  value_found (Result y k) t e h = go (find x t) refl
    where
      there : is_some (option_and_then (λ (o : Op). slice_get (head o).results k) (find x t)) ≡ true
      there = subst (λ z. is_some (option_and_then (λ (o : Op). slice_get (head o).results k) (find z t)) ≡ true) e h

      go : (o : Option Op) → find x t ≡ o → In (Result y k) (values_found x (option_map node_of o))
      go None i = absurd (true≢false (sym there ∙ ap (λ f. is_some (option_and_then (λ (o : Op). slice_get (head o).results k) f)) i))
      go (Some o) i = value_there (Result y k) o e (sym (ap (λ f. is_some (option_and_then (λ (o : Op). slice_get (head o).results k) f)) i) ∙ there)
  value_found (Arg y r k) t e h = go (find x t) refl
    where
      there : is_some (option_and_then (λ (o : Op). option_and_then (λ args. slice_get args k) (arguments_at r o)) (find x t)) ≡ true
      there = subst (λ z. is_some (option_and_then (λ (o : Op). option_and_then (λ args. slice_get args k) (arguments_at r o)) (find z t)) ≡ true) e h

      go : (o : Option Op) → find x t ≡ o → In (Arg y r k) (values_found x (option_map node_of o))
      go None i = absurd (true≢false (sym there ∙ ap (λ f. is_some (option_and_then (λ (o : Op). option_and_then (λ args. slice_get args k) (arguments_at r o)) f)) i))
      go (Some o) i = value_there (Arg y r k) o e (sym (ap (λ f. is_some (option_and_then (λ (o : Op). option_and_then (λ args. slice_get args k) (arguments_at r o)) f)) i) ∙ there)

-- the values about a subject are there once, and are about it
once_found : (x : ℕ) (o : Option (NodeOf ℕ ℕ ℕ)) → Once (values_found x o)
once_found x None = tt
once_found x (Some n) = once_values x n

once_about : (s : Subject) (t : Op) → Once (values_about s t)
once_about (subject.Op x) t = once_found x (option_map node_of (find x t))
once_about (subject.Val v) t = ((λ h. h), tt)

found_own : (x : ℕ) (o : Option (NodeOf ℕ ℕ ℕ)) (v : Value) → In v (values_found x o) → (owner_of v).0 ≡ x
found_own x None v h = absurd h
found_own x (Some n) v h = values_own x n v h

used_about : (s : Subject) (t : Op) (u : Use) → In u.value (values_about s t) → is_use_about s u ≡ true
used_about (subject.Op x) t u h = eq-eqb (owner_of u.value).0 x (found_own x (option_map node_of (find x t)) u.value h)
used_about (subject.Val v) t u (inl e) = subst (λ w. same_value w v ≡ true) (sym e) (same_value_refl v)
used_about (subject.Val v) t u (inr h) = absurd h

-- ---- the uses of a module
gathered : {X Y : Type 0} (f : X → List Y) (y : Y) (xs : List X) → In y (gather f xs) → (x : X) × In x xs × In y (f x)
gathered f y [] h = absurd h
gathered f y (x ∷ xs) h = elim (in_parts y (f x) (gather f xs) h) [ inl a ↦ (x, inl refl, a) | inr b ↦ (let r = gathered f y xs b in (r.0, inr r.1, r.2)) ]

operand_of : (u : Use) (x k : ℕ) (vs : List Value) → In u (operand_uses x k vs) → In u.value vs
operand_of u x k [] h = absurd h
operand_of u x k (v ∷ vs) (inl e) = inl (ap (λ (w : Use). w.value) e)
operand_of u x k (v ∷ vs) (inr h) = inr (operand_of u x (k + 1) vs h)

module _ (w : World) where
  -- the value of a use is in the module
  used_value : (u : Use) → In u (uses_in w.store.module_of.tree) → has_value u.value w.store.module_of.tree ≡ true
  used_value u h =
      let t = w.store.module_of.tree in
      let isolated = isolated_in w.ctx in
      let g = gathered own u (stands [] t) (subst (In u) (sym (uses_stands [] t)) h) in
      let operand = operand_of u (op_with_path_id g.0) 0 (head g.0.here).operands g.2 in
      let dominated = all_each (dominated_by isolated g.0.path) (head g.0.here).operands ((from_wellformed isolated w.store.module_of.tree w.wellformed.wellformed).dominated_by_own g.0 g.1) u.value operand in
      (seen_by isolated t w.wellformed.distinct g.0 g.1 u.value dominated).is

  value_about : (s : Subject) (u : Use) → In u (uses_in w.store.module_of.tree) → is_use_about s u ≡ true → In u.value (values_about s w.store.module_of.tree)
  value_about (subject.Op x) u h e = value_found x u.value w.store.module_of.tree (eqb-true (owner_of u.value).0 x e) (used_value u h)
  value_about (subject.Val v) u h e = inl (same_value_true u.value v e)

  -- the listed uses of the values about a subject, in order, are the ordered uses about it
  pub all_about : (s : Subject) (us : List Use) → AreUsesOf (values_about s w.store.module_of.tree) w.store.module_of.tree us → in_order us ≡ about s (all_uses w.store.module_of.tree)
  all_about s us are =
      let t = w.store.module_of.tree in
      let vs = values_about s t in
      same_order us (filter (is_use_about s) (uses_in t)) (once_listed t vs us are (once_about s t)) (once_filter (is_use_about s) (uses_in t) (once_uses t w.wellformed.distinct))
      (λ u h. (let r = all_listed_in t vs us are u h in in_filter (is_use_about s) u (uses_in t) (used_about s t u r.1) r.0))
      (λ u h. (let f = in_filtered (is_use_about s) u (uses_in t) h in in_all_listed t vs us are u f.0 (value_about s u f.0 f.1)))
      ∙ sym (filter_order (is_use_about s) (uses_in t))
