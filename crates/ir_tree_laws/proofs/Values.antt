-- A visible value is a value of the tree. Its owner is an earlier operation, or an ancestor.
use Rattle.std.proofs.Common.{◌≡◌, refl, ap, sym, ◌∙◌, subst, ℕ, zero, suc, ◌+◌, ◌<◌, Bool, true, true≢false, not, ◌&&◌, eqb, eqb-true, List, [], ◌∷◌, ◌++◌, length, Some, inl, inr, ◌⊎◌, arith}
use Rattle.std.specs.Prelude.{nat_lt, is_some, slice_get, option_and_then}
use Rattle.std.specs.List.{list_any}
use Rattle.std.proofs.lemmas.Bool.{ltb-true}
use Rattle.ir_tree.specs.declared.value.Value.{Value}
use Rattle.ir_tree.specs.declared.value.Value.TheVariants.{Result, Arg}
use Rattle.ir_tree.specs.Tree.{OpOf, op, RegionsOf, no_regions, region, RegionOf, empty, block, OpsOf, no_ops, next, head, regions}
use Rattle.ir_tree.specs.Ids.{HasDistinctIds, find}
use Rattle.ir_tree.specs.Frames.{owner_of}
use Rattle.ir_tree.specs.Sites.{arguments, shows, results_of}
use Rattle.ir_tree_laws.specs.Values.{region_at, arguments_of, arguments_at, has_value}
use Rattle.ir_tree_laws.specs.Stands.{StepOf, OpWithPathOf, op_with_path_id, stands, regions_stands, region_stands, ops_stands, dominated_by}
use Rattle.ir_tree_laws.specs.Members.{In}
use Rattle.ir_tree_laws.proofs.Listed.{in_parts, one_any, both, either}
use Rattle.ir_tree_laws.proofs.Readings.{step}
use Rattle.ir_tree_laws.proofs.Members.{stand, within, joined_ops, ops_child, stand_found, same_stand}
use Rattle.ir_tree_laws.proofs.Around.{around_there}
use Rattle.ir_tree_laws.proofs.Put.{child}

pub got : {X : Type 0} (xs : List X) (k : ℕ) → k < length xs → is_some (slice_get xs k) ≡ true
got [] k h = absurd (omega (arith, h))
got (x ∷ xs) zero h = refl
got (x ∷ xs) (suc k) h = got xs k (omega (arith, h))

module _ {N T A : Type 0} where
  -- each path is consistent: its lists are those of its blocks
  abbrev pub ShapeOf : OpWithPathOf N T A → Type 0
  ShapeOf s = (a : StepOf N T A) × (q : List (StepOf N T A)) × (s.path ≡ a ∷ q) × (region_at a.region (regions a.parent) ≡ Some (block a.args (joined_ops a.preceding (next s.here a.rest))))

  pub joined_more : (preceding : List (OpOf N T A)) (o : OpOf N T A) (os : OpsOf N T A) → joined_ops (preceding ++ o ∷ []) os ≡ joined_ops preceding (next o os)
  joined_more [] o os = refl
  joined_more (f ∷ fs) o os = ap (next f) (joined_more fs o os)

  mutual
    pub op_shape : (b : List (StepOf N T A)) (t : OpOf N T A) (s : OpWithPathOf N T A) → In s (stands b t) → (s ≡ stand t b) ⊎ ShapeOf s
    op_shape b (op h rs) s (inl e) = inl e
    op_shape b (op h rs) s (inr k) = inr (regions_shape (op h rs) b 0 rs s k (λ j g e. let n : 0 + j ≡ j = omega arith in ap (λ i. region_at i rs) n ∙ e))

    regions_shape : (p : OpOf N T A) (b : List (StepOf N T A)) (r : ℕ) (rs : RegionsOf N T A) (s : OpWithPathOf N T A) → In s (regions_stands p b r rs) → ((j : ℕ) (g : RegionOf N T A) → region_at j rs ≡ Some g → region_at (r + j) (regions p) ≡ Some g) → ShapeOf s
    regions_shape p b r no_regions s k f = absurd k
    regions_shape p b r (region g rs) s k f = elim (in_parts s (region_stands p b r g) (regions_stands p b (r + 1) rs) k) [
      | inl l ↦ (let n : r ≡ r + 0 = omega arith in region_shape p b r g s l (ap (λ i. region_at i (regions p)) n ∙ f 0 g refl))
      | inr l ↦ regions_shape p b (r + 1) rs s l (λ j u e. let n : r + 1 + j ≡ r + suc j = omega arith in ap (λ i. region_at i (regions p)) n ∙ f (suc j) u e)
    ]

    region_shape : (p : OpOf N T A) (b : List (StepOf N T A)) (r : ℕ) (g : RegionOf N T A) (s : OpWithPathOf N T A) → In s (region_stands p b r g) → region_at r (regions p) ≡ Some g → ShapeOf s
    region_shape p b r empty s k e = absurd k
    region_shape p b r (block args os) s k e = ops_shape p b r args [] os s k e

    ops_shape : (p : OpOf N T A) (b : List (StepOf N T A)) (r : ℕ) (args : List T) (preceding : List (OpOf N T A)) (os : OpsOf N T A) (s : OpWithPathOf N T A) → In s (ops_stands p b r args preceding os) → region_at r (regions p) ≡ Some (block args (joined_ops preceding os)) → ShapeOf s
    ops_shape p b r args preceding no_ops s k e = absurd k
    ops_shape p b r args preceding (next o os) s k e = elim (in_parts s (stands (step p r args preceding os ∷ b) o) (ops_stands p b r args (preceding ++ o ∷ []) os) k) [
      | inl l ↦ elim (op_shape (step p r args preceding os ∷ b) o s l) [
        | inl i ↦ (step p r args preceding os, b, ap (λ (z : OpWithPathOf N T A). z.path) i, e ∙ ap (λ (z : OpWithPathOf N T A). Some (block args (joined_ops preceding (next z.here os)))) (sym i))
        | inr w ↦ w
      ]
      | inr l ↦ ops_shape p b r args (preceding ++ o ∷ []) os s l (e ∙ ap (λ z. Some (block args z)) (sym (joined_more preceding o os)))
    ]

  pub shaped_as : (t o : OpOf N T A) (a : StepOf N T A) (q : List (StepOf N T A)) → In (stand o (a ∷ q)) (stands [] t) → region_at a.region (regions a.parent) ≡ Some (block a.args (joined_ops a.preceding (next o a.rest)))
  shaped_as t o a q h = elim (op_shape [] t (stand o (a ∷ q)) h) [
    | inl k ↦ (let bad : a ∷ q ≡ [] = ap (λ (z : OpWithPathOf N T A). z.path) k in absurd cc)
    | inr w ↦ (let same : a ∷ q ≡ w.0 ∷ w.1 = w.2 in
        let first : w.0 ≡ a = cc in
        subst (λ (z : StepOf N T A). region_at z.region (regions z.parent) ≡ Some (block z.args (joined_ops z.preceding (next o z.rest)))) first w.3)
  ]

  -- one of the earlier operations, with those before and after it
  pub split_preceding : (f : OpOf N T A) (preceding : List (OpOf N T A)) (os : OpsOf N T A) → In f preceding → (pre : List (OpOf N T A)) × (rest : OpsOf N T A) × (joined_ops preceding os ≡ joined_ops pre (next f rest)) × (length pre < length preceding)
  split_preceding f [] os h = absurd h
  split_preceding f (o ∷ fs) os (inl e) = ([], joined_ops fs os, ap (λ z. next z (joined_ops fs os)) (sym e), omega arith)
  split_preceding f (o ∷ fs) os (inr h) = let r = split_preceding f fs os h in let n = r.3 in (o ∷ r.0, r.1, ap (next o) r.2, omega (arith, n))

  pub preceding_stands : (t p : OpOf N T A) (q : List (StepOf N T A)) (r : ℕ) (args : List T) (preceding : List (OpOf N T A)) (os : OpsOf N T A) (f : OpOf N T A)
      → In (stand p q) (stands [] t) → region_at r (regions p) ≡ Some (block args (joined_ops preceding os)) → In f preceding → (a : StepOf N T A) × In (stand f (a ∷ q)) (stands [] t) × (length a.preceding < length preceding)
  preceding_stands t p q r args preceding os f up at h =
      let s = split_preceding f preceding os h in
      let a = step p r args s.0 s.1 in (
        a,
        within p q (stand f (a ∷ q)) (child p q r args (joined_ops preceding os) (stand f (a ∷ q)) at
            (subst (λ l. In (stand f (a ∷ q)) (ops_stands p q r args [] l)) (sym s.2) (ops_child p q r args [] s.0 f s.1))) [] t up,
        s.3,
      )

  -- a value in an operation's frame
  result_value : (t : OpOf N T A) → HasDistinctIds t → (s : OpWithPathOf N T A) → In s (stands [] t) → (v : Value) → shows v (results_of s.here) ≡ true → ((owner_of v).0 ≡ op_with_path_id s) × (has_value v t ≡ true)
  result_value t d s h (Result y k) e =
      let b = both (eqb y (op_with_path_id s)) (nat_lt k (length (head s.here).results)) e in
      let id = eqb-true y (op_with_path_id s) b.0 in
      (id, ap (λ f. is_some (option_and_then (λ o. slice_get (head o).results k) f)) (ap (λ z. find z t) id ∙ stand_found t d s h) ∙ got (head s.here).results k (ltb-true k (length (head s.here).results) b.1))
  result_value t d s h (Arg y r k) e = absurd (true≢false (sym e))

  argument_value : (t : OpOf N T A) → HasDistinctIds t → (s : OpWithPathOf N T A) → In s (stands [] t) → (r : ℕ) (args : List T) (os : OpsOf N T A) → region_at r (regions s.here) ≡ Some (block args os)
      → (v : Value) → shows v (arguments (op_with_path_id s) r (length args)) ≡ true → ((owner_of v).0 ≡ op_with_path_id s) × (has_value v t ≡ true)
  argument_value t d s h r args os at (Result y k) e = absurd (true≢false (sym e))
  argument_value t d s h r args os at (Arg y j k) e =
      let b = both (eqb y (op_with_path_id s)) (eqb j r && nat_lt k (length args)) e in
      let c = both (eqb j r) (nat_lt k (length args)) b.1 in
      let id = eqb-true y (op_with_path_id s) b.0 in
      let n = eqb-true j r c.0 in (
        id,
        ap (λ f. is_some (option_and_then (λ o. option_and_then (λ l. slice_get l k) (arguments_at j o)) f)) (ap (λ z. find z t) id ∙ stand_found t d s h)
            ∙ ap (λ f. is_some (option_and_then (λ l. slice_get l k) (option_and_then arguments_of f))) (ap (λ z. region_at z (regions s.here)) n ∙ at)
            ∙ got args k (ltb-true k (length args) c.1),
      )

  -- an operation earlier in the list of another, or of one of its ancestors, or an ancestor
  abbrev pub Nearer : OpWithPathOf N T A → List (StepOf N T A) → Type 0
  Nearer u path = (length u.path < length path) ⊎ ((a : StepOf N T A) × (b : StepOf N T A) × (q : List (StepOf N T A)) × (u.path ≡ a ∷ q) × (path ≡ b ∷ q) × (length a.preceding < length b.preceding))

  pub record SeenOf (isolated : N → Bool) (t : OpOf N T A) (path : List (StepOf N T A)) (v : Value) : Type 0 where
    pub owner : OpWithPathOf N T A
    pub there : In owner (stands [] t)
    pub id : (owner_of v).0 ≡ op_with_path_id owner
    pub is : has_value v t ≡ true
    pub nearer : Nearer owner path

  -- the values visible at the end of a path
  pub seen_from : (isolated : N → Bool) (t : OpOf N T A) → HasDistinctIds t → (path : List (StepOf N T A)) (v : Value) → dominated_by isolated path v ≡ true
      → ((a : StepOf N T A) (q : List (StepOf N T A)) → path ≡ a ∷ q → In (stand a.parent q) (stands [] t) × ((os : OpsOf N T A) × (region_at a.region (regions a.parent) ≡ Some (block a.args (joined_ops a.preceding os)))))
      → SeenOf isolated t path v
  seen_from isolated t d [] v e f = absurd (true≢false (sym e))
  seen_from isolated t d (a ∷ q) v e f =
      let g = f a q refl in
      elim (either (list_any (λ o. shows v (results_of o)) a.preceding) _ e) [
        | inl k ↦ (let w = one_any (λ o. shows v (results_of o)) a.preceding k in
            let u = preceding_stands t a.parent q a.region a.args a.preceding g.1.0 w.0 g.0 g.1.1 w.1 in
            let r = result_value t d (stand w.0 (u.0 ∷ q)) u.1 v w.2 in
            record { owner = stand w.0 (u.0 ∷ q); there = u.1; id = r.0; is = r.1; nearer = inr (u.0, a, q, refl, refl, u.2) })
        | inr k ↦ elim (either (shows v (arguments (head a.parent).id a.region (length a.args))) _ k) [
          | inl l ↦ (let r = argument_value t d (stand a.parent q) g.0 a.region a.args (joined_ops a.preceding g.1.0) g.1.1 v l in
              record { owner = stand a.parent q; there = g.0; id = r.0; is = r.1; nearer = inl (omega arith) })
          | inr l ↦ up_one g.0 (seen_from isolated t d q v (both (not (isolated (head a.parent).name)) (dominated_by isolated q v) l).1 (λ b p same. around_it a.parent q g.0 b p same))
        ]
      ]
    where
      around_it : (o : OpOf N T A) (q : List (StepOf N T A)) → In (stand o q) (stands [] t) → (b : StepOf N T A) (p : List (StepOf N T A)) → q ≡ b ∷ p → In (stand b.parent p) (stands [] t) × ((os : OpsOf N T A) × (region_at b.region (regions b.parent) ≡ Some (block b.args (joined_ops b.preceding os))))
      around_it o q h b p same =
          let m : In (stand o (b ∷ p)) (stands [] t) = subst (λ l. In (stand o l) (stands [] t)) same h in
          ((around_there t o b p m).1, (next o b.rest, shaped_as t o b p m))

      extra : (u : OpWithPathOf N T A) (a : StepOf N T A) (q : List (StepOf N T A)) → Nearer u q → Nearer u (a ∷ q)
      extra u a q (inl h) = inl (omega (arith, h))
      extra u a q (inr w) = let x = ap length w.3 in let y = ap length w.4 in inl (omega (arith, x, y))

      up_one : In (stand a.parent q) (stands [] t) → SeenOf isolated t q v → SeenOf isolated t (a ∷ q) v
      up_one h s = record { owner = s.owner; there = s.there; id = s.id; is = s.is; nearer = extra s.owner a q s.nearer }

  -- the values visible at an operation
  pub seen_by : (isolated : N → Bool) (t : OpOf N T A) → HasDistinctIds t → (s : OpWithPathOf N T A) → In s (stands [] t) → (v : Value) → dominated_by isolated s.path v ≡ true → SeenOf isolated t s.path v
  seen_by isolated t d s h v e = seen_from isolated t d s.path v e (λ a q same.
      let m : In (stand s.here (a ∷ q)) (stands [] t) = subst (λ l. In (stand s.here l) (stands [] t)) same h in
      ((around_there t s.here a q m).1, (next s.here a.rest, shaped_as t s.here a q m)))

  -- none of them is its own result
  pub not_own : (isolated : N → Bool) (t : OpOf N T A) → HasDistinctIds t → (s : OpWithPathOf N T A) → In s (stands [] t) → (v : Value) → dominated_by isolated s.path v ≡ true → (owner_of v).0 ≡ op_with_path_id s → ⊥
  not_own isolated t d s h v e own =
      let w = seen_by isolated t d s h v e in
      apart w.owner s.path w.nearer (ap (λ (z : OpWithPathOf N T A). z.path) (same_stand t d w.owner s w.there h (sym w.id ∙ own)))
    where
      apart : (u : OpWithPathOf N T A) (path : List (StepOf N T A)) → Nearer u path → u.path ≡ path → ⊥
      apart u path (inl n) same = let l = ap length same in omega (arith, n, l)
      apart u path (inr w) same =
          let two : w.0 ∷ w.2 ≡ w.1 ∷ w.2 = sym w.3 ∙ same ∙ w.4 in
          let one : w.0 ≡ w.1 = cc in
          let l = ap (λ (z : StepOf N T A). length z.preceding) one in
          let n = w.5 in
          omega (arith, n, l)
