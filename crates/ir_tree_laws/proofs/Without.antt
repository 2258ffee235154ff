-- The list of a tree without an operation.
use Rattle.std.proofs.Common.{◌≡◌, refl, ap, sym, ◌∙◌, subst, ℕ, ◌+◌, Bool, true, false, true≢false, cond, not, ◌&&◌, ◌||◌, eqb, eqb-true, List, [], ◌∷◌, ◌++◌, length, map, filter, append-nil, inl, inr}
use Rattle.std.specs.List.{list_any}
use Rattle.std.specs.Prelude.{nat_lt}
use Rattle.std.proofs.lemmas.List.{map-append}
use Rattle.std.proofs.lemmas.List.Elements.{filter-append}
use Rattle.ir_tree.specs.declared.value.Value.{Value}
use Rattle.ir_tree.specs.declared.value.Value.TheVariants.{Result, Arg}
use Rattle.ir_tree.specs.Tree.{HeadOf, OpOf, op, RegionsOf, no_regions, region, RegionOf, empty, block, OpsOf, no_ops, next, head}
use Rattle.ir_tree.specs.Sites.{arguments, shows, results_of}
use Rattle.ir_tree.specs.Frames.{owner_of}
use Rattle.ir_tree.specs.Places.{each_list, regions_each_list, region_each_list, ops_each_list, drop_op, without}
use Rattle.ir_tree_laws.specs.Stands.{StepOf, OpWithPathOf, stands, regions_stands, region_stands, ops_stands, dominated_by, gone_in, is_gone, dropping, left_step, left_stand}
use Rattle.ir_tree_laws.specs.Members.{In}
use Rattle.ir_tree_laws.proofs.Listed.{bool_cases, in_map, in_mapped, in_filter, in_filtered, both, either, or_left, or_right}
use Rattle.ir_tree_laws.proofs.Readings.{step}

module _ {N T A : Type 0} (x : ℕ) where
  abbrev pub keep : OpWithPathOf N T A → Bool
  keep s = not (is_gone x s)

  abbrev d : ℕ → ℕ → OpsOf N T A → OpsOf N T A
  d = dropping x

  abbrev stays : OpOf N T A → Bool
  stays o = not (eqb (head o).id x)

  -- heads are unchanged
  pub same_head : (f : ℕ → ℕ → OpsOf N T A → OpsOf N T A) (o : OpOf N T A) → head (each_list f o) ≡ head o
  same_head f (op h rs) = refl

  pub same_results : (f : ℕ → ℕ → OpsOf N T A → OpsOf N T A) (o : OpOf N T A) → results_of (each_list f o) ≡ results_of o
  same_results f (op h rs) = refl

  -- the operations within x are removed
  mutual
    pub op_goes : (path : List (StepOf N T A)) (t : OpOf N T A) → gone_in x t path ≡ true → filter keep (stands path t) ≡ []
    op_goes path (op h rs) e = ap (λ b. cond (not b) (record { here = op h rs; path = path } ∷ filter keep (regions_stands (op h rs) path 0 rs)) (filter keep (regions_stands (op h rs) path 0 rs))) e ∙ regions_go (op h rs) path 0 rs e

    regions_go : (p : OpOf N T A) (path : List (StepOf N T A)) (r : ℕ) (rs : RegionsOf N T A) → gone_in x p path ≡ true → filter keep (regions_stands p path r rs) ≡ []
    regions_go p path r no_regions e = refl
    regions_go p path r (region g rs) e = filter-append keep (region_stands p path r g) (regions_stands p path (r + 1) rs) ∙ λ i. region_goes p path r g e i ++ regions_go p path (r + 1) rs e i

    region_goes : (p : OpOf N T A) (path : List (StepOf N T A)) (r : ℕ) (g : RegionOf N T A) → gone_in x p path ≡ true → filter keep (region_stands p path r g) ≡ []
    region_goes p path r empty e = refl
    region_goes p path r (block args os) e = ops_go p path r args [] os e

    ops_go : (p : OpOf N T A) (path : List (StepOf N T A)) (r : ℕ) (args : List T) (preceding : List (OpOf N T A)) (os : OpsOf N T A) → gone_in x p path ≡ true → filter keep (ops_stands p path r args preceding os) ≡ []
    ops_go p path r args preceding no_ops e = refl
    ops_go p path r args preceding (next o os) e =
        filter-append keep (stands (step p r args preceding os ∷ path) o) (ops_stands p path r args (preceding ++ o ∷ []) os)
        ∙ λ i. op_goes (step p r args preceding os ∷ path) o (or_right (eqb (head o).id x) (gone_in x p path) e) i ++ ops_go p path r args (preceding ++ o ∷ []) os e i

  -- a list of operations before another
  abbrev kept : List (OpOf N T A) → List (OpOf N T A)
  kept os = filter stays (map (each_list d) os)

  one_more : (preceding : List (OpOf N T A)) (o : OpOf N T A) → kept (preceding ++ o ∷ []) ≡ kept preceding ++ kept (o ∷ [])
  one_more preceding o = ap (filter stays) (map-append (each_list d) preceding (o ∷ [])) ∙ filter-append stays (map (each_list d) preceding) (map (each_list d) (o ∷ []))

  split_left : (ss us : List (OpWithPathOf N T A)) → map (left_stand x) (filter keep (ss ++ us)) ≡ map (left_stand x) (filter keep ss) ++ map (left_stand x) (filter keep us)
  split_left ss us = ap (map (left_stand x)) (filter-append keep ss us) ∙ map-append (left_stand x) (filter keep ss) (filter keep us)

  mutual
    pub left_stands : (path : List (StepOf N T A)) (t : OpOf N T A) → gone_in x t path ≡ false → stands (map (left_step x) path) (each_list d t) ≡ map (left_stand x) (filter keep (stands path t))
    left_stands path (op h rs) e =
        ap (λ l. record { here = op h (regions_each_list d h.id 0 rs); path = map (left_step x) path } ∷ l) (regions_left (op h rs) path h.id 0 0 rs e)
        ∙ sym (ap (λ b. map (left_stand x) (cond (not b) (record { here = op h rs; path = path } ∷ filter keep (regions_stands (op h rs) path 0 rs)) (filter keep (regions_stands (op h rs) path 0 rs)))) e)

    regions_left : (p : OpOf N T A) (path : List (StepOf N T A)) (y k r : ℕ) (rs : RegionsOf N T A) → gone_in x p path ≡ false
        → regions_stands (each_list d p) (map (left_step x) path) r (regions_each_list d y k rs) ≡ map (left_stand x) (filter keep (regions_stands p path r rs))
    regions_left p path y k r no_regions e = refl
    regions_left p path y k r (region g rs) e =
        (λ i. region_left p path y k r g e i ++ regions_left p path y (k + 1) (r + 1) rs e i) ∙ sym (split_left (region_stands p path r g) (regions_stands p path (r + 1) rs))

    region_left : (p : OpOf N T A) (path : List (StepOf N T A)) (y k r : ℕ) (g : RegionOf N T A) → gone_in x p path ≡ false
        → region_stands (each_list d p) (map (left_step x) path) r (region_each_list d y k g) ≡ map (left_stand x) (filter keep (region_stands p path r g))
    region_left p path y k r empty e = refl
    region_left p path y k r (block args os) e = ops_left p path r args [] os e

    ops_left : (p : OpOf N T A) (path : List (StepOf N T A)) (r : ℕ) (args : List T) (preceding : List (OpOf N T A)) (os : OpsOf N T A) → gone_in x p path ≡ false
        → ops_stands (each_list d p) (map (left_step x) path) r args (kept preceding) (drop_op x (ops_each_list d os)) ≡ map (left_stand x) (filter keep (ops_stands p path r args preceding os))
    ops_left p path r args preceding no_ops e = refl
    ops_left p path r args preceding (next o os) e =
        let a = step p r args preceding os in
        let later = ops_left p path r args (preceding ++ o ∷ []) os e in
        let q = map (left_step x) path in
        let ls = drop_op x (ops_each_list d os) in
        let same : eqb (head (each_list d o)).id x ≡ eqb (head o).id x = ap (λ (h : HeadOf N T A). eqb h.id x) (same_head d o) in
        elim (bool_cases (eqb (head o).id x)) [
          | inl k ↦
              ap (λ b. ops_stands (each_list d p) q r args (kept preceding) (cond b ls (next (each_list d o) ls))) (same ∙ k)
              ∙ ap (λ l. ops_stands (each_list d p) q r args l ls) (sym (one_more preceding o ∙ ap (λ b. kept preceding ++ cond (not b) (each_list d o ∷ []) []) (same ∙ k) ∙ append-nil (kept preceding)))
              ∙ later
              ∙ sym (split_left (stands (a ∷ path) o) (ops_stands p path r args (preceding ++ o ∷ []) os)
              ∙ ap (λ l. map (left_stand x) l ++ map (left_stand x) (filter keep (ops_stands p path r args (preceding ++ o ∷ []) os))) (op_goes (a ∷ path) o (or_left (eqb (head o).id x) (gone_in x p path) k)))
          | inr k ↦
              ap (λ b. ops_stands (each_list d p) q r args (kept preceding) (cond b ls (next (each_list d o) ls))) (same ∙ k)
              ∙ (λ i. left_stands (a ∷ path) o (λ j. k j || e j) i ++ (ap (λ l. ops_stands (each_list d p) q r args l ls) (sym (one_more preceding o ∙ ap (λ b. kept preceding ++ cond (not b) (each_list d o ∷ []) []) (same ∙ k))) ∙ later) i)
              ∙ sym (split_left (stands (a ∷ path) o) (ops_stands p path r args (preceding ++ o ∷ []) os))
        ]

  -- the list of a whole tree
  pub without_stands : (t : OpOf N T A) → stands [] (without x t) ≡ map (left_stand x) (filter (λ s. not (is_gone x s)) (stands [] t))
  without_stands t = left_stands [] t refl

  pub left_member : (t : OpOf N T A) (s : OpWithPathOf N T A) → In s (stands [] t) → is_gone x s ≡ false → In (left_stand x s) (stands [] (without x t))
  left_member t s h e = subst (λ (l : List (OpWithPathOf N T A)). In (left_stand x s) l) (sym (without_stands t)) (in_map (left_stand x) s (filter keep (stands [] t)) (in_filter keep s (stands [] t) (ap not e) h))

  pub member_left : (t : OpOf N T A) (u : OpWithPathOf N T A) → In u (stands [] (without x t)) → (s : OpWithPathOf N T A) × In s (stands [] t) × (is_gone x s ≡ false) × (u ≡ left_stand x s)
  member_left t u h =
      let m = in_mapped (left_stand x) u (filter keep (stands [] t)) (subst (λ (l : List (OpWithPathOf N T A)). In u l) (without_stands t) h) in
      let f = in_filtered keep m.0 (stands [] t) m.1 in
      (m.0, f.0, unnot (is_gone x m.0) f.1, m.2)
    where
      unnot : (b : Bool) → not b ≡ true → b ≡ false
      unnot true e = absurd (true≢false (sym e))
      unnot false e = refl

  -- whether v is a result of operation o
  abbrev showing : Value → OpOf N T A → Bool
  showing v o = shows v (results_of o)

  fewer_show : (v : Value) (os : List (OpOf N T A)) → list_any (showing v) (kept os) ≡ true → list_any (showing v) os ≡ true
  fewer_show v [] e = e
  fewer_show v (op h rs ∷ os) e = go (eqb h.id x) e (fewer_show v os)
    where
      go : (b : Bool) → list_any (showing v) (cond (not b) (each_list d (op h rs) ∷ kept os) (kept os)) ≡ true → (list_any (showing v) (kept os) ≡ true → list_any (showing v) os ≡ true) → (showing v (op h rs) || list_any (showing v) os) ≡ true
      go true k later = or_right (showing v (op h rs)) (list_any (showing v) os) (later k)
      go false k later = elim (either (showing v (op h rs)) (list_any (showing v) (kept os)) k) [ inl l ↦ or_left (showing v (op h rs)) (list_any (showing v) os) l | inr l ↦ or_right (showing v (op h rs)) (list_any (showing v) os) (later l) ]

  -- a value of another operation isn't a result of x
  not_shown : (v : Value) (o : OpOf N T A) → eqb (owner_of v).0 x ≡ false → eqb (head o).id x ≡ true → showing v o ≡ false
  not_shown (Result y k) o e i = ap (λ b. b && nat_lt k (length (head o).results)) (ap (eqb y) (eqb-true (head o).id x i) ∙ e)
  not_shown (Arg y r k) o e i = refl

  same_show : (v : Value) → eqb (owner_of v).0 x ≡ false → (os : List (OpOf N T A)) → list_any (showing v) (kept os) ≡ list_any (showing v) os
  same_show v e [] = refl
  same_show v e (op h rs ∷ os) =
      elim (bool_cases (eqb h.id x)) [
        | inl k ↦ ap (λ b. list_any (showing v) (cond (not b) (each_list d (op h rs) ∷ kept os) (kept os))) k ∙ same_show v e os ∙ ap (λ b. b || list_any (showing v) os) (sym (not_shown v (op h rs) e k))
        | inr k ↦ ap (λ b. list_any (showing v) (cond (not b) (each_list d (op h rs) ∷ kept os) (kept os))) k ∙ ap (λ b. showing v (op h rs) || b) (same_show v e os)
      ]

  module _ (isolated : N → Bool) where
    -- no more values are visible after x is removed
    pub left_dominated_by : (path : List (StepOf N T A)) (v : Value) → dominated_by isolated (map (left_step x) path) v ≡ true → dominated_by isolated path v ≡ true
    left_dominated_by [] v e = e
    left_dominated_by (a ∷ path) v e = go (same_head d a.parent) (left_dominated_by path v)
      where
        h' : HeadOf N T A
        h' = head (each_list d a.parent)

        own : HeadOf N T A → Bool
        own h = shows v (arguments h.id a.region (length a.args))

        go : head (each_list d a.parent) ≡ head a.parent → (dominated_by isolated (map (left_step x) path) v ≡ true → dominated_by isolated path v ≡ true) → dominated_by isolated (a ∷ path) v ≡ true
        go same later =
            let f = list_any (showing v) a.preceding in
            let up = dominated_by isolated path v in
            let up' = dominated_by isolated (map (left_step x) path) v in
            let e2 : (list_any (showing v) (kept a.preceding) || (own (head a.parent) || not (isolated (head a.parent).name) && up')) ≡ true = sym (λ i. list_any (showing v) (kept a.preceding) || (own (same i) || not (isolated (same i).name) && up')) ∙ e in
            elim (either (list_any (showing v) (kept a.preceding)) _ e2) [
              | inl k ↦ or_left f _ (fewer_show v a.preceding k)
              | inr k ↦ or_right f _ (elim (either (own (head a.parent)) _ k) [
                | inl l ↦ or_left (own (head a.parent)) _ l
                | inr l ↦ or_right (own (head a.parent)) _ (let b = both (not (isolated (head a.parent).name)) up' l in (λ i. b.0 i && later b.1 i))
              ])
            ]

    -- and all but the values of x still are
    pub left_dominated_by_same : (v : Value) → eqb (owner_of v).0 x ≡ false → (path : List (StepOf N T A)) → dominated_by isolated (map (left_step x) path) v ≡ dominated_by isolated path v
    left_dominated_by_same v e [] = refl
    left_dominated_by_same v e (a ∷ path) = λ i.
        same_show v e a.preceding i || (shows v (arguments (same_head d a.parent i).id a.region (length a.args)) || not (isolated (same_head d a.parent i).name) && left_dominated_by_same v e path i)
