-- A tree with other ids has the same dominance as the original tree, if the mapping is injective.
use Rattle.std.proofs.Common.{◌≡◌, refl, ap, sym, ◌∙◌, ℕ, ◌+◌, Bool, true, false, cond, not, ◌&&◌, ◌||◌, eqb, eq-eqb, List, [], ◌∷◌, ◌++◌, length, map}
use Rattle.std.specs.Prelude.{nat_lt}
use Rattle.std.specs.List.{list_all, list_any}
use Rattle.std.proofs.lemmas.Bool.{or_left, or_right}
use Rattle.std.proofs.lemmas.List.Folds.{list_any-append}
use Rattle.ir_tree.specs.declared.value.Value.{Value}
use Rattle.ir_tree.specs.declared.value.Value.TheVariants.{Result, Arg}
use Rattle.ir_tree.specs.Tree.{HeadOf, OpOf, op, RegionsOf, no_regions, region, RegionOf, empty, block, OpsOf, no_ops, next, head}
use Rattle.ir_tree.specs.Ids.{ids, regions_ids, region_ids, ops_ids}
use Rattle.ir_tree.specs.Sites.{Frame, results, arguments, inside, shows, in_scope, results_of, visible, operands_visible}
use Rattle.ir_tree.specs.VisibleValues.{visible_at, regions_visible, region_visible, ops_visible}
use Rattle.ir_tree.specs.Scope.{operands_dominate, regions_operands_visible, region_operands_visible, ops_operands_visible}
use Rattle.ir_tree.proofs.VisibleSites.{seen_visible, shown_last}
use Rattle.ir_tree.proofs.Checked.{seen_operands_visible}
use Rattle.ir_tree_laws.specs.Renumbered.{value_with_id, head_with_ids, with_ids, regions_with_ids, region_with_ids, ops_with_ids, MapsApart}
use Rattle.ir_tree.proofs.of_types.Sorting.{flips_eq}
use Rattle.ir_tree.proofs.of_types.Truths.{or_false}

-- f maps no other number to the number of y
abbrev pub Tells : (ℕ → ℕ) → ℕ → Type 0
Tells f y = (x : ℕ) → eqb (f x) (f y) ≡ eqb x y

-- two scopes have the same values
abbrev Same : (ℕ → ℕ) → List Frame → List Frame → Type 0
Same f new old = (v : Value) → in_scope new (value_with_id f v) ≡ in_scope old v

module _ (f : ℕ → ℕ) where
  reported_first : (x : ℕ) (xs : List ℕ) → MapsApart f (x ∷ xs) → Tells f x
  reported_first x xs t y = t y x (or_left (eqb x x) (list_any (λ z. eqb z x) xs) (eq-eqb x x refl))

  reported_rest : (x : ℕ) (xs : List ℕ) → MapsApart f (x ∷ xs) → MapsApart f xs
  reported_rest x xs t y z h = t y z (or_right (eqb x z) (list_any (λ w. eqb w z) xs) h)

  reported_left : (xs ys : List ℕ) → MapsApart f (xs ++ ys) → MapsApart f xs
  reported_left xs ys t x y h = t x y (list_any-append (λ z. eqb z y) xs ys ∙ or_left (list_any (λ z. eqb z y) xs) (list_any (λ z. eqb z y) ys) h)

  reported_right : (xs ys : List ℕ) → MapsApart f (xs ++ ys) → MapsApart f ys
  reported_right xs ys t x y h = t x y (list_any-append (λ z. eqb z y) xs ys ∙ or_right (list_any (λ z. eqb z y) xs) (list_any (λ z. eqb z y) ys) h)

  -- a frame whose ids are mapped injectively has the same values
  shows_results : (x n : ℕ) → Tells f x → (v : Value) → shows (value_with_id f v) (results (f x) n) ≡ shows v (results x n)
  shows_results x n t (Result y k) = ap (λ b. b && nat_lt k n) (t y)
  shows_results x n t (Arg y s k) = refl

  shows_arguments : (x r n : ℕ) → Tells f x → (v : Value) → shows (value_with_id f v) (arguments (f x) r n) ≡ shows v (arguments x r n)
  shows_arguments x r n t (Result y k) = refl
  shows_arguments x r n t (Arg y s k) = ap (λ b. b && (eqb s r && nat_lt k n)) (t y)

  -- scopes with one more frame, and lists of operands
  same_last : (new old : List Frame) (a b : Frame) → Same f new old → ((v : Value) → shows (value_with_id f v) a ≡ shows v b) → Same f (new ++ a ∷ []) (old ++ b ∷ [])
  same_last new old a b s e v = shown_last new a (value_with_id f v) ∙ (λ i. s v i || e v i) ∙ sym (shown_last old b v)

  all_in_scope : (new old : List Frame) (vs : List Value) → Same f new old → list_all (in_scope new) (map (value_with_id f) vs) ≡ list_all (in_scope old) vs
  all_in_scope new old [] s = refl
  all_in_scope new old (v ∷ vs) s = λ i. s v i && all_in_scope new old vs s i

module _ {N T A : Type 0} (f : ℕ → ℕ) where
  op_reported : (o : OpOf N T A) → MapsApart f (ids o) → Tells f (head o).id
  op_reported (op h rs) t = reported_first f h.id (regions_ids rs) t

  shows_op : (o : OpOf N T A) → MapsApart f (ids o) → (v : Value) → shows (value_with_id f v) (results_of (with_ids f o)) ≡ shows v (results_of o)
  shows_op (op h rs) t v = shows_results f h.id (length h.results) (op_reported (op h rs) t) v

  module _ (isolated : N → Bool) where
    -- one value, at the path of one operation
    module _ (x : ℕ) (v : Value) where
      mutual
        seen_with : (b : Bool) (t : OpOf N T A) → MapsApart f (ids t) → visible_at isolated (f x) (value_with_id f v) b (with_ids f t) ≡ visible_at isolated x v b t
        seen_with b (op h rs) k =
            let here : eqb (f h.id) (f x) ≡ eqb h.id x = flips_eq (f h.id) (f x) ∙ op_reported (op h rs) k x ∙ flips_eq x h.id in
            let inner = regions_visible_with (not (isolated h.name) && b) h.id 0 rs (op_reported (op h rs) k) (reported_rest f h.id (regions_ids rs) k) in
            λ i. here i && b || inner i

        regions_visible_with : (b : Bool) (o r : ℕ) (rs : RegionsOf N T A) → Tells f o → MapsApart f (regions_ids rs)
            → regions_visible isolated (f x) (value_with_id f v) b (f o) r (regions_with_ids f rs) ≡ regions_visible isolated x v b o r rs
        regions_visible_with b o r no_regions t k = refl
        regions_visible_with b o r (region g rs) t k = λ i.
            region_visible_with b o r g t (reported_left f (region_ids g) (regions_ids rs) k) i || regions_visible_with b o (r + 1) rs t (reported_right f (region_ids g) (regions_ids rs) k) i

        region_visible_with : (b : Bool) (o r : ℕ) (g : RegionOf N T A) → Tells f o → MapsApart f (region_ids g)
            → region_visible isolated (f x) (value_with_id f v) b (f o) r (region_with_ids f g) ≡ region_visible isolated x v b o r g
        region_visible_with b o r empty t k = refl
        region_visible_with b o r (block args os) t k =
            ap (λ c. ops_visible isolated (f x) (value_with_id f v) (b || c) (ops_with_ids f os)) (shows_arguments f o r (length args) t v)
            ∙ ops_visible_with (b || shows v (arguments o r (length args))) os k

        ops_visible_with : (b : Bool) (os : OpsOf N T A) → MapsApart f (ops_ids os) → ops_visible isolated (f x) (value_with_id f v) b (ops_with_ids f os) ≡ ops_visible isolated x v b os
        ops_visible_with b no_ops k = refl
        ops_visible_with b (next o os) k =
            let preceding = reported_left f (ids o) (ops_ids os) k in
            (λ i. seen_with b o preceding i || ops_visible isolated (f x) (value_with_id f v) (b || shows_op o preceding v i) (ops_with_ids f os))
            ∙ ap (λ c. visible_at isolated x v b o || c) (ops_visible_with (b || shows v (results_of o)) os (reported_right f (ids o) (ops_ids os) k))

    pub visible_with : (t : OpOf N T A) → MapsApart f (ids t) → (x : ℕ) (v : Value) → visible isolated (with_ids f t) (f x) (value_with_id f v) ≡ visible isolated t x v
    visible_with t k x v = sym (seen_visible isolated (with_ids f t) (f x) (value_with_id f v)) ∙ seen_with x v false t k ∙ seen_visible isolated t x v

    same_inside : (h : HeadOf N T A) (new old : List Frame) → Same f new old → Same f (inside isolated (head_with_ids f h) new) (inside isolated h old)
    same_inside h new old s v = elim (isolated h.name) as (λ b. in_scope (cond b [] new) (value_with_id f v) ≡ in_scope (cond b [] old) v) [ true ↦ refl | false ↦ s v ]

    mutual
      operands_with : (new old : List Frame) (t : OpOf N T A) → Same f new old → MapsApart f (ids t) → operands_dominate isolated new (with_ids f t) ≡ operands_dominate isolated old t
      operands_with new old (op h rs) s k =
          let inner = regions_operands_with (inside isolated (head_with_ids f h) new) (inside isolated h old) h.id 0 rs (same_inside h new old s) (op_reported (op h rs) k) (reported_rest f h.id (regions_ids rs) k) in
          λ i. all_in_scope f new old h.operands s i && inner i

      regions_operands_with : (new old : List Frame) (o r : ℕ) (rs : RegionsOf N T A) → Same f new old → Tells f o → MapsApart f (regions_ids rs)
          → regions_operands_visible isolated new (f o) r (regions_with_ids f rs) ≡ regions_operands_visible isolated old o r rs
      regions_operands_with new old o r no_regions s t k = refl
      regions_operands_with new old o r (region g rs) s t k = λ i.
          region_operands_with new old o r g s t (reported_left f (region_ids g) (regions_ids rs) k) i && regions_operands_with new old o (r + 1) rs s t (reported_right f (region_ids g) (regions_ids rs) k) i

      region_operands_with : (new old : List Frame) (o r : ℕ) (g : RegionOf N T A) → Same f new old → Tells f o → MapsApart f (region_ids g)
          → region_operands_visible isolated new (f o) r (region_with_ids f g) ≡ region_operands_visible isolated old o r g
      region_operands_with new old o r empty s t k = refl
      region_operands_with new old o r (block args os) s t k =
          let a = arguments (f o) r (length args) in
          let b = arguments o r (length args) in
          ops_operands_with (new ++ a ∷ []) (old ++ b ∷ []) os (same_last f new old a b s (shows_arguments f o r (length args) t)) k

      ops_operands_with : (new old : List Frame) (os : OpsOf N T A) → Same f new old → MapsApart f (ops_ids os) → ops_operands_visible isolated new (ops_with_ids f os) ≡ ops_operands_visible isolated old os
      ops_operands_with new old no_ops s k = refl
      ops_operands_with new old (next o os) s k =
          let preceding = reported_left f (ids o) (ops_ids os) k in
          let a = results_of (with_ids f o) in
          let b = results_of o in
          let inner = ops_operands_with (new ++ a ∷ []) (old ++ b ∷ []) os (same_last f new old a b s (shows_op o preceding)) (reported_right f (ids o) (ops_ids os) k) in
          λ i. operands_with new old o s preceding i && inner i

    pub operands_visible_with : (t : OpOf N T A) → MapsApart f (ids t) → operands_visible isolated (with_ids f t) ≡ operands_visible isolated t
    operands_visible_with t k = sym (seen_operands_visible isolated (with_ids f t)) ∙ operands_with [] [] t (λ v. refl) k ∙ seen_operands_visible isolated t
