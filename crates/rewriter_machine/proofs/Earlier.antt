-- The owner of a visible value is earlier in pre-order.
use Rattle.std.proofs.Common.{◌≡◌, ap, sym, ◌∙◌, subst, ℕ, ◌+◌, Bool, true, false, true≢false, not, ◌&&◌, eqb, eq-eqb, eqb-true, List, [], ◌∷◌, ◌++◌, length, append_assoc, append-nil, inl, inr, ◌⊎◌}
use Rattle.std.specs.Prelude.{nat_lt}
use Rattle.std.specs.List.{list_any, IsDistinct}
use Rattle.std.proofs.lemmas.Map.Keys.{IsDistinct-tail}
use Rattle.std.proofs.lemmas.List.Folds.{list_any-append}
use Rattle.ir_event.specs.trees.declared.value.Value.{Value}
use Rattle.ir_event.specs.trees.declared.value.Value.TheVariants.{Result, Arg}
use Rattle.ir_event.specs.trees.Tree.{OpOf, op, RegionsOf, no_regions, region, RegionOf, empty, block, OpsOf, no_ops, next, head}
use Rattle.ir_event.specs.trees.Ids.{ids, regions_ids, region_ids, ops_ids}
use Rattle.ir_event.specs.trees.Frames.{owner_of}
use Rattle.ir_event.specs.trees.Sites.{arguments, shows, results_of}
use Rattle.ir_event.proofs.of_trees.Returns.{Present, absent_first}
use Rattle.ir_event.specs.tree_laws.Members.{In}
use Rattle.ir_event.specs.tree_laws.Stands.{StepOf, OpWithPathOf, stands, regions_stands, region_stands, ops_stands, dominated_by}
use Rattle.ir_event.proofs.of_tree_laws.Listed.{in_parts, both, either, or_left, or_right}
use Rattle.ir_event.proofs.of_tree_laws.Readings.{step}

pub present_left : (x : ℕ) (xs ys : List ℕ) → Present x xs → Present x (xs ++ ys)
present_left x xs ys h = list_any-append (λ y. eqb y x) xs ys ∙ or_left _ _ h

pub present_right : (x : ℕ) (xs ys : List ℕ) → Present x ys → Present x (xs ++ ys)
present_right x xs ys h = list_any-append (λ y. eqb y x) xs ys ∙ or_right (list_any (λ y. eqb y x) xs) _ h

pub present_cases : (x : ℕ) (xs ys : List ℕ) → Present x (xs ++ ys) → Present x xs ⊎ Present x ys
present_cases x xs ys h = either _ _ (sym (list_any-append (λ y. eqb y x) xs ys) ∙ h)

pub first_there : (x y : ℕ) (xs : List ℕ) → y ≡ x → Present y (x ∷ xs)
first_there x y xs e = or_left (eqb x y) (list_any (λ z. eqb z y) xs) (eq-eqb x y (sym e))

-- of two ids of a list one is first
pub crossed : (y z : ℕ) (l r m s : List ℕ) → IsDistinct eqb (l ++ r) → l ++ r ≡ m ++ s → Present y l → Present z r → Present z m → Present y s → ⊥
crossed y z [] r m s d e a b c f = true≢false (sym a)
crossed y z (x ∷ l) r [] s d e a b c f = true≢false (sym c)
crossed y z (x ∷ l) r (w ∷ m) s d e a b c f =
    let first : x ≡ w = cc in
    let later : l ++ r ≡ m ++ s = cc in
    elim (either (eqb x y) _ a) [
      | inl k ↦ true≢false (sym (present_right x m s (subst (λ q. Present q s) (sym (eqb-true x y k)) f)) ∙ ap (list_any (λ q. eqb q x)) (sym later) ∙ absent_first x (l ++ r) d)
      | inr k ↦ elim (either (eqb w z) _ c) [
        | inl j ↦ true≢false (sym (present_right x l r (subst (λ q. Present q r) (sym (first ∙ eqb-true w z j)) b)) ∙ absent_first x (l ++ r) d)
        | inr j ↦ crossed y z l r m s (IsDistinct-tail eqb x (l ++ r) d) later k b j f
      ]
    ]

shown_result : {N T A : Type 0} (v : Value) (o : OpOf N T A) → shows v (results_of o) ≡ true → (owner_of v).0 ≡ (head o).id
shown_result (Result y k) o e = eqb-true y (head o).id (both (eqb y (head o).id) (nat_lt k (length (head o).results)) e).0
shown_result (Arg y r k) o e = absurd (true≢false (sym e))

shown_argument : (v : Value) (x r n : ℕ) → shows v (arguments x r n) ≡ true → (owner_of v).0 ≡ x
shown_argument (Result y k) x r n e = absurd (true≢false (sym e))
shown_argument (Arg y s k) x r n e = eqb-true y x (both (eqb y x) (eqb s r && nat_lt k n) e).0

module _ {N T A : Type 0} (isolated : N → Bool) where
  -- a list of ids, split before an operation and after everything inside it; the owners of the values visible at it are
  -- in the front part, or pass a test
  pub record Cut (xs : List ℕ) (s : OpWithPathOf N T A) (Test : Value → Type 0) : Type 0 where
    pub preceding : List ℕ
    pub back : List ℕ
    pub is : xs ≡ preceding ++ (ids s.here ++ back)
    pub seen : (v : Value) → dominated_by isolated s.path v ≡ true → Test v ⊎ Present (owner_of v).0 preceding

  abbrev Above : List (StepOf N T A) → Value → Type 0
  Above path v = dominated_by isolated path v ≡ true

  abbrev Inside : OpOf N T A → List (StepOf N T A) → Value → Type 0
  Inside p path v = Above path v ⊎ ((owner_of v).0 ≡ (head p).id)

  abbrev Following : OpOf N T A → List (StepOf N T A) → List (OpOf N T A) → Value → Type 0
  Following p path preceding v = Inside p path v ⊎ (list_any (λ o. shows v (results_of o)) preceding ≡ true)

  cut_left : (xs ys : List ℕ) (s : OpWithPathOf N T A) (P Q : Value → Type 0) → ((v : Value) → P v → Q v) → Cut xs s P → Cut (xs ++ ys) s Q
  cut_left xs ys s P Q f c = record {
    preceding = c.preceding;
    back = c.back ++ ys;
    is = ap (λ l. l ++ ys) c.is ∙ append_assoc c.preceding (ids s.here ++ c.back) ys ∙ ap (λ l. c.preceding ++ l) (append_assoc (ids s.here) c.back ys);
    seen = λ v k. elim (c.seen v k) [ inl a ↦ inl (f v a) | inr a ↦ inr a ];
  }

  cut_right : (xs ys : List ℕ) (s : OpWithPathOf N T A) (P Q : Value → Type 0) → ((v : Value) → P v → Q v ⊎ Present (owner_of v).0 xs) → Cut ys s P → Cut (xs ++ ys) s Q
  cut_right xs ys s P Q f c = record {
    preceding = xs ++ c.preceding;
    back = c.back;
    is = ap (λ l. xs ++ l) c.is ∙ sym (append_assoc xs c.preceding (ids s.here ++ c.back));
    seen = λ v k. elim (c.seen v k) [
      | inl a ↦ elim (f v a) [ inl b ↦ inl b | inr b ↦ inr (present_left (owner_of v).0 xs c.preceding b) ]
      | inr a ↦ inr (present_right (owner_of v).0 xs c.preceding a)
    ];
  }

  from_block : (p : OpOf N T A) (path : List (StepOf N T A)) (r : ℕ) (args : List T) (preceding : List (OpOf N T A)) (os : OpsOf N T A) (v : Value) → dominated_by isolated (step p r args preceding os ∷ path) v ≡ true → Following p path preceding v
  from_block p path r args preceding os v e = elim (either (list_any (λ o. shows v (results_of o)) preceding) _ e) [
    | inl k ↦ inr k
    | inr k ↦ elim (either (shows v (arguments (head p).id r (length args))) _ k) [
      | inl j ↦ inl (inr (shown_argument v (head p).id r (length args) j))
      | inr j ↦ inl (inl (both (not (isolated (head p).name)) (dominated_by isolated path v) j).1)
    ]
  ]

  from_list : (p : OpOf N T A) (path : List (StepOf N T A)) (preceding : List (OpOf N T A)) (o : OpOf N T A) (v : Value) → Following p path (preceding ++ o ∷ []) v → Following p path preceding v ⊎ Present (owner_of v).0 (ids o)
  from_list p path preceding o v (inl a) = inl (inl a)
  from_list p path preceding (op h rs) v (inr a) = elim (either (list_any (λ o. shows v (results_of o)) preceding) _ (sym (list_any-append (λ o. shows v (results_of o)) preceding (op h rs ∷ [])) ∙ a)) [
    | inl k ↦ inl (inr k)
    | inr k ↦ elim (either (shows v (results_of (op h rs))) false k) [
      | inl j ↦ inr (first_there h.id (owner_of v).0 (regions_ids rs) (shown_result v (op h rs) j))
      | inr j ↦ absurd (true≢false (sym j))
    ]
  ]

  none_before : (p : OpOf N T A) (path : List (StepOf N T A)) (v : Value) → Following p path [] v → Inside p path v
  none_before p path v (inl a) = a
  none_before p path v (inr a) = absurd (true≢false (sym a))

  mutual
    pub op_cut : (path : List (StepOf N T A)) (t : OpOf N T A) (s : OpWithPathOf N T A) → In s (stands path t) → Cut (ids t) s (Above path)
    op_cut path (op h rs) s (inl e) = record {
      preceding = [];
      back = [];
      is = ap (λ (z : OpWithPathOf N T A). ids z.here) (sym e) ∙ sym (append-nil (ids s.here));
      seen = λ v k. inl (ap (λ (z : OpWithPathOf N T A). dominated_by isolated z.path v) (sym e) ∙ k);
    }
    op_cut path (op h rs) s (inr k) =
        cut_right (h.id ∷ []) (regions_ids rs) s (Inside (op h rs) path) (Above path)
        (λ v a. elim a [ inl b ↦ inl b | inr b ↦ inr (first_there h.id (owner_of v).0 [] b) ]) (regions_cut (op h rs) path 0 rs s k)

    regions_cut : (p : OpOf N T A) (path : List (StepOf N T A)) (r : ℕ) (rs : RegionsOf N T A) (s : OpWithPathOf N T A) → In s (regions_stands p path r rs) → Cut (regions_ids rs) s (Inside p path)
    regions_cut p path r no_regions s k = absurd k
    regions_cut p path r (region g rs) s k = elim (in_parts s (region_stands p path r g) (regions_stands p path (r + 1) rs) k) [
      | inl l ↦ cut_left (region_ids g) (regions_ids rs) s (Inside p path) (Inside p path) (λ v a. a) (region_cut p path r g s l)
      | inr l ↦ cut_right (region_ids g) (regions_ids rs) s (Inside p path) (Inside p path) (λ v a. inl a) (regions_cut p path (r + 1) rs s l)
    ]

    region_cut : (p : OpOf N T A) (path : List (StepOf N T A)) (r : ℕ) (g : RegionOf N T A) (s : OpWithPathOf N T A) → In s (region_stands p path r g) → Cut (region_ids g) s (Inside p path)
    region_cut p path r empty s k = absurd k
    region_cut p path r (block args os) s k =
        cut_right [] (ops_ids os) s (Following p path []) (Inside p path) (λ v a. inl (none_before p path v a)) (ops_cut p path r args [] os s k)

    ops_cut : (p : OpOf N T A) (path : List (StepOf N T A)) (r : ℕ) (args : List T) (preceding : List (OpOf N T A)) (os : OpsOf N T A) (s : OpWithPathOf N T A)
        → In s (ops_stands p path r args preceding os) → Cut (ops_ids os) s (Following p path preceding)
    ops_cut p path r args preceding no_ops s k = absurd k
    ops_cut p path r args preceding (next o os) s k =
        elim (in_parts s (stands (step p r args preceding os ∷ path) o) (ops_stands p path r args (preceding ++ o ∷ []) os) k) [
          | inl l ↦ cut_left (ids o) (ops_ids os) s (Above (step p r args preceding os ∷ path)) (Following p path preceding) (from_block p path r args preceding os) (op_cut (step p r args preceding os ∷ path) o s l)
          | inr l ↦ cut_right (ids o) (ops_ids os) s (Following p path (preceding ++ o ∷ [])) (Following p path preceding) (from_list p path preceding o) (ops_cut p path r args (preceding ++ o ∷ []) os s l)
        ]

  -- in a whole tree
  pub seen_earlier : (t : OpOf N T A) (s : OpWithPathOf N T A) (h : In s (stands [] t)) (v : Value) → dominated_by isolated s.path v ≡ true → Present (owner_of v).0 (op_cut [] t s h).preceding
  seen_earlier t s h v e = elim ((op_cut [] t s h).seen v e) [ inl a ↦ absurd (true≢false (sym a)) | inr a ↦ a ]
