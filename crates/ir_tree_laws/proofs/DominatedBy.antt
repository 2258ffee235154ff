-- The values visible at an operation, by cases.
use Rattle.std.proofs.Common.{◌≡◌, refl, ap, sym, ◌∙◌, subst, ℕ, Bool, true, false, cond, not, ◌&&◌, ◌||◌, eqb, List, [], ◌∷◌, ◌++◌, length, map, Some, inl, inr}
use Rattle.std.specs.List.{list_any, list_all}
use Rattle.std.proofs.lemmas.List.Folds.{list_any-append, list_all-map}
use Rattle.ir_tree.specs.declared.value.Value.{Value}
use Rattle.ir_tree.specs.Tree.{HeadOf, OpOf, op, head}
use Rattle.ir_tree.specs.Ids.{HasDistinctIds}
use Rattle.ir_tree.specs.Limits.{every}
use Rattle.ir_tree.specs.Sites.{Frame, arguments, Site, shows, in_scope, results_of, inside, visible, operands_visible, dominated_by_operands}
use Rattle.ir_tree_laws.specs.Stands.{StepOf, OpWithPathOf, op_with_path_id, op_with_path, stands, scope_of, dominated_by, site_of}
use Rattle.ir_tree_laws.specs.Members.{In}
use Rattle.ir_tree_laws.proofs.Readings.{stands_sites, stands_every}
use Rattle.ir_tree_laws.proofs.Members.{stand, has_around, tested, member}
use Rattle.ir_tree.proofs.VisibleSites.{in_scope_inside}

any_mapped : {X Y : Type 0} (p : Y → Bool) (f : X → Y) (xs : List X) → list_any p (map f xs) ≡ list_any (λ x. p (f x)) xs
any_mapped p f [] = refl
any_mapped p f (x ∷ xs) = ap (λ b. p (f x) || b) (any_mapped p f xs)

pub any_same : {X : Type 0} (p q : X → Bool) → ((x : X) → p x ≡ q x) → (xs : List X) → list_any p xs ≡ list_any q xs
any_same p q f [] = refl
any_same p q f (x ∷ xs) = λ i. f x i || any_same p q f xs i

pub all_same : {X : Type 0} (p q : X → Bool) (xs : List X) → ((x : X) → In x xs → p x ≡ q x) → list_all p xs ≡ list_all q xs
all_same p q [] f = refl
all_same p q (x ∷ xs) f = λ i. f x (inl refl) i && all_same p q xs (λ y h. f y (inr h)) i

turn : (i b f : Bool) → ((i || (b || false)) || f) ≡ (f || (b || i))
turn true true true = refl
turn true true false = refl
turn true false true = refl
turn true false false = refl
turn false true true = refl
turn false true false = refl
turn false false true = refl
turn false false false = refl

module _ {N T A : Type 0} (isolated : N → Bool) where
  pub dominated_by_scope : (path : List (StepOf N T A)) (v : Value) → in_scope (scope_of isolated path) v ≡ dominated_by isolated path v
  dominated_by_scope [] v = refl
  dominated_by_scope (a ∷ path) v =
      let h = head a.parent in
      let b = arguments h.id a.region (length a.args) in
      let i = inside isolated h (scope_of isolated path) in
      list_any-append (shows v) (i ++ b ∷ []) (map results_of a.preceding)
      ∙ (λ j. list_any-append (shows v) i (b ∷ []) j || any_mapped (shows v) results_of a.preceding j)
      ∙ turn (in_scope i v) (shows v b) (list_any (λ o. shows v (results_of o)) a.preceding)
      ∙ λ j. list_any (λ o. shows v (results_of o)) a.preceding || (shows v b || ((in_scope_inside isolated) h (scope_of isolated path) v ∙ ap (λ c. not (isolated h.name) && c) (dominated_by_scope path v)) j)

  -- whether v is visible at operation x of a tree, and whether each operand is
  pub stands_visible : (t : OpOf N T A) (x : ℕ) (v : Value) → visible isolated t x v ≡ list_any (λ (s : OpWithPathOf N T A). eqb (op_with_path_id s) x && dominated_by isolated s.path v) (stands [] t)
  stands_visible t x v =
      ap (list_any (λ (s : Site N T A). eqb (head s.here).id x && in_scope s.scope v)) (sym (stands_sites isolated [] t))
      ∙ any_mapped (λ (s : Site N T A). eqb (head s.here).id x && in_scope s.scope v) (site_of isolated) (stands [] t)
      ∙ any_same _ _ (λ (s : OpWithPathOf N T A). ap (λ b. eqb (op_with_path_id s) x && b) (dominated_by_scope s.path v)) (stands [] t)

  pub stands_operands : (t : OpOf N T A) → operands_visible isolated t ≡ list_all (λ (s : OpWithPathOf N T A). list_all (dominated_by isolated s.path) (head s.here).operands) (stands [] t)
  stands_operands t =
      ap (list_all dominated_by_operands) (sym (stands_sites isolated [] t))
      ∙ list_all-map dominated_by_operands (site_of isolated) (stands [] t)
      ∙ all_same _ _ (stands [] t) (λ (s : OpWithPathOf N T A) h. all_same _ _ (head s.here).operands (λ v k. dominated_by_scope s.path v))

  -- if ids are distinct
  module _ (t : OpOf N T A) (d : HasDistinctIds t) where
    pub visible_there : (s : OpWithPathOf N T A) → In s (stands [] t) → (v : Value) → visible isolated t (op_with_path_id s) v ≡ dominated_by isolated s.path v
    visible_there s h v = stands_visible t (op_with_path_id s) v ∙ tested (λ (u : OpWithPathOf N T A). dominated_by isolated u.path v) t d s h

    -- the values visible at an operation: the results of earlier operations of its list, the arguments of its block,
    -- and, unless the parent is isolated from above, the values visible at the parent
    pub visible_by_cases : (s : OpWithPathOf N T A) → In s (stands [] t) → (a : StepOf N T A) (q : List (StepOf N T A)) → s.path ≡ a ∷ q → (v : Value)
        → visible isolated t (op_with_path_id s) v ≡ (list_any (λ o. shows v (results_of o)) a.preceding || (shows v (arguments (head a.parent).id a.region (length a.args)) || not (isolated (head a.parent).name) && visible isolated t (head a.parent).id v))
    visible_by_cases s h a q e v =
        visible_there s h v ∙ ap (λ p. dominated_by isolated p v) e
        ∙ ap (λ b. list_any (λ o. shows v (results_of o)) a.preceding || (shows v (arguments (head a.parent).id a.region (length a.args)) || not (isolated (head a.parent).name) && b)) (sym (visible_there (stand a.parent q) around v))
      where
        around : In (stand a.parent q) (stands [] t)
        around = elim (has_around [] t s h) [
          | inl k ↦ (let bad : [] ≡ a ∷ q = sym (ap (λ (z : OpWithPathOf N T A). z.path) k) ∙ e in absurd cc)
          | inr w ↦ (let same : w.0 ∷ w.1 ≡ a ∷ q = sym w.2 ∙ e in
              let first : w.0 ≡ a = cc in
              let later : w.1 ≡ q = cc in
              subst (λ (z : OpWithPathOf N T A). In z (stands [] t)) (λ i. stand ((first i).parent) (later i)) w.4)
        ]

    -- no value is visible at the root
    pub root_dominated_by_none : (v : Value) → visible isolated t (head t).id v ≡ false
    root_dominated_by_none v = visible_there (stand t []) (root t) v
      where
        root : (t : OpOf N T A) → In (stand t []) (stands [] t)
        root (op h rs) = inl refl

    -- each operand of each operation is visible from it
    pub operands_visible_each : operands_visible isolated t ≡ every (λ o. list_all (visible isolated t (head o).id) (head o).operands) t
    operands_visible_each =
        stands_operands t
        ∙ all_same _ _ (stands [] t) (λ (s : OpWithPathOf N T A) h. all_same _ _ (head s.here).operands (λ v k. sym (visible_there s h v)))
        ∙ stands_every (λ o. list_all (visible isolated t (head o).id) (head o).operands) [] t

    pub visible_of_found : (x : ℕ) (s : OpWithPathOf N T A) (a : StepOf N T A) (q : List (StepOf N T A)) (v : Value) → op_with_path x t ≡ Some s → s.path ≡ a ∷ q
        → visible isolated t x v ≡ (list_any (λ o. shows v (results_of o)) a.preceding || (shows v (arguments (head a.parent).id a.region (length a.args)) || not (isolated (head a.parent).name) && visible isolated t (head a.parent).id v))
    visible_of_found x s a q v e p = let m = member x (stands [] t) s e in ap (λ z. visible isolated t z v) (sym m.1) ∙ visible_by_cases s m.0 a q p v
