-- A table in which the facts about operations near an event were updated keeps the facts of the module after it.
use Rattle.std.proofs.Common.{◌≡◌, refl, ap, sym, ◌∙◌, subst, ℕ, zero, suc, ◌+◌, ◌<◌, ◌≤◌, Bool, true, false, true≢false, cond, ◌||◌, eqb, eq-eqb, eqb-true, List, [], ◌∷◌, ◌++◌, map, drop, length, get_or, Option, Some, None, inl, inr, arith}
use Rattle.std.proofs.lemmas.List.Folds.{list_any-append}
use Rattle.std.specs.Prelude.{option_map, option_and_then}
use Rattle.ir_event.specs.types.Things.{ContextModel}
use Rattle.ir_event.specs.types.Terms.{TypeTerm, AttrTerm}
use Rattle.ir_event.specs.trees.Tree.{OpOf}
use Rattle.ir_event.specs.trees.Ids.{ids}
use Rattle.ir_event.specs.tree_laws.Stands.{OpWithPathOf, op_with_path_id, stands, find_op_with_path}
use Rattle.ir_event.specs.tree_laws.Members.{In}
use Rattle.ir_event.proofs.of_tree_laws.Listed.{neither}
use Rattle.ir_event.proofs.of_tree_laws.Readings.{stands_ids}
use Rattle.ir_event.specs.declared.event.Event.{Event}
use Rattle.ir_event.specs.Modules.{Module, module_in}
use Rattle.ir_event.specs.declared.world.World.{World}
use Rattle.ir_event.specs.Step.{Step}
use Rattle.listeners_support.specs.Surroundings.{SurroundingsOf, surround, surroundings}
use Rattle.listeners_support.specs.Near.{near, if_any}
use Rattle.listeners_support.specs.Facts.{is_one_of, if_kept, kept_of, Keeps, Renewed}
use Rattle.listeners_support.proofs.Near.{far_same}
use Rattle.std.proofs.lemmas.List.{drop_all}

among_in : (y : ℕ) (ys : List ℕ) → In y ys → is_one_of y ys ≡ true
among_in y [] h = absurd h
among_in y (x ∷ ys) (inl e) = ap (λ b. b || is_one_of y ys) (eq-eqb x y (sym e))
among_in y (x ∷ ys) (inr h) = let r = among_in y ys h in elim (eqb x y) as (λ b. (b || is_one_of y ys) ≡ true) [ true ↦ refl | false ↦ r ]

far_apart : (y : ℕ) (ys : List ℕ) → is_one_of y ys ≡ false → In y ys → ⊥
far_apart y ys e h = true≢false (sym (among_in y ys h) ∙ e)

-- the law of contexts
pub far_keeps : (c : ContextModel) (e : Event) (m n : Module) → Step c e m n → (y : ℕ) → is_one_of y (near e n.tree) ≡ false → surroundings y n.tree ≡ surroundings y m.tree
far_keeps c e m n s y far = far_same c e m n s y (far_apart y (near e n.tree) far)

-- the law of tables, for all facts
pub renewed_keeps : {F : Type 0} (fact : SurroundingsOf (List ℕ) TypeTerm AttrTerm → F) (is_kept : F → Bool) (c : ContextModel) (e : Event) (m n : Module) (before after : ℕ → Option F)
    → Step c e m n → Keeps fact is_kept m.tree before → Renewed (kept_of fact is_kept n.tree) (near e n.tree) before after → Keeps fact is_kept n.tree after
renewed_keeps fact is_kept c e m n before after s kept renewed y = go (is_one_of y (near e n.tree)) refl
  where
    go : (b : Bool) → is_one_of y (near e n.tree) ≡ b → after y ≡ kept_of fact is_kept n.tree y
    go true is = renewed y ∙ ap (λ b. cond b (kept_of fact is_kept n.tree y) (before y)) is
    go false is = renewed y ∙ ap (λ b. cond b (kept_of fact is_kept n.tree y) (before y)) is ∙ kept y ∙ ap (λ s. option_and_then (if_kept is_kept) (option_map fact s)) (sym (far_keeps c e m n s y is))

-- updating some entries, and then others
pub renewed_more : {F : Type 0} (facts : ℕ → Option F) (xs ys : List ℕ) (f g h : ℕ → Option F) → Renewed facts xs f g → Renewed facts ys g h → Renewed facts (xs ++ ys) f h
renewed_more facts xs ys f g h a b y =
    b y ∙ ap (cond (is_one_of y ys) (facts y)) (a y)
    ∙ elim (is_one_of y xs) as (λ c. cond (is_one_of y ys) (facts y) (cond c (facts y) (f y)) ≡ cond (c || is_one_of y ys) (facts y) (f y)) [
      | true ↦ elim (is_one_of y ys) as (λ d. cond d (facts y) (facts y) ≡ facts y) [ true ↦ refl | false ↦ refl ]
      | false ↦ refl
    ]
    ∙ ap (λ c. cond c (facts y) (f y)) (sym (list_any-append (λ x. eqb x y) xs ys))

pub renewed_none : {F : Type 0} (facts : ℕ → Option F) (ys : List ℕ) (f : ℕ → Option F) → ys ≡ [] → Renewed facts ys f f
renewed_none facts ys f e y = ap (λ l. cond (is_one_of y l) (facts y) (f y)) (sym e)

pub renewed_any : {F : Type 0} (facts : ℕ → Option F) (o : Option ℕ) (ys : List ℕ) (f g h : ℕ → Option F) → Renewed facts (if_any o []) f g → Renewed facts ys g h → Renewed facts (if_any o ys) f h
renewed_any facts None ys f g h a b = renewed_more facts [] ys f g h a b
renewed_any facts (Some x) ys f g h a b = renewed_more facts (x ∷ []) ys f g h a b

pub renewed_also : {F : Type 0} (facts : ℕ → Option F) (x : ℕ) (ys : List ℕ) (f g h : ℕ → Option F) → Renewed facts (x ∷ []) f g → Renewed facts ys g h → Renewed facts (x ∷ ys) f h
renewed_also facts x ys f g h a b = renewed_more facts (x ∷ []) ys f g h a b

-- an entry that is updated again later need not be updated now
pub renewed_again : {F : Type 0} (facts : ℕ → Option F) (x : ℕ) (ys : List ℕ) (f g : ℕ → Option F) → is_one_of x ys ≡ true → Renewed facts ys f g → Renewed facts (x ∷ ys) f g
renewed_again facts x ys f g e r y = r y ∙ go (eqb x y) refl
  where
    go : (b : Bool) → eqb x y ≡ b → cond (is_one_of y ys) (facts y) (f y) ≡ cond (eqb x y || is_one_of y ys) (facts y) (f y)
    go true k =
        let same : x ≡ y = eqb-true x y k in
        ap (λ c. cond c (facts y) (f y)) (ap (λ z. is_one_of z ys) (sym same) ∙ e ∙ sym (ap (λ b. b || is_one_of y ys) k))
    go false k = ap (λ b. cond (b || is_one_of y ys) (facts y) (f y)) (sym k)

pub renewed_as : {F : Type 0} (facts : ℕ → Option F) (xs ys : List ℕ) (f g : ℕ → Option F) → xs ≡ ys → Renewed facts xs f g → Renewed facts ys f g
renewed_as facts xs ys f g e r = subst (λ l. Renewed facts l f g) e r

-- a new table in which all entries were updated keeps the facts
absent_stand : {N T A : Type 0} (y : ℕ) (ss : List (OpWithPathOf N T A)) → is_one_of y (map (λ (s : OpWithPathOf N T A). op_with_path_id s) ss) ≡ false → find_op_with_path y ss ≡ None
absent_stand y [] e = refl
absent_stand y (s ∷ ss) e =
    let b = neither _ _ e in
    ap (λ c. cond c (Some s) (find_op_with_path y ss)) b.0 ∙ absent_stand y ss b.1

pub all_renewed : {N T A F : Type 0} (fact : SurroundingsOf N T A → F) (is_kept : F → Bool) (t : OpOf N T A) (ops : List ℕ) (f g : ℕ → Option F) → ops ≡ ids t → ((y : ℕ) → f y ≡ None) → Renewed (kept_of fact is_kept t) ops f g → Keeps fact is_kept t g
all_renewed {N} {T} {A} {F} fact is_kept t ops f g e empty r y = go (is_one_of y ops) refl
  where
    all : map (λ (s : OpWithPathOf N T A). op_with_path_id s) (stands [] t) ≡ ops
    all = stands_ids [] t ∙ sym e

    go : (b : Bool) → is_one_of y ops ≡ b → g y ≡ kept_of fact is_kept t y
    go true is = r y ∙ ap (λ b. cond b (kept_of fact is_kept t y) (f y)) is
    go false is = r y ∙ ap (λ b. cond b (kept_of fact is_kept t y) (f y)) is ∙ empty y ∙ sym (ap (λ o. option_and_then (if_kept is_kept) (option_map fact (option_map (surround t) o))) (absent_stand y (stands [] t) (ap (is_one_of y) all ∙ is)))

-- a list from an index on
pub drop_next : (xs : List ℕ) (i x : ℕ) → i < length xs → x ≡ get_or xs i x → drop i xs ≡ x ∷ drop (i + 1) xs
drop_next [] i x l e = absurd (omega arith)
drop_next (y ∷ xs) zero x l e = ap (λ z. z ∷ xs) (sym e)
drop_next (y ∷ xs) (suc i) x l e =
    let m : i < length xs = omega arith in
    let s : suc i + 1 ≡ suc (i + 1) = omega arith in
    drop_next xs i x m e ∙ ap (λ k. x ∷ drop k (y ∷ xs)) (sym s)

-- the same in an equal IR state
pub renewed_in : {F : Type 0} (fact : SurroundingsOf (List ℕ) TypeTerm AttrTerm → F) (is_kept : F → Bool) (u w : World) → u ≡ w → (xs : List ℕ) (f g : ℕ → Option F)
    → Renewed (kept_of fact is_kept (module_in u).tree) xs f g → Renewed (kept_of fact is_kept (module_in w).tree) xs f g
renewed_in fact is_kept u w e xs f g r = subst (λ z. Renewed (kept_of fact is_kept (module_in z).tree) xs f g) e r
