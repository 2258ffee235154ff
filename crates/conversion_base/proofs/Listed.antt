-- A list with the casts of a module still has them after casts are erased.
use Rattle.std.proofs.Common.{◌≡◌, refl, ap, sym, ◌∙◌, subst, ℕ, Bool, true, false, true≢false, cond, not, ◌&&◌, eqb, List, [], ◌∷◌, map, filter, Option, Some, None, option_map, inl, inr}
use Rattle.std.specs.List.{IsDistinct}
use Rattle.ir_event.specs.trees.declared.value.Value.{Value}
use Rattle.ir_event.specs.trees.declared.value.Value.TheVariants.{Result}
use Rattle.ir_event.specs.trees.Tree.{op, head}
use Rattle.ir_event.specs.trees.Ids.{HasDistinctIds, find, ids}
use Rattle.ir_event.specs.trees.Places.{without}
use Rattle.ir_event.specs.trees.Edits.{each_head, put_values, with_value_replaced}
use Rattle.ir_event.specs.trees.Meaning.{Operation}
use Rattle.ir_event.proofs.of_trees.Heads.{head_find}
use Rattle.ir_event.specs.tree_laws.Members.{In}
use Rattle.ir_event.specs.tree_laws.Stands.{OpWithPathOf, op_with_path_id, stands, is_gone, dropping, left_stand}
use Rattle.ir_event.proofs.of_tree_laws.HeadForm.{edit_ids}
use Rattle.ir_event.proofs.of_tree_laws.Listed.{bool_cases, both}
use Rattle.ir_event.proofs.of_tree_laws.Members.{found_stands, same_stand, stand_found}
use Rattle.ir_event.proofs.of_tree_laws.Readings.{stands_ids}
use Rattle.ir_event.proofs.of_tree_laws.Without.{member_left, same_head, without_stands}
use Rattle.ir_event.specs.types.Terms.{TypeTerm, AttrTerm}
use Rattle.ir_event.specs.Modules.{Module}
use Rattle.effects.specs.Dead.{is_unused}
use Rattle.patterns_base.specs.Contents.{all_edited, edited}
use Rattle.patterns_base.specs.Edits.{Erase}
use Rattle.patterns_base.specs.declared.rule.Rule.TheVariants.{CastBack}
use Rattle.patterns_base.specs.Looks.{Header}
use Rattle.patterns_base.specs.Makes.{give}
use Rattle.patterns_base.specs.Rewrites.{Rewrite, none, refused, becomes, rewrite_of}
use Rattle.patterns_base.specs.Words.{named}
use Rattle.conversion_base.specs.Listing.{HaveCasts, casts_among}
use Rattle.conversion_base.specs.Reconciling.{collapse, first_rewrite, is_cast, is_cast_found, next_collapse, rewrite_or, unused_erased}
use Rattle.conversion_base.specs.Targets.{cast_name}
use Rattle.conversion_base.proofs.Falls.{cast_there, found_id, given_at}
use Rattle.conversion_base.proofs.Makes.{applies, rewritten}
use Rattle.conversion_base.proofs.Enough.{becomes_is}
use Rattle.std.proofs.lemmas.Bool.{not-false}

-- ---- sublists

abbrev OpWithPath : Type 0
OpWithPath = OpWithPathOf (List ℕ) TypeTerm AttrTerm

no_is : (a b : Bool) → (b ≡ true → a ≡ true) → a ≡ false → b ≡ false
no_is a true h e = absurd (true≢false (sym (h refl) ∙ e))
no_is a false h e = refl

-- an entry that passes one test passes the other
filter_within : (p q : ℕ → Bool) → ((y : ℕ) → q y ≡ true → p y ≡ true) → (xs : List ℕ) → filter q (filter p xs) ≡ filter q xs
filter_within p q h [] = refl
filter_within p q h (x ∷ xs) = go (p x) refl (filter_within p q h xs)
  where
    go : (b : Bool) → p x ≡ b → filter q (filter p xs) ≡ filter q xs → filter q (cond b (x ∷ filter p xs) (filter p xs)) ≡ cond (q x) (x ∷ filter q xs) (filter q xs)
    go true e r = ap (λ l. cond (q x) (x ∷ l) l) r
    go false e r = r ∙ sym (ap (λ c. cond c (x ∷ filter q xs) (filter q xs)) (no_is (p x) (q x) (h x) e))

-- the dropped entries fail the test
filter_dropped : {X : Type 0} (p : ℕ → Bool) (f : X → ℕ) (k : X → Bool) (xs : List X) → ((s : X) → In s xs → k s ≡ false → p (f s) ≡ false) → filter p (map f xs) ≡ filter p (map f (filter k xs))
filter_dropped p f k [] h = refl
filter_dropped {X} p f k (s ∷ ss) h = go (k s) refl (filter_dropped p f k ss (λ u i. h u (inr i)))
  where
    go : (b : Bool) → k s ≡ b → filter p (map f ss) ≡ filter p (map f (filter k ss)) → cond (p (f s)) (f s ∷ filter p (map f ss)) (filter p (map f ss)) ≡ filter p (map f (cond b (s ∷ filter k ss) (filter k ss)))
    go true e r = ap (λ l. cond (p (f s)) (f s ∷ l) l) r
    go false e r = ap (λ c. cond c (f s ∷ filter p (map f ss)) (filter p (map f ss))) (h s (inl refl) e) ∙ r

-- ---- the casts of a tree, and of a tree after casts are erased

record Fewer (t u : Operation) : Type 0 where
  was : (y : ℕ) → is_cast y u ≡ true → is_cast y t ≡ true
  left : casts_among (ids t) u ≡ casts_among (ids u) u

still : (xs : List ℕ) (t u : Operation) → HaveCasts xs t → Fewer t u → HaveCasts xs u
still xs t u h f =
    let p = λ (x : ℕ). is_cast x t in
    let q = λ (x : ℕ). is_cast x u in
    sym (filter_within p q f.was xs) ∙ ap (filter q) h ∙ filter_within p q f.was (ids t) ∙ f.left

-- an operation is taken out
module _ (x : ℕ) (t : Operation) (d : HasDistinctIds t) where
  record There (y : ℕ) : Type 0 where
    stand : OpWithPath
    in_tree : In stand (stands [] t)
    stays : is_gone x stand ≡ false
    id : op_with_path_id stand ≡ y
    is : is_cast y t ≡ true

  there : (y : ℕ) → is_cast y (without x t) ≡ true → There y
  there y c =
      let o = cast_there y (without x t) c in
      let u = found_stands y (without x t) o.0 o.1 in
      let k = member_left x t u.0 u.1 in
      let heads : head u.0.here ≡ head k.0.here = ap (λ (z : OpWithPath). head z.here) k.3 ∙ same_head x (dropping x) k.0.here in
      let id : op_with_path_id k.0 ≡ y = sym (ap (λ (h : Header). h.id) heads) ∙ u.2 in
      let found : find y t ≡ Some k.0.here = ap (λ z. find z t) (sym id) ∙ stand_found t d k.0 k.1 in
      let name : named cast_name (head k.0.here).name ≡ true = ap (λ (h : Header). named cast_name h.name) (sym heads ∙ ap (λ (z : Operation). head z) u.3) ∙ o.2 in
      record { stand = k.0; in_tree = k.1; stays = k.2; id = id; is = ap is_cast_found found ∙ name }

  gone_not : (s : OpWithPath) → In s (stands [] t) → not (is_gone x s) ≡ false → is_cast (op_with_path_id s) (without x t) ≡ false
  gone_not s h g = elim (bool_cases (is_cast (op_with_path_id s) (without x t))) [
    | inr e ↦ e
    | inl e ↦ absurd (
        let w = there (op_with_path_id s) e in
        let same : w.stand ≡ s = same_stand t d w.stand s w.in_tree h w.id in
        true≢false (sym (not-false (is_gone x s) g) ∙ ap (is_gone x) (sym same) ∙ w.stays))
  ]

  left_ids : (ss : List OpWithPath) → map (λ (s : OpWithPath). op_with_path_id s) (map (left_stand x) ss) ≡ map (λ (s : OpWithPath). op_with_path_id s) ss
  left_ids [] = refl
  left_ids (s ∷ ss) = λ i. ap (λ (h : Header). h.id) (same_head x (dropping x) s.here) i ∷ left_ids ss i

  ids_left : ids (without x t) ≡ map (λ (s : OpWithPath). op_with_path_id s) (filter (λ (s : OpWithPath). not (is_gone x s)) (stands [] t))
  ids_left = sym (stands_ids [] (without x t)) ∙ ap (map (λ (s : OpWithPath). op_with_path_id s)) (without_stands x t) ∙ left_ids (filter (λ (s : OpWithPath). not (is_gone x s)) (stands [] t))

  fewer_erased : Fewer t (without x t)
  fewer_erased =
      let q = λ (y : ℕ). is_cast y (without x t) in
      record {
        was = λ y c. (there y c).is;
        left = ap (filter q) (sym (stands_ids [] t)) ∙ filter_dropped q (λ (s : OpWithPath). op_with_path_id s) (λ (s : OpWithPath). not (is_gone x s)) (stands [] t) gone_not ∙ ap (filter q) (sym ids_left);
      }

-- a value is replaced
module _ (v w : Value) (t : Operation) where
  same_ids : ids (with_value_replaced v w t) ≡ ids t
  same_ids = edit_ids (put_values v w) (λ h. record { id = refl; name = refl; results = refl }) t

  same_cast : (y : ℕ) → is_cast y (with_value_replaced v w t) ≡ is_cast y t
  same_cast y = ap is_cast_found (head_find (put_values v w) (λ h. record { id = refl; name = refl; results = refl }) y t) ∙ go (find y t)
    where
      go : (f : Option Operation) → is_cast_found (option_map (each_head (put_values v w)) f) ≡ is_cast_found f
      go None = refl
      go (Some (op h rs)) = refl

  fewer_given : (x : ℕ) → HasDistinctIds t → Fewer t (without x (with_value_replaced v w t))
  fewer_given x d =
      let f = fewer_erased x (with_value_replaced v w t) (subst (IsDistinct eqb) (sym same_ids) d) in
      record {
        was = λ y c. sym (same_cast y) ∙ f.was y c;
        left = ap (λ xs. casts_among xs (without x (with_value_replaced v w t))) (sym same_ids) ∙ f.left;
      }

-- ---- a cast is erased

module _ (m n : Module) (x : ℕ) (d : HasDistinctIds m.tree) where
  by_unused : unused_erased m x ≡ becomes n → Fewer m.tree n.tree
  by_unused e = go (is_unused x m.tree) e
    where
      go : (b : Bool) → cond b (becomes (edited (Erase x) m)) none ≡ becomes n → Fewer m.tree n.tree
      go true e = subst (λ (q : Module). Fewer m.tree q.tree) (becomes_is (edited (Erase x) m) n e) (fewer_erased x m.tree d)
      go false e = absurd cc

  by_rule : is_cast x m.tree ≡ true → rewrite_of CastBack m x ≡ becomes n → Fewer m.tree n.tree
  by_rule c e =
      let w = rewritten CastBack m n x e in
      let a = applies CastBack m x w.0 w.1 in
      let o = cast_there x m.tree c in
      let same : o.0 ≡ a.here = (let two : Some o.0 ≡ Some a.here = sym o.1 ∙ a.found in cc) in
      let v = given_at m.tree m.next a.insertion a.here w.0 (ap (λ (z : Operation). named cast_name (head z).name) (sym same) ∙ o.2) a.is in
      let id = (found_id x m.tree a.here a.found).1 in
      let is : n ≡ all_edited (give x v.0) m = w.2 ∙ ap (λ es. all_edited es m) (v.1 ∙ ap (λ y. give y v.0) id) in
      subst (λ (q : Module). Fewer m.tree q.tree) (sym is) (fewer_given (Result x 0) v.0 m.tree x d)

  by_either : (a b : Rewrite) → (a ≡ becomes n → Fewer m.tree n.tree) → (b ≡ becomes n → Fewer m.tree n.tree) → rewrite_or a b ≡ becomes n → Fewer m.tree n.tree
  by_either none b f g e = g e
  by_either (refused r) b f g e = absurd cc
  by_either (becomes p) b f g e = f e

  by_collapse : collapse m x ≡ becomes n → Fewer m.tree n.tree
  by_collapse e = go (is_cast x m.tree && not (eqb (head m.tree).id x)) refl e
    where
      go : (b : Bool) → (is_cast x m.tree && not (eqb (head m.tree).id x)) ≡ b → cond b (rewrite_or (unused_erased m x) (rewrite_of CastBack m x)) none ≡ becomes n → Fewer m.tree n.tree
      go true f e = by_either (unused_erased m x) (rewrite_of CastBack m x) by_unused (by_rule (both (is_cast x m.tree) (not (eqb (head m.tree).id x)) f).0) e
      go false f e = absurd cc

by_first : (m n : Module) → HasDistinctIds m.tree → (xs : List ℕ) → first_rewrite (collapse m) xs ≡ becomes n → Fewer m.tree n.tree
by_first m n d [] e = absurd cc
by_first m n d (x ∷ xs) e = by_either m n x d (collapse m x) (first_rewrite (collapse m) xs) (by_collapse m n x d) (by_first m n d xs) e

-- a list with the casts of a tree still has them after one of them is erased
pub casts_stay : (m n : Module) (xs : List ℕ) → HasDistinctIds m.tree → HaveCasts xs m.tree → first_rewrite (collapse m) xs ≡ becomes n → HaveCasts xs n.tree
casts_stay m n xs d h e = still xs m.tree n.tree h (by_first m n d xs e)

-- ---- the first cast that is erased

not_taken : (m : Module) (x : ℕ) → is_cast x m.tree ≡ false → collapse m x ≡ none
not_taken m x e = ap (λ b. cond (b && not (eqb (head m.tree).id x)) (rewrite_or (unused_erased m x) (rewrite_of CastBack m x)) none) e

first_cast : (m : Module) (xs : List ℕ) → first_rewrite (collapse m) (casts_among xs m.tree) ≡ first_rewrite (collapse m) xs
first_cast m [] = refl
first_cast m (x ∷ xs) = go (is_cast x m.tree) refl (first_cast m xs)
  where
    go : (b : Bool) → is_cast x m.tree ≡ b → first_rewrite (collapse m) (casts_among xs m.tree) ≡ first_rewrite (collapse m) xs
        → first_rewrite (collapse m) (cond b (x ∷ casts_among xs m.tree) (casts_among xs m.tree)) ≡ rewrite_or (collapse m x) (first_rewrite (collapse m) xs)
    go true e r = ap (rewrite_or (collapse m x)) r
    go false e r = r ∙ sym (ap (λ w. rewrite_or w (first_rewrite (collapse m) xs)) (not_taken m x e))

-- it is the first one of the list
pub next_listed : (m : Module) (xs : List ℕ) → HaveCasts xs m.tree → first_rewrite (collapse m) xs ≡ next_collapse m
next_listed m xs h = sym (first_cast m xs) ∙ ap (first_rewrite (collapse m)) h ∙ first_cast m (ids m.tree)

-- the list of a tree's casts has the casts of the tree
pub casts_have : (t : Operation) (xs : List ℕ) → xs ≡ casts_among (ids t) t → HaveCasts xs t
casts_have t xs e = ap (λ ys. casts_among ys t) e ∙ filter_within (λ x. is_cast x t) (λ x. is_cast x t) (λ y h. h) (ids t)
