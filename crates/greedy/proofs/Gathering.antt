-- The list of operations after events, assembled from its parts.
use Rattle.std.proofs.Common.{◌≡◌, refl, ap, sym, ◌∙◌, subst, ℕ, true, false, true≢false, cond, ◌||◌, ◌&&◌, eqb, List, [], ◌∷◌, ◌++◌, length, drop, Option, Some, None, inl, inr, ◌⊎◌}
use Rattle.std.specs.Prelude.{option_map}
use Rattle.std.specs.List.{list_any, IsDistinct}
use Rattle.ir_event.specs.types.Things.{ContextModel}
use Rattle.ir_event.specs.types.Terms.{name_term, type_term, attr_term}
use Rattle.ir_event.specs.trees.Tree.{Op}
use Rattle.ir_event.specs.trees.Ids.{HasDistinctIds, ids}
use Rattle.ir_event.specs.trees.Meaning.{meaning}
use Rattle.ir_event.proofs.of_trees.Mapped.{map_ids, map_uses}
use Rattle.ir_event.specs.trees.declared.value.Value.{Value}
use Rattle.ir_event.specs.trees.declared.value.Value.TheVariants.{Result, Arg}
use Rattle.ir_event.specs.trees.Uses.{uses_of}
use Rattle.effects.specs.Dead.{is_unused}
use Rattle.effects.proofs.Unused.{used_result}
use Rattle.ir_event.specs.store.Nodes.{NodeOf}
use Rattle.ir_event.specs.tree_laws.Members.{In}
use Rattle.std.proofs.Math.Seq.{drop-append_seam}
use Rattle.ir_event.proofs.of_tree_laws.Listed.{bool_cases, either, in_parts, neither}
use Rattle.ir_event.specs.declared.event.Event.{Event}
use Rattle.ir_event.specs.declared.event.Event.TheVariants.{Put, Take, SetOperand, SetEntry, Shift}
use Rattle.ir_event.specs.declared.world.World.{World}
use Rattle.ir_event.specs.Modules.{Module, module_in}
use Rattle.listeners_support.specs.Surroundings.{SurroundingsOf, OuterOf, surroundings}
use Rattle.listeners_support.specs.Mapped.{map_node, map_outer, map_surroundings}
use Rattle.listeners_support.proofs.Meanings.{mapped_surroundings}
use Rattle.greedy.specs.Listing.{ListsUpTo, Touched, TouchedUpTo, entries_after}
use Rattle.greedy.specs.Near.{lost_values, Leads}
use Rattle.greedy.specs.Reached.{ends, ends_of, is_end, reaches, any_reaches}
use Rattle.greedy.specs.LocalContext.{Uses, defining_op, is_listed, operands_of}
use Rattle.greedy.proofs.Applying.{touched_all}
use Rattle.greedy.specs.Adding.{Adds, Grown, OneOf}
use Rattle.greedy.specs.Parts.{IsAround, IsOver, IsReached, IsReachedUpTo, IsNextTo, IsSeer, leaves, puts_last, any_puts_last}
use Rattle.greedy.specs.Shown.{shown_operands}
use Rattle.greedy.proofs.Adding.{grown_more, in_listed, listed_in}
use Rattle.greedy.proofs.Climbing.{same_climbs}
use Rattle.greedy.proofs.Beyond.{then_after}
use Rattle.greedy.proofs.Cuts.{in_either, left_in, right_in}
use Rattle.greedy.proofs.Using.{handed_on, user_after}
use Rattle.std.proofs.lemmas.Bool.{false_from_ne_true}
use Rattle.ir_event.specs.tree_laws.Reads.{comes_after, precedes}

-- ---- reading the tree of terms agrees with reading the tree of interned numbers
module _ {N T A M U B : Type 0} (f : N → M) (g : T → U) (h : A → B) where
  same_end : (p : ℕ) (s : Option (SurroundingsOf N T A)) → ends_of p (option_map (map_surroundings f g h) s) ≡ ends_of p s
  same_end p None = refl
  same_end p (Some s) = outer s.outer
    where
      ended : (u : OuterOf N T A) (n : Option (NodeOf N T A)) → ends_of p (Some (record (map_surroundings f g h s) { outer = Some (record (map_outer f g h u) { ended = option_map (map_node f g h) n }) })) ≡ ends_of p (Some (record s { outer = Some (record u { ended = n }) }))
      ended u None = refl
      ended u (Some n) = refl

      outer : (o : Option (OuterOf N T A)) → ends_of p (Some (record (map_surroundings f g h s) { outer = option_map (map_outer f g h) o })) ≡ ends_of p (Some (record s { outer = o }))
      outer None = refl
      outer (Some u) = ended u u.ended

  same_operands : (s : Option (SurroundingsOf N T A)) → operands_of (option_map (map_surroundings f g h) s) ≡ operands_of s
  same_operands None = refl
  same_operands (Some s) = refl

module _ (c : ContextModel) (t : Op) where
  meant : (y : ℕ) → surroundings y (meaning c t) ≡ option_map (map_surroundings (name_term c) (type_term c) (attr_term c)) (surroundings y t)
  meant y = mapped_surroundings (name_term c) (type_term c) (attr_term c) y t

  same_ends : (p y : ℕ) → ends p y (meaning c t) ≡ ends p y t
  same_ends p y = ap (ends_of p) (meant y) ∙ same_end (name_term c) (type_term c) (attr_term c) p (surroundings y t)

  same_uses : (x y : ℕ) → Uses x y (meaning c t) → Uses x y t
  same_uses x y u = (u.0, subst (In u.0) (ap operands_of (meant x) ∙ same_operands (name_term c) (type_term c) (attr_term c) (surroundings x t)) u.1, u.2)

  same_reach : (e : Event) (y : ℕ) → reaches e y (meaning c t) ≡ reaches e y t
  same_reach (Put x place fresh) y = refl
  same_reach (Take x place fresh) y = ap (λ b. eqb x y || (is_end place && (eqb place.parent y || b))) (same_ends place.parent y)
  same_reach (SetOperand x k old new) y = ap (λ b. eqb x y || b) (same_ends x y)
  same_reach (SetEntry x part key old new) y = ap (λ b. eqb x y || b) (same_ends x y)
  same_reach (Shift x old new) y = ap (λ b. eqb x y || (is_end new || (is_end old && (eqb old.parent y || b)))) (same_ends old.parent y)

  one_reaches : (es : List Event) → any_puts_last es ≡ false → (y : ℕ) → any_reaches es y (meaning c t) ≡ true → OneOf (IsReached t) es y
  one_reaches [] i y h = absurd (true≢false (sym h))
  one_reaches (e ∷ es) i y h =
      let n = neither (puts_last e) (any_puts_last es) i in
      elim (either (reaches e y (meaning c t)) (any_reaches es y (meaning c t)) h) [
        | inl k ↦ (e, inl refl, (n.0, sym (same_reach e y) ∙ k))
        | inr k ↦ (let w = one_reaches es n.1 y k in (w.0, inr w.1, w.2))
      ]

-- ---- the operations after an operation
pub after_listed : (a x : ℕ) (xs : List ℕ) → is_listed x (entries_after a xs) ≡ comes_after a x xs
after_listed a x [] = refl
after_listed a x (y ∷ xs) = elim (eqb y a) as (λ b. is_listed x (cond b xs (entries_after a xs)) ≡ cond b (is_listed x xs) (comes_after a x xs)) [ true ↦ refl | false ↦ after_listed a x xs ]

-- ---- all parts, by interned numbers
abbrev used_by : World → ℕ → ℕ → Type 0
used_by w y x = Uses x y w.store.module_of.tree

abbrev seer_of : World → ℕ → ℕ → ℕ → Type 0
seer_of w passed y x = IsSeer w.store.module_of.tree passed y x

module _ (w : World) (es : List Event) (inner : any_puts_last es ≡ false) (passed : ℕ) (none reached seen second users listed : List ℕ) (n : ℕ) (from : n ≡ length reached)
    (at_reached : Adds (OneOf (IsReachedUpTo w.store.module_of.tree passed) es) none reached)
    (at_seen : Adds (OneOf (seer_of w passed) (drop 0 reached)) reached seen)
    (at_around : Adds (OneOf (IsAround w.store.module_of.tree) seen) seen second)
    (at_users : Adds (OneOf (seer_of w passed) (drop n second)) second users)
    (at_next_to : Adds (OneOf (IsNextTo w) es) users listed) where
  abbrev t : Op
  t = w.store.module_of.tree

  d : HasDistinctIds t
  d = w.wellformed.distinct

  -- the list, and all operations after `passed`
  abbrev all : List ℕ
  all = listed ++ entries_after passed (ids (module_in w).tree)

  in_all : (x : ℕ) → is_listed x listed ≡ true → is_listed x all ≡ true
  in_all x h = left_in x listed (entries_after passed (ids (module_in w).tree)) h

  after_all : (x : ℕ) → precedes passed x t ≡ true → is_listed x all ≡ true
  after_all x h = right_in x listed (entries_after passed (ids (module_in w).tree))
      (after_listed passed x (ids (module_in w).tree) ∙ ap (comes_after passed x) (map_ids (name_term w.ctx) (type_term w.ctx) (attr_term w.ctx) t) ∙ h)

  -- operations that are seen stay listed
  stays : (x : ℕ) → is_listed x seen ≡ true → is_listed x listed ≡ true
  stays x h = at_next_to.kept x (at_users.kept x (at_around.kept x h))

  -- an operation after `passed`, with what is over it in the list
  record IsSkipped (y : ℕ) : Type 0 where
    later : precedes passed y t ≡ true
    over : (x : ℕ) → IsOver t y x → is_listed x all ≡ true

  -- an operation that is reached is listed first, or comes after `passed`
  reached_one : (y : ℕ) → any_reaches es y (module_in w).tree ≡ true → (is_listed y reached ≡ true) ⊎ IsSkipped y
  reached_one y h = (let r = one_reaches w.ctx t es inner y h in by_event r.0 r.1 r.2 (bool_cases (leaves r.0)) (bool_cases (precedes passed y t)))
    where
      add : (e : Event) → In e es → (x : ℕ) → IsReachedUpTo t passed e x → is_listed x reached ≡ true
      add e i x k = at_reached.added x (e, i, k)

      by_event : (e : Event) → In e es → IsReached t e y → (leaves e ≡ true) ⊎ (leaves e ≡ false) → (precedes passed y t ≡ true) ⊎ (precedes passed y t ≡ false) → (is_listed y reached ≡ true) ⊎ IsSkipped y
      by_event e i k (inl l) p = inl (add e i y (inl (l, k)))
      by_event e i k (inr l) (inr n) = inl (add e i y (inr (l, (n, inl k))))
      by_event e i k (inr l) (inl p) = inr (record {
        later = p;
        over = λ x o. elim (bool_cases (precedes passed x t)) [
          | inl q ↦ after_all x q
          | inr n ↦ in_all x (stays x (at_seen.kept x (add e i x (inr (l, (n, inr (y, k, p, o)))))))
        ];
      })

  used : (x y : ℕ) → Uses x y (module_in w).tree → used_by w y x
  used x y u = same_uses w.ctx t x y u

  -- a user of an operation after `passed` comes after `passed`
  later_user : (y x : ℕ) → precedes passed y t ≡ true → used_by w y x → precedes passed x t ≡ true
  later_user y x p u = then_after t d passed y x p (user_after w y x u)

  -- a user is found from its operation, or comes after `passed`
  seer_or_later : (y x : ℕ) → used_by w y x → seer_of w passed y x ⊎ (precedes passed x t ≡ true)
  seer_or_later y x u = elim (bool_cases (precedes passed y t)) [ inl p ↦ inr (later_user y x p u) | inr p ↦ inl (inl (u, p)) ]

  user_one : (y x : ℕ) → is_listed y reached ≡ true → used_by w y x → (is_listed x seen ≡ true) ⊎ (precedes passed x t ≡ true)
  user_one y x h u = elim (seer_or_later y x u) [ inl s ↦ inl (at_seen.added x (y, listed_in y reached h, s)) | inr p ↦ inr p ]

  reached_user : (y x : ℕ) → any_reaches es y (module_in w).tree ≡ true → used_by w y x → (is_listed x seen ≡ true) ⊎ (precedes passed x t ≡ true)
  reached_user y x h u = elim (reached_one y h) [ inl k ↦ user_one y x k u | inr s ↦ inr (later_user y x s.later u) ]

  -- the users of the first operations are seen, and the users of the new ones are listed next
  user_next : (y x : ℕ) → is_listed y seen ≡ true → used_by w y x → is_listed x all ≡ true
  user_next y x h u = elim (in_parts y reached more.0 (subst (In y) more.1 (listed_in y second (at_around.kept y h)))) [
    | inl i ↦ elim (user_one y x (in_listed y reached i) u) [ inl k ↦ in_all x (stays x k) | inr p ↦ after_all x p ]
    | inr i ↦ elim (seer_or_later y x u) [ inl s ↦ in_all x (at_next_to.kept x (at_users.added x (y, subst (In y) (sym trailing) i, s))) | inr p ↦ after_all x p ]
  ]
    where
      more : Grown reached second
      more = grown_more reached seen second at_seen.grown at_around.grown

      trailing : drop n second ≡ more.0
      trailing = (λ j. drop (from j) (more.1 j)) ∙ drop-append_seam reached more.0

  around_one : (y x : ℕ) → is_listed y seen ≡ true → ends x y (module_in w).tree ≡ true → is_listed x all ≡ true
  around_one y x h k = in_all x (at_next_to.kept x (at_users.kept x (at_around.added x (y, listed_in y seen h, sym (same_ends w.ctx t x y) ∙ k))))

  -- the parent of a user that ends a block
  around_user : (z l x : ℕ) → is_listed z reached ≡ true → used_by w z l → ends x l (module_in w).tree ≡ true → is_listed x all ≡ true
  around_user z l x h u k = elim (bool_cases (precedes passed z t)) [
    | inr p ↦ around_one l x (at_seen.added l (z, listed_in z reached h, inl (u, p))) k
    | inl p ↦ elim (handed_on w z l x u (sym (same_ends w.ctx t x l) ∙ k)) [
      | inl b ↦ after_all x (then_after t d passed z x p b)
      | inr g ↦ in_all x (stays x (at_seen.added x (z, listed_in z reached h, inr (p, g))))
    ]
  ]

  around_skipped : (z l x : ℕ) → IsSkipped z → used_by w z l → ends x l (module_in w).tree ≡ true → is_listed x all ≡ true
  around_skipped z l x s u k = elim (handed_on w z l x u (sym (same_ends w.ctx t x l) ∙ k)) [
    | inl b ↦ after_all x (then_after t d passed z x s.later b)
    | inr g ↦ s.over x (inr g)
  ]

  -- a value that lost a use has none left, or is still used
  lost_one : (e : Event) → In e es → (v : Value) → In v (lost_values (shown_operands w.store) e) → (y : ℕ) → defining_op v ≡ Some y → (us : List (ℕ × ℕ)) → uses_of v t ≡ us
      → (is_listed y all ≡ true) ⊎ (is_unused y (module_in w).tree ≡ false)
  lost_one e h v k y g [] none = inl (in_all y (at_next_to.added y (e, h, inl (inr (v, k, (g, none))))))
  lost_one e h (Arg a r j) k y g (u ∷ us) some = absurd cc
  lost_one e h (Result a j) k y g (u ∷ us) some =
      let same : a ≡ y = cc in
      inr (subst (λ z. is_unused z (module_in w).tree ≡ false) same (sym (used_result a j (module_in w).tree (λ none.
      let bad : u ∷ us ≡ [] = sym some ∙ sym (map_uses (name_term w.ctx) (type_term w.ctx) (attr_term w.ctx) (Result a j) t) ∙ none in
      absurd cc))))

  pub all_listed : ListsUpTo passed (shown_operands w.store) es listed (module_in w).tree
  all_listed = record {
    seers = record {
      itself = λ y h. elim (reached_one y h) [ inl k ↦ in_all y (stays y (at_seen.kept y k)) | inr s ↦ after_all y s.later ];
      users = λ y x h u. elim (reached_user y x h (used x y u)) [ inl k ↦ in_all x (stays x k) | inr p ↦ after_all x p ];
      users_of_users = λ z y x h u v. elim (reached_user z y h (used y z u)) [
        | inl k ↦ user_next y x k (used x y v)
        | inr p ↦ after_all x (later_user y x p (used x y v))
      ];
    };
    around = record {
      around = λ l x h e. elim (reached_one l h) [
        | inl k ↦ around_one l x (at_seen.kept l k) e
        | inr s ↦ s.over x (inl (sym (same_ends w.ctx t x l) ∙ e))
      ];
      around_users = λ z l x h u e. elim (reached_one z h) [
        | inl k ↦ around_user z l x k (used l z u) e
        | inr s ↦ around_skipped z l x s (used l z u) e
      ];
    };
    found_gained = λ e h v k y g. in_all y (at_next_to.added y (e, h, inl (inl (v, k, g))));
    found_lost = λ e h v k y g. lost_one e h v k y g (uses_of v t) refl;
    climbs = λ e h o k n y c. in_all y (at_next_to.added y (e, h, inr (o, k, (n, same_climbs w.ctx t n y o c))));
  }

-- ---- all operations
pub all_touched : (w : World) (listed : List ℕ) → listed ≡ ids w.store.module_of.tree → (m : Module) → Touched m (module_in w) listed
all_touched w listed e m x h none =
    let is : is_listed x listed ≡ true = ap (list_any (λ y. eqb y x)) (e ∙ sym (map_ids (name_term w.ctx) (type_term w.ctx) (attr_term w.ctx) w.store.module_of.tree)) ∙ h in
    absurd (true≢false (sym is ∙ none))

-- the theorem, applied to the list of operations near the events
pub near_touched : (w : World) (es : List Event) (passed : ℕ) (listed : List ℕ) → ListsUpTo passed (shown_operands w.store) es listed (module_in w).tree → (m : Module) → Leads (shown_operands w.store) w.ctx es m (module_in w) → TouchedUpTo passed m (module_in w) listed
near_touched w es passed listed k m l x h u p = touched_all (shown_operands w.store) w.ctx es m (module_in w) l distinct (listed ++ later) k x h
    (false_from_ne_true (is_listed x (listed ++ later)) (λ i. elim (in_either x listed later i) [
      | inl j ↦ true≢false (sym j ∙ u)
      | inr j ↦ true≢false (sym j ∙ after_listed passed x (ids (module_in w).tree) ∙ p)
    ]))
  where
    later : List ℕ
    later = entries_after passed (ids (module_in w).tree)

    distinct : HasDistinctIds (module_in w).tree
    distinct = subst (IsDistinct eqb) (sym (map_ids (name_term w.ctx) (type_term w.ctx) (attr_term w.ctx) w.store.module_of.tree)) w.wellformed.distinct
