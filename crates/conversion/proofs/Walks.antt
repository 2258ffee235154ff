-- What the calls of a walk keep.
use Rattle.std.proofs.Common.{◌≡◌, refl, ap, sym, ◌∙◌, subst, inl, inr, ◌⊎◌, ℕ, zero, suc, ◌<◌, ◌≤◌, Bool, true, false, true≢false, cond, not, ◌||◌, eqb, eqb-true, eq-eqb, List, [], ◌∷◌, filter, length, Option, Some, None, arith}
use Rattle.std.specs.Prelude.{slice_get}
use Rattle.std.specs.List.{list_any}
use Rattle.std.proofs.lemmas.Bool.{cases_order}
use Rattle.ir_event.specs.types.Words.{is_isolated}
use Rattle.ir_event.specs.trees.Tree.{head}
use Rattle.ir_event.specs.trees.Ids.{ids}
use Rattle.ir_event.specs.trees.Meaning.{Operation}
use Rattle.ir_event.specs.trees.WellFormed.{IsWellFormed}
use Rattle.ir_event.specs.tree_laws.Members.{In}
use Rattle.ir_event.specs.tree_laws.Reads.{comes_after, precedes}
use Rattle.ir_event.proofs.of_tree_laws.Listed.{both}
use Rattle.ir_event.specs.Modules.{Module}
use Rattle.patterns_base.specs.Rewrites.{Rewrite, none, becomes}
use Rattle.conversion_base.specs.Listing.{HaveCasts}
use Rattle.conversion_base.specs.Reconciling.{collapse, first_rewrite, is_cast, next_collapse, rewrite_or}
use Rattle.conversion_base.proofs.Falls.{cast_there}
use Rattle.conversion_base.proofs.Listed.{next_listed}
use Rattle.conversion.specs.Waiting.{ArePlaces, Freed, Took, of_again, of_next}
use Rattle.conversion.specs.Walks.{Gives, NoRule, Walked, collapse_at, is_inner}
use Rattle.conversion.proofs.Steps.{none_of_parts, none_parts, only_erased, step_gone, step_of, still_none, still_stuck, was_inner}
use Rattle.ir_event.proofs.of_tree_laws.Facts.{in_or_not}
use Rattle.conversion.proofs.Waiting.{there_at}
use Rattle.std.proofs.lemmas.Option.{slice_get_within}

-- ---- lists

-- an entry comes before the entries at later indices
after_at : (xs : List ℕ) (q p y x : ℕ) → q < p → slice_get xs q ≡ Some y → slice_get xs p ≡ Some x → comes_after y x xs ≡ true
after_at [] q p y x l e f = absurd cc
after_at (u ∷ xs) q zero y x l e f = absurd (omega (arith, l))
after_at (u ∷ xs) zero (suc p) y x l e f = (let same : u ≡ y = cc in ap (λ b. cond b (list_any (λ z. eqb z x) xs) (comes_after y x xs)) (eq-eqb u y same) ∙ there_at xs p x f)
after_at (u ∷ xs) (suc q) (suc p) y x l e f = go (eqb u y) (there_at xs p x f) (after_at xs q p y x (omega (arith, l)) e f)
  where
    go : (b : Bool) → list_any (λ z. eqb z x) xs ≡ true → comes_after y x xs ≡ true → cond b (list_any (λ z. eqb z x) xs) (comes_after y x xs) ≡ true
    go true h k = h
    go false h k = k

-- so it does among the entries that pass a test
filter_there : (c : ℕ → Bool) (x : ℕ) → c x ≡ true → (xs : List ℕ) → list_any (λ z. eqb z x) (filter c xs) ≡ list_any (λ z. eqb z x) xs
filter_there c x h [] = refl
filter_there c x h (u ∷ xs) = go (c u) refl (filter_there c x h xs)
  where
    go : (b : Bool) → c u ≡ b → list_any (λ z. eqb z x) (filter c xs) ≡ list_any (λ z. eqb z x) xs → list_any (λ z. eqb z x) (cond b (u ∷ filter c xs) (filter c xs)) ≡ (eqb u x || list_any (λ z. eqb z x) xs)
    go true e r = ap (λ b. eqb u x || b) r
    go false e r = r ∙ sym (ap (λ b. b || list_any (λ z. eqb z x) xs) (other (eqb u x) refl))
      where
        other : (b : Bool) → eqb u x ≡ b → eqb u x ≡ false
        other false k = k
        other true k = absurd (true≢false (sym h ∙ ap c (sym (eqb-true u x k)) ∙ e))

filter_after : (c : ℕ → Bool) (y x : ℕ) → c y ≡ true → c x ≡ true → (xs : List ℕ) → comes_after y x (filter c xs) ≡ comes_after y x xs
filter_after c y x h k [] = refl
filter_after c y x h k (u ∷ xs) = go (c u) refl (filter_after c y x h k xs)
  where
    rest : List ℕ → Bool
    rest l = cond (eqb u y) (list_any (λ z. eqb z x) l) (comes_after y x l)

    go : (b : Bool) → c u ≡ b → comes_after y x (filter c xs) ≡ comes_after y x xs → comes_after y x (cond b (u ∷ filter c xs) (filter c xs)) ≡ cond (eqb u y) (list_any (λ z. eqb z x) xs) (comes_after y x xs)
    go true e r = λ i. cond (eqb u y) (filter_there c x k xs i) (r i)
    go false e r = r ∙ sym (ap (λ b. cond b (list_any (λ z. eqb z x) xs) (comes_after y x xs)) (other (eqb u y) refl))
      where
        other : (b : Bool) → eqb u y ≡ b → eqb u y ≡ false
        other false j = j
        other true j = absurd (true≢false (sym h ∙ ap c (sym (eqb-true u y j)) ∙ e))

-- the casts of a list are in pre-order
listed_before : (xs : List ℕ) (t : Operation) → HaveCasts xs t → (q p y x : ℕ) → q < p → slice_get xs q ≡ Some y → slice_get xs p ≡ Some x → is_cast y t ≡ true → is_cast x t ≡ true → precedes y x t ≡ true
listed_before xs t h q p y x l e f cy cx =
    let c = λ (z : ℕ). is_cast z t in
    sym (filter_after c y x cy cx (ids t)) ∙ ap (comes_after y x) (sym h) ∙ filter_after c y x cy cx xs ∙ after_at xs q p y x l e f

-- ---- the first rewrite of a list

rewrite_after : (f : ℕ → Rewrite) (xs : List ℕ) (p x : ℕ) → slice_get xs p ≡ Some x → ((q y : ℕ) → q < p → slice_get xs q ≡ Some y → f y ≡ none) → (r : Rewrite) × (first_rewrite f xs ≡ rewrite_or (f x) r)
rewrite_after f [] p x e h = absurd cc
rewrite_after f (u ∷ xs) zero x e h = (let same : u ≡ x = cc in (first_rewrite f xs, ap (λ z. rewrite_or (f z) (first_rewrite f xs)) same))
rewrite_after f (u ∷ xs) (suc p) x e h =
    (let r = rewrite_after f xs p x e (λ q y l g. h (suc q) y (omega (arith, l)) g) in
    let first = h zero u (omega arith) refl in
    (r.0, ap (λ a. rewrite_or a (first_rewrite f xs)) first ∙ r.1))

rewrite_none : (f : ℕ → Rewrite) (xs : List ℕ) → ((q y : ℕ) → slice_get xs q ≡ Some y → f y ≡ none) → first_rewrite f xs ≡ none
rewrite_none f [] h = refl
rewrite_none f (u ∷ xs) h = ap (λ a. rewrite_or a (first_rewrite f xs)) (h zero u refl) ∙ rewrite_none f xs (λ q y e. h (suc q) y e)

-- ---- a walk

pub walked_none : (xs : List ℕ) (m : Module) → Walked xs 0 [] m
walked_none xs m = record { within = λ q h. absurd h; stuck = λ q x l e. absurd (omega (arith, l)); settled = λ q x l e. absurd (omega (arith, l)) }

-- no index waits: no cast is erased
pub none_waits : (xs : List ℕ) (passed : ℕ) (again : List ℕ) (m : Module) → HaveCasts xs m.tree → Walked xs passed again m → again ≡ [] → length xs ≤ passed → next_collapse m ≡ none
none_waits xs passed again m h w e l = sym (next_listed m xs h) ∙ rewrite_none (collapse m) xs (λ q y g.
    let n = slice_get_within xs q y g in
    elim (w.settled q y (omega (arith, n, l)) g) [ inl k ↦ absurd (subst (In q) e k) | inr k ↦ k ])

module _ (xs : List ℕ) (passed : ℕ) (again : List ℕ) (passed2 : ℕ) (again2 : List ℕ) (p : ℕ) (m : Module) (w : Walked xs passed again m) where
  -- no cast before the taken index is erased
  before_none : Took passed again passed2 again2 p → (q y : ℕ) → q < p → slice_get xs q ≡ Some y → collapse m y ≡ none
  before_none (of_again is same trailing) q y l e = elim (w.settled q y (omega (arith, l, w.within p (subst (In p) (sym is) (inl refl)))) e) [
    | inr k ↦ k
    | inl k ↦ elim (subst (In q) is k) [ inl i ↦ absurd (omega (arith, l, i)) | inr i ↦ absurd (omega (arith, l, trailing q i)) ]
  ]
  before_none (of_next is empty at more) q y l e = elim (w.settled q y (omega (arith, l, at)) e) [ inr k ↦ k | inl k ↦ absurd (subst (In q) is k) ]

  same_at : (q : ℕ) (x y : ℕ) → q ≡ p → slice_get xs q ≡ Some y → slice_get xs p ≡ Some x → y ≡ x
  same_at q x y e f g = (let two : Some y ≡ Some x = sym f ∙ ap (slice_get xs) e ∙ g in cc)

  rule_of : (a : Option ℕ) → slice_get xs p ≡ a → collapse_at m a ≡ none → (y : ℕ) → slice_get xs p ≡ Some y → collapse m y ≡ none
  rule_of None e c y f = (let no : None ≡ Some y = sym e ∙ f in absurd cc)
  rule_of (Some x) e c y f = (let two : Some x ≡ Some y = sym e ∙ f in let same : x ≡ y = cc in subst (λ z. collapse m z ≡ none) same c)

  stuck_none : (y : ℕ) → collapse m y ≡ none → NoRule y m
  stuck_none y c i = (none_parts m y c i).1

  -- if the cast at the taken index isn't erased either, the walk continues
  pub walked_on : Took passed again passed2 again2 p → collapse_at m (slice_get xs p) ≡ none → Walked xs passed2 again2 m
  walked_on (of_again is same trailing) c = record {
    within = λ q h. subst (λ k. q < k) (sym same) (w.within q (subst (In q) (sym is) (inr h)));
    stuck = λ q y l e. w.stuck q y (omega (arith, l, same)) e;
    settled = λ q y l e. elim (w.settled q y (omega (arith, l, same)) e) [
      | inr k ↦ inr k
      | inl k ↦ elim (subst (In q) is k) [
        | inl i ↦ inr (rule_of (slice_get xs p) refl c y (ap (slice_get xs) (sym i) ∙ e))
        | inr i ↦ inl i
      ]
    ];
  }
  walked_on (of_next is empty at more) c = record {
    within = λ q h. absurd (subst (In q) empty h);
    stuck = λ q y l e. elim (cases_order q passed) [
      | inl i ↦ stuck_none y (rule_of (slice_get xs p) refl c y (ap (slice_get xs) (at ∙ sym i) ∙ e))
      | inr (inl i) ↦ w.stuck q y i e
      | inr (inr i) ↦ absurd (omega (arith, l, more, i))
    ];
    settled = λ q y l e. elim (cases_order q passed) [
      | inl i ↦ inr (rule_of (slice_get xs p) refl c y (ap (slice_get xs) (at ∙ sym i) ∙ e))
      | inr (inl i) ↦ elim (w.settled q y i e) [ inr k ↦ inr k | inl k ↦ absurd (subst (In q) is k) ]
      | inr (inr i) ↦ absurd (omega (arith, l, more, i))
    ];
  }

  -- if the cast at the taken index is erased, it is the first one
  pub taken_first : HaveCasts xs m.tree → Took passed again passed2 again2 p → (x : ℕ) → slice_get xs p ≡ Some x → (r : Rewrite) × (next_collapse m ≡ rewrite_or (collapse m x) r)
  taken_first h k x e = let r = rewrite_after (collapse m) xs p x e (before_none k) in (r.0, sym (next_listed m xs h) ∙ r.1)

  module _ (n : Module) (x : ℕ) (at_p : slice_get xs p ≡ Some x) (wellformed : IsWellFormed is_isolated m) (listed : HaveCasts xs m.tree) (e : collapse m x ≡ becomes n) where
    inner_x : is_inner x m ≡ true
    inner_x = (step_of m n x e).0

    -- the passed casts stay as they are
    passed_stuck : Took passed again passed2 again2 p → (q y : ℕ) → q < passed2 → slice_get xs q ≡ Some y → NoRule y n
    passed_stuck (of_again is same trailing) q y l f =
        still_stuck m n x wellformed e y (inl (only_erased m n x (w.stuck p x (w.within p (subst (In p) (sym is) (inl refl))) at_p) e)) (w.stuck q y (omega (arith, l, same)) f)
    passed_stuck (of_next is empty at more) q y l f = elim (cases_order q passed) [
      | inl i ↦ (λ j. absurd (step_gone m n x wellformed e (subst (λ z. is_inner z n ≡ true) (same_at q x y (i ∙ sym at) f at_p) j)))
      | inr (inl i) ↦ (λ j.
          let inner = was_inner m n x wellformed e y j in
          let cy = (both (is_cast y m.tree) (not (eqb (head m.tree).id y)) inner).0 in
          let cx = (both (is_cast x m.tree) (not (eqb (head m.tree).id x)) inner_x).0 in
          still_stuck m n x wellformed e y (inr (listed_before xs m.tree listed q p y x (omega (arith, i, at)) f at_p cy cx)) (w.stuck q y i f) j)
      | inr (inr i) ↦ absurd (omega (arith, l, more, i))
    ]

    gone_x : collapse n x ≡ none
    gone_x = none_of_parts n x (λ i. absurd (step_gone m n x wellformed e i))

    taken_within : Took passed again passed2 again2 p → (q : ℕ) → In q again2 → q < passed2
    taken_within (of_again is same trailing) q h = subst (λ k. q < k) (sym same) (w.within q (subst (In q) (sym is) (inr h)))
    taken_within (of_next is empty at more) q h = absurd (subst (In q) empty h)

    module _ (gs : List ℕ) (gives : Gives gs x m.tree) where
      -- a cast that is no defining operation of an operand still isn't erased
      other_none : (q y : ℕ) → q < passed2 → (Took passed again passed2 again2 p) → slice_get xs q ≡ Some y → (In y gs → ⊥) → collapse m y ≡ none → collapse n y ≡ none
      other_none q y l k f apart c =
          let o = cast_there x m.tree (both (is_cast x m.tree) (not (eqb (head m.tree).id x)) inner_x).0 in
          let g = gives o.0 o.1 in
          still_none m n x wellformed e o.0 o.1 g.0 y (λ h. apart (subst (In y) (sym g.1) h)) (passed_stuck k q y l f) c

      not_given : (k : Took passed again passed2 again2 p) → (q y : ℕ) → q < passed2 → slice_get xs q ≡ Some y → (In y gs → ⊥) → In q again2 ⊎ (collapse n y ≡ none)
      not_given k q y l f apart = elim (cases_order q p) [
        | inl i ↦ inr (ap (collapse n) (same_at q x y i f at_p) ∙ gone_x)
        | inr i ↦ other k (λ j. elim i [ inl a ↦ omega (arith, a, j) | inr a ↦ omega (arith, a, j) ])
      ]
        where
          other : (k : Took passed again passed2 again2 p) → (q ≡ p → ⊥) → In q again2 ⊎ (collapse n y ≡ none)
          other (of_again is same trailing) ne = elim (w.settled q y (omega (arith, l, same)) f) [
            | inr c ↦ inr (other_none q y l (of_again is same trailing) f apart c)
            | inl h ↦ elim (subst (In q) is h) [ inl i ↦ absurd (ne i) | inr i ↦ inl i ]
          ]
          other (of_next is empty at more) ne = elim (cases_order q passed) [
            | inl i ↦ absurd (ne (i ∙ sym at))
            | inr (inl i) ↦ elim (w.settled q y i f) [ inr c ↦ inr (other_none q y l (of_next is empty at more) f apart c) | inl h ↦ absurd (subst (In q) is h) ]
            | inr (inr i) ↦ absurd (omega (arith, l, more, i))
          ]

    -- if the cast at the taken index is erased, the defining operations of its operands wait again
    pub walked_after : Took passed again passed2 again2 p → (gs : Option (List ℕ)) → ((l : List ℕ) → gs ≡ Some l → Gives l x m.tree) → (f : ℕ → Option ℕ) → ArePlaces xs f → (passed3 : ℕ) (again3 : List ℕ) → Freed gs f passed2 again2 passed3 again3 → Walked xs passed3 again3 n
    walked_after k None gives f places passed3 again3 freed = subst (λ l. Walked xs passed3 l n) (sym freed.1) (subst (λ j. Walked xs j [] n) (sym freed.0) (walked_none xs n))
    walked_after k (Some gs) gives f places passed3 again3 freed = record {
      within = λ q h. elim (freed.within q h) [
        | inl i ↦ (let l = taken_within k q i in omega (arith, l, freed.same))
        | inr i ↦ omega (arith, i, freed.same)
      ];
      stuck = λ q y l g. passed_stuck k q y (omega (arith, l, freed.same)) g;
      settled = λ q y l g. elim (in_or_not y gs) [
        | inl h ↦ inl (freed.added y q h (places q y g) (omega (arith, l, freed.same)))
        | inr h ↦ elim (not_given gs (gives gs refl) k q y (omega (arith, l, freed.same)) g h) [ inl i ↦ inl (freed.more q i) | inr c ↦ inr c ]
      ];
    }
