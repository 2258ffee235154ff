-- What the calls of a worklist keep.
use Rattle.std.proofs.Common.{◌≡◌, refl, ap, sym, ◌∙◌, subst, ℕ, zero, suc, ◌+◌, ◌-◌, ◌<◌, inl, inr, ◌⊎◌, Bool, true, false, cond, ◌||◌, eqb, eqb-true, eq-eqb, List, [], ◌∷◌, ◌++◌, true≢false, arith, length, Some, None, filter, not, take, drop, slice_index_or}
use Rattle.std.specs.List.{AllWithin}
use Rattle.std.specs.List.Sorted.{IsPartitionPoint, IsPartitionedBy}
use Rattle.std.proofs.lemmas.Bool.{cases_order, or_cases, false_from_ne_true, or_left, or_right}
use Rattle.ir_event.specs.trees.Ids.{ids, has_id, HasDistinctIds}
use Rattle.ir_event.specs.trees.Meaning.{Operation}
use Rattle.ir_event.specs.tree_laws.Reads.{precedes}
use Rattle.ir_event.proofs.of_tree_laws.Listed.{bool_cases}
use Rattle.ir_event.specs.Modules.{Module}
use Rattle.greedy.specs.Following.{following}
use Rattle.greedy.specs.Work.{Falls, IsWork, Parted, Rewritten, begins_with, waits, Taken, NoneWaits, StillWaits}
use Rattle.greedy.specs.LocalContext.{is_listed}
use Rattle.greedy.proofs.Listed.{listed_past, listed_at, listed_more, first_there, second_there}
use Rattle.greedy.proofs.Order.{rank, same_rank, rises, after_from_rank, next_there, next_rank, next_none, counted}

pub listed_end : (z : ℕ) (ys : List ℕ) (x : ℕ) → is_listed z (ys ++ x ∷ []) ≡ true → (is_listed z ys ≡ true) ⊎ (z ≡ x)
listed_end z [] x h = elim (or_cases (eqb x z) false h) [ inl e ↦ inr (sym (eqb-true x z e)) | inr e ↦ absurd (true≢false (sym e)) ]
listed_end z (y ∷ ys) x h = elim (bool_cases (eqb y z)) [
  | inl e ↦ inl (listed_at y z ys e)
  | inr e ↦ elim (listed_end z ys x (listed_past y z (ys ++ x ∷ []) e h)) [ inl k ↦ inl (listed_more y z ys k) | inr k ↦ inr k ]
]

pub listed_preceding : (z : ℕ) (ys : List ℕ) (x : ℕ) → is_listed z ys ≡ true → is_listed z (ys ++ x ∷ []) ≡ true
listed_preceding z [] x h = absurd (true≢false (sym h))
listed_preceding z (y ∷ ys) x h = elim (bool_cases (eqb y z)) [
  | inl e ↦ listed_at y z (ys ++ x ∷ []) e
  | inr e ↦ listed_more y z (ys ++ x ∷ []) (listed_preceding z ys x (listed_past y z ys e h))
]

pub listed_last : (ys : List ℕ) (x : ℕ) → is_listed x (ys ++ x ∷ []) ≡ true
listed_last [] x = listed_at x x [] (eq-eqb x x refl)
listed_last (y ∷ ys) x = listed_more y x (ys ++ x ∷ []) (listed_last ys x)

-- popping from an empty list
pub none_popped : (xs ys : List ℕ) (n : ℕ) → ys ≡ take (n - 1) xs → n ≡ 0 → ys ≡ []
none_popped xs ys n e z = e ∙ ap (λ k. take (k - 1) xs) z

pub none_left : (xs ys : List ℕ) (n : ℕ) → xs ≡ ys ++ [] → ys ≡ take (n - 1) xs → n ≡ 0 → xs ≡ []
none_left xs ys n e f z = e ∙ ap (λ zs. zs ++ []) (none_popped xs ys n f z)

module _ (t : Operation) (d : HasDistinctIds t) where
  -- the pre-order of a tree, as ranks
  pub up : (a b : ℕ) → precedes a b t ≡ true → rank a (ids t) < rank b (ids t)
  up a b h = rises a b (ids t) d h

  pub not_itself : (a : ℕ) → precedes a a t ≡ true → ⊥
  not_itself a h = omega (arith, up a a h)

  pub not_both : (a b : ℕ) → precedes a b t ≡ true → precedes b a t ≡ true → ⊥
  not_both a b h k = omega (arith, up a b h, up b a k)

  pub through : (a b c : ℕ) → precedes a b t ≡ true → precedes b c t ≡ true → precedes a c t ≡ true
  through a b c h k = after_from_rank a c (ids t) (first_there a b (ids t) h) (second_there b c (ids t) k) (omega (arith, up a b h, up b c k))

  -- if an operation doesn't come before another, they are the same or it comes after
  pub else_after : (a b : ℕ) → has_id a t ≡ true → has_id b t ≡ true → precedes a b t ≡ false → (a ≡ b) ⊎ (precedes b a t ≡ true)
  else_after a b h k n = elim (cases_order (rank a (ids t)) (rank b (ids t))) [
    | inl e ↦ inl (same_rank a b (ids t) h k e)
    | inr (inl l) ↦ absurd (true≢false (sym (after_from_rank a b (ids t) h k l) ∙ n))
    | inr (inr l) ↦ inr (after_from_rank b a (ids t) k h l)
  ]

  -- the last entry of a list in reverse pre-order is the first in pre-order
  pub falls_preceding : (ys : List ℕ) (x : ℕ) → Falls t (ys ++ x ∷ []) → Falls t ys × ((z : ℕ) → is_listed z ys ≡ true → precedes x z t ≡ true)
  falls_preceding [] x f = (tt, λ z h. absurd (true≢false (sym h)))
  falls_preceding (y ∷ ys) x f =
      let r = falls_preceding ys x f.1 in (
        (λ z h. f.0 z (listed_preceding z ys x h), r.0),
        λ z h. elim (bool_cases (eqb y z)) [
          | inl e ↦ subst (λ w. precedes x w t ≡ true) (eqb-true y z e) (f.0 x (listed_last ys x))
          | inr e ↦ r.1 z (listed_past y z ys e h)
        ],
      )

  -- taking the last operation of `again`
  module _ (passed : ℕ) (ys : List ℕ) (x : ℕ) (w : IsWork passed (ys ++ x ∷ []) t) where
    again : List ℕ
    again = ys ++ x ∷ []

    x_after : precedes passed x t ≡ false
    x_after = w.trailing x (listed_last ys x)

    pub taken_again : Taken x passed (ys ++ x ∷ []) passed ys t
    taken_again = record {
      there = w.inside x (listed_last ys x);
      first = λ z h. false_from_ne_true (waits passed (ys ++ x ∷ []) t z) (λ v. elim (or_cases (precedes passed z t) (is_listed z (ys ++ x ∷ [])) v) [
        | inl e ↦ true≢false (sym (through passed z x e h) ∙ x_after)
        | inr e ↦ elim (listed_end z ys x e) [
          | inl k ↦ not_both z x h ((falls_preceding ys x w.falls).1 z k)
          | inr k ↦ not_itself x (subst (λ v. precedes v x t ≡ true) k h)
        ]
      ]);
      others = λ z i v. elim (or_cases (precedes passed z t) (is_listed z (ys ++ x ∷ [])) v) [
        | inl e ↦ inr (or_left (precedes passed z t) (is_listed z ys) e)
        | inr e ↦ elim (listed_end z ys x e) [
          | inl k ↦ inr (or_right (precedes passed z t) (is_listed z ys) k)
          | inr k ↦ inl k
        ]
      ];
      work = record {
        there = w.there;
        inside = λ y h. w.inside y (listed_preceding y ys x h);
        trailing = λ y h. w.trailing y (listed_preceding y ys x h);
        falls = (falls_preceding ys x w.falls).0;
      };
      nearby = inl refl;
      fewer = let n : length (ys ++ x ∷ []) ≡ length ys + 1 = length-end ys in omega (arith, n);
    }
      where
        length-end : (zs : List ℕ) → length (zs ++ x ∷ []) ≡ length zs + 1
        length-end [] = refl
        length-end (z ∷ zs) = omega (arith, length-end zs)

  -- advancing to the next operation
  pub taken_next : (passed y : ℕ) → has_id passed t ≡ true → following passed t ≡ Some y → Taken y passed [] y [] t
  taken_next passed y h e =
      let n = next_rank passed y (ids t) d e in
      let i = next_there passed y (ids t) e in record {
        there = i;
        first = λ z g. false_from_ne_true (waits passed [] t z) (λ v. elim (or_cases (precedes passed z t) false v) [
          | inl k ↦ omega (arith, n, up passed z k, up z y g)
          | inr k ↦ true≢false (sym k)
        ]);
        others = λ z k v. elim (or_cases (precedes passed z t) false v) [
          | inl p ↦ after z k (up passed z p)
          | inr p ↦ absurd (true≢false (sym p))
        ];
        work = record { there = i; inside = λ z h. absurd (true≢false (sym h)); trailing = λ z h. absurd (true≢false (sym h)); falls = tt };
        nearby = inr (after_from_rank passed y (ids t) h i (omega (arith, n)));
        fewer = omega (arith, n, counted y (ids t) i, counted passed (ids t) h);
      }
    where
      after : (z : ℕ) → has_id z t ≡ true → rank passed (ids t) < rank z (ids t) → (z ≡ y) ⊎ (waits y [] t z ≡ true)
      after z k l = elim (bool_cases (precedes y z t)) [
        | inl p ↦ inr (or_left (precedes y z t) false p)
        | inr p ↦ elim (else_after y z (next_there passed y (ids t) e) k p) [
          | inl s ↦ inl (sym s)
          | inr s ↦ absurd (omega (arith, next_rank passed y (ids t) d e, l, up z y s))
        ]
      ]

  pub none_waits : (passed : ℕ) → following passed t ≡ None → NoneWaits passed [] t
  none_waits passed e z i = ap (λ b. b || false) (next_none passed z (ids t) e)

  -- an operation inserted into the list
  pub listed_put : (z op : ℕ) (preceding back : List ℕ) → is_listed z (preceding ++ op ∷ back) ≡ true → (is_listed z (preceding ++ back) ≡ true) ⊎ (z ≡ op)
  listed_put z op [] back h = elim (bool_cases (eqb op z)) [ inl e ↦ inr (sym (eqb-true op z e)) | inr e ↦ inl (listed_past op z back e h) ]
  listed_put z op (y ∷ preceding) back h = elim (bool_cases (eqb y z)) [
    | inl e ↦ inl (listed_at y z (preceding ++ back) e)
    | inr e ↦ elim (listed_put z op preceding back (listed_past y z (preceding ++ op ∷ back) e h)) [ inl k ↦ inl (listed_more y z (preceding ++ back) k) | inr k ↦ inr k ]
  ]

  pub listed_still : (z op : ℕ) (preceding back : List ℕ) → is_listed z (preceding ++ back) ≡ true → is_listed z (preceding ++ op ∷ back) ≡ true
  listed_still z op [] back h = listed_more op z back h
  listed_still z op (y ∷ preceding) back h = elim (bool_cases (eqb y z)) [
    | inl e ↦ listed_at y z (preceding ++ op ∷ back) e
    | inr e ↦ listed_more y z (preceding ++ op ∷ back) (listed_still z op preceding back (listed_past y z (preceding ++ back) e h))
  ]

  pub listed_new : (op : ℕ) (preceding back : List ℕ) → is_listed op (preceding ++ op ∷ back) ≡ true
  listed_new op [] back = listed_at op op back (eq-eqb op op refl)
  listed_new op (y ∷ preceding) back = listed_more y op (preceding ++ op ∷ back) (listed_new op preceding back)

  listed_right : (z : ℕ) (preceding back : List ℕ) → is_listed z back ≡ true → is_listed z (preceding ++ back) ≡ true
  listed_right z [] back h = h
  listed_right z (y ∷ preceding) back h = listed_more y z (preceding ++ back) (listed_right z preceding back h)

  falls_right : (preceding back : List ℕ) → Falls t (preceding ++ back) → Falls t back
  falls_right [] back f = f
  falls_right (y ∷ preceding) back f = falls_right preceding back f.1

  falls_put : (op : ℕ) (preceding back : List ℕ) → has_id op t ≡ true → ((z : ℕ) → is_listed z back ≡ true → has_id z t ≡ true) → Parted op t preceding back → (is_listed op back ≡ true → ⊥) → Falls t (preceding ++ back) → Falls t (preceding ++ op ∷ back)
  falls_put op [] back h i p n f = (λ z k. elim (else_after op z h (i z k) (p.others z k)) [ inl s ↦ absurd (n (subst (λ w. is_listed w back ≡ true) (sym s) k)) | inr s ↦ s ], f)
  falls_put op (y ∷ preceding) back h i p n f = (
    λ z k. elim (listed_put z op preceding back k) [ inl e ↦ f.0 z e | inr e ↦ subst (λ w. precedes w y t ≡ true) (sym e) (p.later y (listed_at y y preceding (eq-eqb y y refl))) ],
    falls_put op preceding back h i (record { later = λ z k. p.later z (listed_more y z preceding k); others = p.others }) n f.1,
  )

  -- an operation that comes before no entry of a list in reverse pre-order, and isn't its first entry, isn't in the
  -- list
  not_of : (op : ℕ) (back : List ℕ) → Falls t back → ((z : ℕ) → is_listed z back ≡ true → precedes op z t ≡ false) → begins_with op back ≡ false → is_listed op back ≡ true → ⊥
  not_of op [] f o b k = true≢false (sym k)
  not_of op (y ∷ back) f o b k = true≢false (sym (f.0 op (listed_past y op back b k)) ∙ o y (listed_at y y back (eq-eqb y y refl)))

  pub put_between : (passed op : ℕ) (preceding back : List ℕ) → IsWork passed (preceding ++ back) t → has_id op t ≡ true → precedes passed op t ≡ false → Parted op t preceding back → begins_with op back ≡ false → IsWork passed (preceding ++ op ∷ back) t
  put_between passed op preceding back w h n p b = record {
    there = w.there;
    inside = λ z k. elim (listed_put z op preceding back k) [ inl e ↦ w.inside z e | inr e ↦ subst (λ v. has_id v t ≡ true) (sym e) h ];
    trailing = λ z k. elim (listed_put z op preceding back k) [ inl e ↦ w.trailing z e | inr e ↦ subst (λ v. precedes passed v t ≡ false) (sym e) n ];
    falls = falls_put op preceding back h (λ z k. w.inside z (listed_right z preceding back k)) p (not_of op back (falls_right preceding back w.falls) p.others b) w.falls;
  }

  -- an operation that begins the second part waits
  pub begins_listed : (op : ℕ) (preceding back : List ℕ) → begins_with op back ≡ true → is_listed op (preceding ++ back) ≡ true
  begins_listed op preceding [] b = absurd (true≢false (sym b))
  begins_listed op preceding (y ∷ back) b = listed_right op preceding (y ∷ back) (listed_at y op back b)

-- the entry at an index
listed_index : (xs : List ℕ) (i d : ℕ) → i < length xs → is_listed (slice_index_or xs i d) xs ≡ true
listed_index [] i d l = absurd (omega (arith, l))
listed_index (x ∷ xs) zero d l = listed_at x x xs (eq-eqb x x refl)
listed_index (x ∷ xs) (suc i) d l = listed_more x (slice_index_or xs i d) xs (listed_index xs i d (omega (arith, l)))

-- a property of all entries before an index, and of all entries from the index on
preceding_holds : (P : ℕ → Type 0) (xs : List ℕ) (i : ℕ) → AllWithin P xs 0 i → (z : ℕ) → is_listed z (take i xs) ≡ true → P z
preceding_holds P xs zero a z h = absurd (true≢false (sym h))
preceding_holds P [] (suc i) a z h = absurd (true≢false (sym h))
preceding_holds P (x ∷ xs) (suc i) a z h = elim (bool_cases (eqb x z)) [
  | inl e ↦ subst P (eqb-true x z e) (a 0 0 (omega arith) (omega arith))
  | inr e ↦ preceding_holds P xs i (λ k d l u. a (suc k) d (omega arith) (omega (arith, u))) z (listed_past x z (take i xs) e h)
]

back_holds : (P : ℕ → Type 0) (xs : List ℕ) (i : ℕ) → AllWithin P xs i (length xs) → (z : ℕ) → is_listed z (drop i xs) ≡ true → P z
back_holds P [] zero a z h = absurd (true≢false (sym h))
back_holds P (x ∷ xs) zero a z h = elim (bool_cases (eqb x z)) [
  | inl e ↦ subst P (eqb-true x z e) (a 0 0 (omega arith) (omega arith))
  | inr e ↦ back_holds P xs zero (λ k d l u. a (suc k) d (omega arith) (omega (arith, u))) z (listed_past x z xs e h)
]
back_holds P [] (suc i) a z h = absurd (true≢false (sym h))
back_holds P (x ∷ xs) (suc i) a z h = back_holds P xs i (λ k d l u. a (suc k) d (omega (arith, l)) (omega (arith, u))) z h

module _ (t : Operation) (d : HasDistinctIds t) (op : ℕ) where
  -- a list in reverse pre-order begins with the entries that x comes before
  pub falls_parts : (xs : List ℕ) → Falls t xs → IsPartitionedBy (λ z. precedes op z t) xs
  falls_parts [] f i j e l u h = absurd (omega (arith, u))
  falls_parts (x ∷ xs) f zero zero e l u h = h
  falls_parts (x ∷ xs) f zero (suc j) e l u h = through t d op (slice_index_or xs j e) x h (f.0 (slice_index_or xs j e) (listed_index xs j e (omega (arith, u))))
  falls_parts (x ∷ xs) f (suc i) zero e l u h = absurd (omega (arith, l))
  falls_parts (x ∷ xs) f (suc i) (suc j) e l u h = falls_parts xs f.1 i j e (omega (arith, l)) (omega (arith, u)) h

  pub parted_at : (xs : List ℕ) (i : ℕ) → IsPartitionPoint (λ z. precedes op z t ≡ true) (λ z. precedes op z t ≡ false) xs i → Parted op t (take i xs) (drop i xs)
  parted_at xs i p = record { later = preceding_holds (λ z. precedes op z t ≡ true) xs i p.0; others = back_holds (λ z. precedes op z t ≡ false) xs i p.1 }

-- ---- after a rewrite
abbrev pub there_in : Operation → ℕ → Bool
there_in t x = has_id x t

listed_kept : (p : ℕ → Bool) (z : ℕ) (xs : List ℕ) → is_listed z xs ≡ true → p z ≡ true → is_listed z (filter p xs) ≡ true
listed_kept p z [] h e = h
listed_kept p z (y ∷ xs) h e = elim (bool_cases (eqb y z)) [
  | inl k ↦ subst (λ b. is_listed z (cond b (y ∷ filter p xs) (filter p xs)) ≡ true) (sym (ap p (eqb-true y z k) ∙ e)) (listed_at y z (filter p xs) k)
  | inr k ↦ elim (p y) as (λ b. is_listed z (cond b (y ∷ filter p xs) (filter p xs)) ≡ true) [
    | true ↦ listed_more y z (filter p xs) (listed_kept p z xs (listed_past y z xs k h) e)
    | false ↦ listed_kept p z xs (listed_past y z xs k h) e
  ]
]

kept_listed : (p : ℕ → Bool) (z : ℕ) (xs : List ℕ) → is_listed z (filter p xs) ≡ true → (is_listed z xs ≡ true) × (p z ≡ true)
kept_listed p z [] h = absurd (true≢false (sym h))
kept_listed p z (y ∷ xs) h = elim (bool_cases (p y)) [
  | inl k ↦
      let h2 : is_listed z (y ∷ filter p xs) ≡ true = subst (λ b. is_listed z (cond b (y ∷ filter p xs) (filter p xs)) ≡ true) k h in
      elim (bool_cases (eqb y z)) [
        | inl e ↦ (listed_at y z xs e, ap p (sym (eqb-true y z e)) ∙ k)
        | inr e ↦ let r = kept_listed p z xs (listed_past y z (filter p xs) e h2) in (listed_more y z xs r.0, r.1)
      ]
  | inr k ↦
      let h2 : is_listed z (filter p xs) ≡ true = subst (λ b. is_listed z (cond b (y ∷ filter p xs) (filter p xs)) ≡ true) k h in
      let r = kept_listed p z xs h2 in (listed_more y z xs r.0, r.1)
]

falls_kept : (p : ℕ → Bool) (t u : Operation) (xs : List ℕ) → Falls t xs → ((y z : ℕ) → is_listed y xs ≡ true → is_listed z xs ≡ true → p y ≡ true → p z ≡ true → precedes z y t ≡ true → precedes z y u ≡ true) → Falls u (filter p xs)
falls_kept p t u [] f o = tt
falls_kept p t u (y ∷ xs) f o = elim (bool_cases (p y)) [
  | inl k ↦ subst (λ b. Falls u (cond b (y ∷ filter p xs) (filter p xs))) (sym k) (
    λ z h. let r = kept_listed p z xs h in o y z (listed_at y y xs (eq-eqb y y refl)) (listed_more y z xs r.0) k r.1 (f.0 z r.0),
    falls_kept p t u xs f.1 (λ v w a b. o v w (listed_more y v xs a) (listed_more y w xs b)),
  )
  | inr k ↦ subst (λ b. Falls u (cond b (y ∷ filter p xs) (filter p xs))) (sym k) (falls_kept p t u xs f.1 (λ v w a b. o v w (listed_more y v xs a) (listed_more y w xs b)))
]

module _ (m n : Module) (x before passed : ℕ) (again : List ℕ) (r : Rewritten x before m n) (w : IsWork passed again m.tree) where
  left_in : (z : ℕ) → is_listed z (filter (there_in n.tree) again) ≡ true → (is_listed z again ≡ true) × (has_id z n.tree ≡ true)
  left_in z h = kept_listed (there_in n.tree) z again h

  left_falls : Falls n.tree (filter (there_in n.tree) again)
  left_falls = falls_kept (there_in n.tree) m.tree n.tree again w.falls (λ y z a b p q h. r.orderly.order z y (w.inside z b) (w.inside y a) q p ∙ h)

  -- the passed operation is still in the module
  pub passed_stays : has_id passed n.tree ≡ true → IsWork passed (filter (there_in n.tree) again) n.tree
  passed_stays h = record {
    there = h;
    inside = λ z k. (left_in z k).1;
    trailing = λ z k. let l = left_in z k in r.orderly.order passed z w.there (w.inside z l.0) h l.1 ∙ w.trailing z l.0;
    falls = left_falls;
  }

  pub waits_on : has_id passed n.tree ≡ true → StillWaits passed again m.tree passed (filter (there_in n.tree) again) n.tree
  waits_on h z i j v = elim (or_cases (precedes passed z m.tree) (is_listed z again) v) [
    | inl e ↦ or_left (precedes passed z n.tree) (is_listed z (filter (there_in n.tree) again)) (r.orderly.order passed z w.there i h j ∙ e)
    | inr e ↦ or_right (precedes passed z n.tree) (is_listed z (filter (there_in n.tree) again)) (listed_kept (there_in n.tree) z again e j)
  ]

  -- the passed operation was erased: an operation before the rewrite replaces it
  unpassed : ℕ → Bool
  unpassed z = not (precedes before z n.tree)

  before_was : has_id before m.tree ≡ true
  before_was = first_there before x (ids m.tree) r.nearby

  before_is : has_id before n.tree ≡ true
  before_is = r.orderly.stays before r.nearby

  pub back_work : IsWork before (filter (λ z. not (precedes before z n.tree)) (filter (there_in n.tree) again)) n.tree
  back_work = record {
    there = before_is;
    inside = λ z k. (left_in z (kept_listed (λ z. not (precedes before z n.tree)) z (filter (there_in n.tree) again) k).0).1;
    trailing = λ z k. flip (precedes before z n.tree) (kept_listed (λ z. not (precedes before z n.tree)) z (filter (there_in n.tree) again) k).1;
    falls = falls_kept (λ z. not (precedes before z n.tree)) n.tree n.tree (filter (there_in n.tree) again) left_falls (λ y z a b p q h. h);
  }
    where
      flip : (b : Bool) → not b ≡ true → b ≡ false
      flip true e = absurd (true≢false (sym e))
      flip false e = refl

  -- if the passed operation was erased, it was the site of the rewrite or came after it
  pub was_after : has_id passed n.tree ≡ false → (z : ℕ) → precedes passed z m.tree ≡ true → precedes before z m.tree ≡ true
  was_after g z h = through m.tree r.distinct before passed z earlier h
    where
      x_was : has_id x m.tree ≡ true
      x_was = second_there before x (ids m.tree) r.nearby

      not_before : precedes passed x m.tree ≡ false
      not_before = false_from_ne_true (precedes passed x m.tree) (λ e. true≢false (sym (r.orderly.stays passed e) ∙ g))

      earlier : precedes before passed m.tree ≡ true
      earlier = elim (else_after m.tree r.distinct passed x w.there x_was not_before) [
        | inl s ↦ subst (λ v. precedes before v m.tree ≡ true) (sym s) r.nearby
        | inr s ↦ through m.tree r.distinct before x passed r.nearby s
      ]

  pub waits_back : has_id passed n.tree ≡ false → StillWaits passed again m.tree before (filter (λ z. not (precedes before z n.tree)) (filter (there_in n.tree) again)) n.tree
  waits_back g z i j v = elim (or_cases (precedes passed z m.tree) (is_listed z again) v) [
    | inl e ↦ or_left (precedes before z n.tree) _ (r.orderly.order before z before_was i before_is j ∙ was_after g z e)
    | inr e ↦ elim (bool_cases (precedes before z n.tree)) [
      | inl k ↦ or_left (precedes before z n.tree) _ k
      | inr k ↦ or_right (precedes before z n.tree) _ (listed_kept (λ z. not (precedes before z n.tree)) z (filter (there_in n.tree) again) (listed_kept (there_in n.tree) z again e j) (ap not k))
    ]
  ]
