-- Ordered uses that pass a test are the uses that pass it, ordered; and lists with the same uses have the same order.
use Rattle.std.proofs.Common.{◌≡◌, refl, ap, sym, ◌∙◌, subst, Bool, true, false, true≢false, cond, List, [], ◌∷◌, ◌++◌, filter, inl, inr}
use Rattle.std.specs.Ordering.{is_gt}
use Rattle.ir_event.specs.tree_laws.Members.{In}
use Rattle.ir_event.proofs.of_tree_laws.Listed.{bool_cases, in_filtered, in_left, in_right, in_parts}
use Rattle.listeners.specs.declared.key.Use.{Use}
use Rattle.listeners.specs.Uses.{use_cmp, put_use, in_order}
use Rattle.listeners.proofs.Orders.{insert_sorted, not_both, put_after, put_first, trailing}

-- ---- uses in order

-- no use of the list comes before u
abbrev First : Use → List Use → Type 0
First u [] = Unit {0}
First u (v ∷ vs) = (is_gt (use_cmp u v) ≡ false) × First u vs

abbrev Sorted : List Use → Type 0
Sorted [] = Unit {0}
Sorted (u ∷ us) = First u us × Sorted us

through : (u v w : Use) → is_gt (use_cmp u v) ≡ false → is_gt (use_cmp v w) ≡ false → is_gt (use_cmp u w) ≡ false
through u v w a b = elim (bool_cases (is_gt (use_cmp u w))) [
  | inl e ↦ absurd (true≢false (sym (trailing u v w e b) ∙ a))
  | inr e ↦ e
]

first_through : (u v : Use) (ws : List Use) → is_gt (use_cmp u v) ≡ false → First v ws → First u ws
first_through u v [] a f = tt
first_through u v (w ∷ ws) a f = (through u v w a f.0, first_through u v ws a f.1)

first_put : (u v : Use) (ws : List Use) → is_gt (use_cmp u v) ≡ false → First u ws → First u (put_use v ws)
first_put u v [] a f = (a, tt)
first_put u v (w ∷ ws) a f =
    elim (is_gt (use_cmp v w)) as (λ b. First u (cond b (w ∷ put_use v ws) (v ∷ w ∷ ws))) [ true ↦ (f.0, first_put u v ws a f.1) | false ↦ (a, f) ]

sorted_put : (u : Use) (us : List Use) → Sorted us → Sorted (put_use u us)
sorted_put u [] s = (tt, tt)
sorted_put u (v ∷ vs) s = go (sorted_put u vs s.1) (is_gt (use_cmp u v)) refl
  where
    go : Sorted (put_use u vs) → (b : Bool) → is_gt (use_cmp u v) ≡ b → Sorted (cond b (v ∷ put_use u vs) (u ∷ v ∷ vs))
    go later true e = (first_put v u vs (not_both u v e) s.0, later)
    go later false e = ((e, first_through u v vs e s.0), s)

sorted_all : (us : List Use) → Sorted (in_order us)
sorted_all [] = tt
sorted_all (u ∷ us) = sorted_put u (in_order us) (sorted_all us)

put_above : (u : Use) (us : List Use) → First u us → put_use u us ≡ u ∷ us
put_above u [] f = refl
put_above u (v ∷ vs) f = put_first u v vs f.0

-- ---- a test
module _ (p : Use → Bool) where
  first_filter : (u : Use) (us : List Use) → First u us → First u (filter p us)
  first_filter u [] f = tt
  first_filter u (v ∷ vs) f = elim (p v) as (λ b. First u (cond b (v ∷ filter p vs) (filter p vs))) [ true ↦ (f.0, first_filter u vs f.1) | false ↦ first_filter u vs f.1 ]

  filter_other : (u : Use) (us : List Use) → p u ≡ false → filter p (put_use u us) ≡ filter p us
  filter_other u [] e = ap (λ b. cond b (u ∷ []) []) e
  filter_other u (v ∷ vs) e = elim (is_gt (use_cmp u v)) as (λ b. filter p (cond b (v ∷ put_use u vs) (u ∷ v ∷ vs)) ≡ filter p (v ∷ vs)) [
    | true ↦ (λ i. cond (p v) (v ∷ filter_other u vs e i) (filter_other u vs e i))
    | false ↦ ap (λ b. cond b (u ∷ filter p (v ∷ vs)) (filter p (v ∷ vs))) e
  ]

  filter_put : (u : Use) (us : List Use) → Sorted us → p u ≡ true → filter p (put_use u us) ≡ put_use u (filter p us)
  filter_put u [] s e = ap (λ b. cond b (u ∷ []) []) e
  filter_put u (v ∷ vs) s e = go (filter_put u vs s.1 e) (is_gt (use_cmp u v)) refl
    where
      go : filter p (put_use u vs) ≡ put_use u (filter p vs) → (b : Bool) → is_gt (use_cmp u v) ≡ b → filter p (put_use u (v ∷ vs)) ≡ put_use u (filter p (v ∷ vs))
      go later true g =
          ap (filter p) (put_after u v vs g)
          ∙ elim (p v) as (λ b. cond b (v ∷ filter p (put_use u vs)) (filter p (put_use u vs)) ≡ put_use u (cond b (v ∷ filter p vs) (filter p vs))) [
            | true ↦ ap (λ l. v ∷ l) later ∙ sym (put_after u v (filter p vs) g)
            | false ↦ later
          ]
      go later false g =
          ap (filter p) (put_first u v vs g)
          ∙ ap (λ b. cond b (u ∷ filter p (v ∷ vs)) (filter p (v ∷ vs))) e
          ∙ sym (put_above u (filter p (v ∷ vs)) (first_filter u (v ∷ vs) (g, first_through u v vs g s.0)))

  pub filter_order : (us : List Use) → filter p (in_order us) ≡ in_order (filter p us)
  filter_order [] = refl
  filter_order (u ∷ us) = elim (bool_cases (p u)) [
    | inl e ↦ filter_put u (in_order us) (sorted_all us) e ∙ ap (put_use u) (filter_order us) ∙ ap (λ b. in_order (cond b (u ∷ filter p us) (filter p us))) (sym e)
    | inr e ↦ filter_other u (in_order us) e ∙ filter_order us ∙ ap (λ b. in_order (cond b (u ∷ filter p us) (filter p us))) (sym e)
  ]

-- ---- lists with the same uses

-- each use is there once
abbrev pub Once : {X : Type 0} → List X → Type 0
Once [] = Unit {0}
Once (x ∷ xs) = (In x xs → ⊥) × Once xs

pub once_joined : {X : Type 0} (ls bs : List X) → Once ls → Once bs → ((x : X) → In x ls → In x bs → ⊥) → Once (ls ++ bs)
once_joined [] bs o p apart = p
once_joined (a ∷ ls) bs o p apart =
    ((λ h. elim (in_parts a ls bs h) [ inl k ↦ o.0 k | inr k ↦ apart a (inl refl) k ]), once_joined ls bs o.1 p (λ x h k. apart x (inr h) k))

pub once_filter : {X : Type 0} (p : X → Bool) (xs : List X) → Once xs → Once (filter p xs)
once_filter p [] o = tt
once_filter p (x ∷ xs) o =
    let rest = once_filter p xs o.1 in
    elim (p x) as (λ b. Once (cond b (x ∷ filter p xs) (filter p xs))) [ true ↦ ((λ h. o.0 (in_filtered p x xs h).0), rest) | false ↦ rest ]

record Split (u : Use) (ws : List Use) : Type 0 where
  preceding : List Use
  back : List Use
  is : ws ≡ preceding ++ u ∷ back

split : (u : Use) (ws : List Use) → In u ws → Split u ws
split u [] h = absurd h
split u (w ∷ ws) (inl e) = record { preceding = []; back = ws; is = ap (λ z. z ∷ ws) (sym e) }
split u (w ∷ ws) (inr h) = let r = split u ws h in record { preceding = w ∷ r.preceding; back = r.back; is = ap (λ l. w ∷ l) r.is }

wider : (x : Use) (ls : List Use) (u : Use) (bs : List Use) → In x (ls ++ bs) → In x (ls ++ u ∷ bs)
wider x ls u bs h = elim (in_parts x ls bs h) [ inl a ↦ in_left x ls (u ∷ bs) a | inr b ↦ in_right x ls (u ∷ bs) (inr b) ]

once_without : (ls : List Use) (u : Use) (bs : List Use) → Once (ls ++ u ∷ bs) → Once (ls ++ bs)
once_without [] u bs o = o.1
once_without (a ∷ ls) u bs o = ((λ h. o.0 (wider a ls u bs h)), once_without ls u bs o.1)

not_again : (ls : List Use) (u : Use) (bs : List Use) → Once (ls ++ u ∷ bs) → In u (ls ++ bs) → ⊥
not_again [] u bs o h = o.0 h
not_again (a ∷ ls) u bs o (inl e) = o.0 (subst (λ z. In z (ls ++ u ∷ bs)) e (in_right u ls (u ∷ bs) (inl refl)))
not_again (a ∷ ls) u bs o (inr h) = not_again ls u bs o.1 h

pub same_order : (us ws : List Use) → Once us → Once ws → ((u : Use) → In u us → In u ws) → ((u : Use) → In u ws → In u us) → in_order us ≡ in_order ws
same_order [] [] o p f g = refl
same_order [] (w ∷ ws) o p f g = absurd (g w (inl refl))
same_order (u ∷ us) ws o p f g =
    let s = split u ws (f u (inl refl)) in
    let q : Once (s.preceding ++ u ∷ s.back) = subst (λ (l : List Use). Once l) s.is p in
    let rest = same_order us (s.preceding ++ s.back) o.1 (once_without s.preceding u s.back q)
    (λ v k. elim (in_parts v s.preceding (u ∷ s.back) (subst (In v) s.is (f v (inr k)))) [
      | inl a ↦ in_left v s.preceding s.back a
      | inr b ↦ elim b [
        | inl e ↦ absurd (o.0 (subst (λ z. In z us) e k))
        | inr c ↦ in_right v s.preceding s.back c
      ]
    ])
    (λ v k. elim (g v (subst (In v) (sym s.is) (wider v s.preceding u s.back k))) [
      | inl e ↦ absurd (not_again s.preceding u s.back q (subst (λ z. In z (s.preceding ++ s.back)) e k))
      | inr m ↦ m
    ]) in
    ap (put_use u) rest ∙ sym (ap in_order s.is ∙ insert_sorted s.preceding s.back u)
