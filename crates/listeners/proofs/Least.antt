-- The rounds compute the least set.
use Rattle.std.proofs.Common.{◌≡◌, refl, ap, sym, ◌∙◌, subst, ℕ, zero, suc, ◌≤◌, ◌<◌, Bool, true, false, true≢false, cond, not, ◌&&◌, ◌||◌, eqb, eq-eqb, eqb-true, List, [], ◌∷◌, length, filter, inl, inr, ◌⊎◌, arith}
use Rattle.std.proofs.lemmas.Bool.Decides.{leb_tells}
use Rattle.ir_event.specs.tree_laws.Members.{In}
use Rattle.ir_event.proofs.of_tree_laws.Listed.{in_filter, in_filtered, both, both_hold, all_each, each_all, any_one, one_any}
use Rattle.listeners.specs.Reached.{IsReached, reached, among, lives, joins, rounds, reached_ones}
use Rattle.ir_event.proofs.of_tree_laws.Wellformed.{filter_shorter}

pub in_among : (x : ℕ) (xs : List ℕ) → In x xs → among x xs ≡ true
in_among x xs h = any_one (λ z. eqb z x) xs x h (eq-eqb x x refl)

pub among_in : (x : ℕ) (xs : List ℕ) → among x xs ≡ true → In x xs
among_in x xs e = let w = one_any (λ z. eqb z x) xs e in subst (λ z. In z xs) (eqb-true w.0 x w.2) w.1

-- a disjunction as an implication
implied : (a b : Bool) → (a ≡ true → b ≡ true) → (not a || b) ≡ true
implied true b f = f refl
implied false b f = refl

applied : (a b : Bool) → (not a || b) ≡ true → a ≡ true → b ≡ true
applied true b e h = e
applied false b e h = absurd (true≢false (sym h))

-- two filters, the second weaker than the first
module _ {X : Type 0} (f g : X → Bool) where
  tested : (h : X → Bool) (x : X) (xs : List X) (b : Bool) → h x ≡ b → length (filter h (x ∷ xs)) ≡ length (cond b (x ∷ filter h xs) (filter h xs))
  tested h x xs b e = ap (λ c. length (cond c (x ∷ filter h xs) (filter h xs))) e

  fewer_step : (x : X) (xs : List X) (a b : Bool) → f x ≡ a → g x ≡ b → (a ≡ true → b ≡ true) → length (filter f xs) ≤ length (filter g xs) → length (filter f (x ∷ xs)) ≤ length (filter g (x ∷ xs))
  fewer_step x xs true true d e h later = let one = tested f x xs true d in let two = tested g x xs true e in omega (arith, one, two, later)
  fewer_step x xs true false d e h later = absurd (true≢false (sym (h refl)))
  fewer_step x xs false true d e h later = let one = tested f x xs false d in let two = tested g x xs true e in omega (arith, one, two, later)
  fewer_step x xs false false d e h later = let one = tested f x xs false d in let two = tested g x xs false e in omega (arith, one, two, later)

  pub fewer : (xs : List X) → ((x : X) → In x xs → f x ≡ true → g x ≡ true) → length (filter f xs) ≤ length (filter g xs)
  fewer [] h = omega arith
  fewer (x ∷ xs) h = fewer_step x xs (f x) (g x) refl refl (h x (inl refl)) (fewer xs (λ z k. h z (inr k)))

  same_step : (y : X) (ys : List X) (a b : Bool) → f y ≡ a → g y ≡ b → (a ≡ true → b ≡ true) → length (filter f ys) ≤ length (filter g ys) → length (filter g (y ∷ ys)) ≤ length (filter f (y ∷ ys)) → (length (filter g ys) ≤ length (filter f ys)) × (b ≡ true → a ≡ true)
  same_step y ys true true d i h few l = let one = tested f y ys true d in let two = tested g y ys true i in (omega (arith, one, two, l), λ e. refl)
  same_step y ys true false d i h few l = absurd (true≢false (sym (h refl)))
  same_step y ys false true d i h few l = let one = tested f y ys false d in let two = tested g y ys true i in absurd (omega (arith, one, two, l, few))
  same_step y ys false false d i h few l = let one = tested f y ys false d in let two = tested g y ys false i in (omega (arith, one, two, l), λ e. e)

  -- filters of equal length give the same list
  pub same_many : (xs : List X) → ((x : X) → In x xs → f x ≡ true → g x ≡ true) → length (filter g xs) ≤ length (filter f xs) → (x : X) → In x xs → g x ≡ true → f x ≡ true
  same_many [] h l x k e = absurd k
  same_many (y ∷ ys) h l x k e =
      let s = same_step y ys (f y) (g y) refl refl (h y (inl refl)) (fewer ys (λ z m. h z (inr m))) l in
      elim k [ inl j ↦ ap f j ∙ s.1 (sym (ap g j) ∙ e) | inr m ↦ same_many ys (λ z o. h z (inr o)) s.0 x m e ]

least_or : (a b : ℕ) → (a ≤ b) ⊎ (b < a)
least_or a b = elim (leb_tells a b) [ inl h ↦ inl h.1 | inr h ↦ inr h.1 ]

module _ (privates users : List ℕ) (under to : ℕ → List ℕ) where
  abbrev Least : ℕ → Type 0
  Least = IsReached (λ x. In x privates) (λ y p. In p (under y)) (λ y x. In x (to y))

  -- ---- what is reached in n rounds is reached
  round_sound : (set : List ℕ) → ((p : ℕ) → In p set → Least p) → (x : ℕ) → In x privates → joins privates users under to set x ≡ true → Least x
  round_sound set h x k e =
      let w = one_any (λ y. among x (to y) && lives privates users under to set y) users e in
      let b = both (among x (to w.0)) (lives privates users under to set w.0) w.2 in
      reached w.0 x k (among_in x (to w.0) b.0) (λ p i u. h p (among_in p set (applied (among p privates) (among p set) (all_each (λ q. not (among q privates) || among q set) (under w.0) b.1 p u) (in_among p privates i))))

  sound : (n x : ℕ) → In x (rounds privates users under to n) → Least x
  sound zero x h = absurd h
  sound (suc n) x h = let m = in_filtered (joins privates users under to (rounds privates users under to n)) x privates h in round_sound (rounds privates users under to n) (sound n) x m.0 m.1

  -- ---- more rounds reach no fewer
  joins_more : (a b : List ℕ) → ((p : ℕ) → In p a → In p b) → (x : ℕ) → joins privates users under to a x ≡ true → joins privates users under to b x ≡ true
  joins_more a b f x e =
      let w = one_any (λ y. among x (to y) && lives privates users under to a y) users e in
      let c = both (among x (to w.0)) (lives privates users under to a w.0) w.2 in
      any_one (λ y. among x (to y) && lives privates users under to b y) users w.0 w.1
      (both_hold (among x (to w.0)) (lives privates users under to b w.0) c.0
      (each_all (λ q. not (among q privates) || among q b) (under w.0)
      (λ p u. implied (among p privates) (among p b) (λ i. in_among p b (f p (among_in p a (applied (among p privates) (among p a) (all_each (λ q. not (among q privates) || among q a) (under w.0) c.1 p u) i)))))))

  more : (n x : ℕ) → In x (rounds privates users under to n) → In x (rounds privates users under to (suc n))
  more zero x h = absurd h
  more (suc n) x h =
      let m = in_filtered (joins privates users under to (rounds privates users under to n)) x privates h in
      in_filter (joins privates users under to (rounds privates users under to (suc n))) x privates (joins_more (rounds privates users under to n) (rounds privates users under to (suc n)) (more n) x m.1) m.0

  -- ---- the rounds become stable
  abbrev IsStable : ℕ → Type 0
  IsStable n = (x : ℕ) → In x (rounds privates users under to (suc n)) → In x (rounds privates users under to n)

  stable_next : (n : ℕ) → IsStable n → IsStable (suc n)
  stable_next n s x h =
      let m = in_filtered (joins privates users under to (rounds privates users under to (suc n))) x privates h in
      in_filter (joins privates users under to (rounds privates users under to n)) x privates (joins_more (rounds privates users under to (suc n)) (rounds privates users under to n) s x m.1) m.0

  -- if one more round adds nothing, the set is stable
  stable_if : (n : ℕ) → length (rounds privates users under to (suc n)) ≤ length (rounds privates users under to n) → IsStable n
  stable_if zero l x h = nothing (rounds privates users under to 1) l h
    where
      nothing : (xs : List ℕ) → length xs ≤ 0 → In x xs → In x []
      nothing [] k m = m
      nothing (y ∷ ys) k m = absurd (omega (arith, k))
  stable_if (suc n) l x h =
      let a = rounds privates users under to n in
      let b = rounds privates users under to (suc n) in
      let m = in_filtered (joins privates users under to b) x privates h in
      in_filter (joins privates users under to a) x privates (same_many (joins privates users under to a) (joins privates users under to b) privates (λ z k e. joins_more a b (more n) z e) l x m.0 m.1) m.0

  abbrev many : ℕ → ℕ
  many n = length (rounds privates users under to n)

  before : (n : ℕ) → IsStable n ⊎ (suc n ≤ many (suc n)) → (many (suc (suc n)) ≤ many (suc n)) ⊎ (many (suc n) < many (suc (suc n))) → IsStable (suc n) ⊎ (suc (suc n) ≤ many (suc (suc n)))
  before n (inl s) c = inl (stable_next n s)
  before n (inr l) (inl few) = inl (stable_if (suc n) few)
  before n (inr l) (inr m) = inr (omega (arith, l, m))

  first : (many 1 ≤ 0) ⊎ (0 < many 1) → IsStable 0 ⊎ (1 ≤ many 1)
  first (inl few) = inl (stable_if 0 few)
  first (inr m) = inr (omega (arith, m))

  either_way : (n : ℕ) → IsStable n ⊎ (suc n ≤ many (suc n))
  either_way zero = first (least_or (many 1) 0)
  either_way (suc n) = before n (either_way n) (least_or (many (suc (suc n))) (many (suc n)))

  stable : IsStable (length privates)
  stable = elim (either_way (length privates)) [
    | inl s ↦ s
    | inr l ↦ (let k = filter_shorter (joins privates users under to (rounds privates users under to (length privates))) privates in absurd (omega (arith, k, l)))
  ]

  pub reached_sound : (x : ℕ) → In x (reached_ones privates users under to) → Least x
  reached_sound x h = sound (length privates) x h

  module _ (all : (y x : ℕ) → In x (to y) → In y users) where
    pub reached_complete : (x : ℕ) → Least x → In x (reached_ones privates users under to)
    reached_complete x (reached y z i r f) =
        let last = rounds privates users under to (length privates) in
        stable z (in_filter (joins privates users under to last) z privates
        (any_one (λ u. among z (to u) && lives privates users under to last u) users y (all y z r)
        (both_hold (among z (to y)) (lives privates users under to last y) (in_among z (to y) r)
        (each_all (λ q. not (among q privates) || among q last) (under y) (λ p u. implied (among p privates) (among p last) (λ k. in_among p last (reached_complete p (f p (among_in p privates k) u)))))))
        i)
