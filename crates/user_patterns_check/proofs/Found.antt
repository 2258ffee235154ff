-- The results of the search.
use Rattle.std.proofs.Common.{◌≡◌, ℕ, zero, suc, ◌+◌, ◌<◌, ◌≤◌, ◌++◌, List, [], ◌∷◌, Bool, true, false, Option, Some, None, refl, sym, ap, arith, add-one, length, length-append, get_or, take, drop, ◌-◌, not, ◌∙◌, append_assoc, append-nil, ◌⊎◌, inl, inr, option_map, if◌then◌else◌, subst}
use Rattle.std.proofs.lemmas.List.{take_all}
use Rattle.user_patterns_check.specs.Cases.{or_else, first_below, first_failing, AreBelow, WentOn, Finds, Fails}

pub true_false : true ≡ false → ⊥
true_false e = cc

pub some_none : {X : Type 0} → (x : X) → Some x ≡ None → ⊥
some_none x e = cc

-- if neither option has a value
or_none : {X : Type 0} → (a b : Option X) → or_else a b ≡ None → (a ≡ None) × (b ≡ None)
or_none None b e = (refl, e)
or_none (Some x) b e = absurd (some_none x e)

-- if one of two options has a value
or_some : {X : Type 0} → (a b : Option X) (x : X) → or_else a b ≡ Some x → (a ≡ Some x) ⊎ (b ≡ Some x)
or_some None b x e = inr e
or_some (Some y) b x e = inl e

lower : (v n : ℕ) → v < suc n → (v ≡ n) ⊎ (v < n)
lower v n l = grind arith

-- no number below n has an entry
pub below_none : {X : Type 0} → (f : ℕ → Option X) (n : ℕ) → first_below f n ≡ None → (v : ℕ) → v < n → f v ≡ None
unfolding first_below
below_none f zero e v l = absurd (omega arith)
below_none f (suc n) e v l =
    let o = or_none (first_below f n) (f n) e in
    elim (lower v n l) [ inl h ↦ subst (λ (k : ℕ). f k ≡ None) (sym h) o.1 | inr h ↦ below_none f n o.0 v h ]

pub below_some : {X : Type 0} → (f : ℕ → Option X) (n : ℕ) (x : X) → first_below f n ≡ Some x → (v : ℕ) × (v < n) × (f v ≡ Some x)
unfolding first_below
below_some f zero x e = absurd (some_none x (sym e))
below_some f (suc n) x e =
    elim (or_some (first_below f n) (f n) x e) [ inl h ↦ (let r = below_some f n x h in (r.0, omega arith, r.2)) | inr h ↦ (n, omega arith, h) ]

-- the first number that has an entry
pub below_first : {X : Type 0} → (f : ℕ → Option X) (v n : ℕ) (x : X) → first_below f v ≡ None → f v ≡ Some x → v < n → first_below f n ≡ Some x
unfolding first_below
below_first f v zero x none is l = absurd (omega arith)
below_first f v (suc n) x none is l =
    elim (lower v n l) [
      | inl h ↦ subst (λ (k : ℕ). or_else (first_below f k) (f k) ≡ Some x) h (rw (none, is) refl)
      | inr h ↦ rw (below_first f v n x none is h) refl
    ]

pub below_more : {X : Type 0} → (f : ℕ → Option X) (v : ℕ) → first_below f v ≡ None → f v ≡ None → first_below f (v + 1) ≡ None
unfolding first_below
below_more f v none is = rw (add-one v) (rw (none, is) refl)

below_alike : {X : Type 0} → (f g : ℕ → Option X) → ((v : ℕ) → f v ≡ g v) → (n : ℕ) → first_below f n ≡ first_below g n
unfolding first_below
below_alike f g same zero = refl
below_alike f g same (suc n) = rw (below_alike f g same n, same n) refl

-- claims with the same meaning have the same counterexample
pub failing_alike : (p q : List ℕ → Bool) → ((vs : List ℕ) → p vs ≡ q vs) → (ws : List ℕ) → first_failing p ws ≡ first_failing q ws
unfolding first_failing
failing_alike p q same [] = rw (same []) refl
failing_alike p q same (w ∷ ws) =
    below_alike _ _ (λ v. ap (λ r. option_map (λ vs. v ∷ vs) r) (failing_alike (λ vs. p (v ∷ vs)) (λ vs. q (v ∷ vs)) (λ vs. same (v ∷ vs)) ws)) w

-- the first failing list that begins with v
abbrev pub at_value : (List ℕ → Bool) → List ℕ → ℕ → Option (List ℕ)
at_value holds ws v = option_map (λ vs. v ∷ vs) (first_failing (λ vs. holds (v ∷ vs)) ws)

mapped_none : {X Y : Type 0} → (f : X → Y) (r : Option X) → option_map f r ≡ None → r ≡ None
mapped_none f None e = refl
mapped_none f (Some x) e = absurd (some_none (f x) e)

mapped_some : {X Y : Type 0} → (f : X → Y) (r : Option X) (y : Y) → option_map f r ≡ Some y → (x : X) × (r ≡ Some x) × (f x ≡ y)
mapped_some f None y e = absurd (some_none y (sym e))
mapped_some f (Some x) y e = (x, refl, some_same e)
  where
    some_same : {Z : Type 0} → {a b : Z} → Some a ≡ Some b → a ≡ b
    some_same e = cc

abbrev whether : Bool → Option (List ℕ)
whether b = if b then None else Some []

tested_true : (b : Bool) → whether b ≡ None → b ≡ true
tested_true true e = refl
tested_true false e = absurd (some_none [] e)

tested_false : (b : Bool) (vs : List ℕ) → whether b ≡ Some vs → (vs ≡ []) × (b ≡ false)
tested_false true vs e = absurd (some_none vs (sym e))
tested_false false vs e = (cc, refl)

pub finds : Finds
unfolding first_failing
finds holds [] e [] w = tested_true (holds []) e
finds holds [] e (v ∷ vs) w = absurd w
finds holds (w ∷ ws) e [] l = absurd l
finds holds (w ∷ ws) e (v ∷ vs) l =
    finds (λ us. holds (v ∷ us)) ws (mapped_none (λ us. v ∷ us) (first_failing (λ us. holds (v ∷ us)) ws) (below_none _ w e v l.0)) vs l.1

pub fails : Fails
unfolding first_failing
fails holds [] vs e =
    let t = tested_false (holds []) vs e in
    (subst (λ (us : List ℕ). AreBelow [] us) (sym t.0) tt, subst (λ (us : List ℕ). holds us ≡ false) (sym t.0) t.1)
fails holds (w ∷ ws) vs e =
    let b = below_some _ w vs e in
    let m = mapped_some (λ us. b.0 ∷ us) (first_failing (λ us. holds (b.0 ∷ us)) ws) vs b.2 in
    let r = fails (λ us. holds (b.0 ∷ us)) ws m.0 m.1 in
    (subst (λ (us : List ℕ). AreBelow (w ∷ ws) us) m.2 (b.1, r.0), subst (λ (us : List ℕ). holds us ≡ false) m.2 r.1)

module _ (p : List ℕ → Bool) (old ws : List ℕ) where
  -- the search after one more value
  longer : (v : ℕ) → first_failing (λ vs. p ((old ++ (v ∷ [])) ++ vs)) ws ≡ first_failing (λ vs. p (old ++ (v ∷ vs))) ws
  longer v = failing_alike _ _ (λ vs. ap p (append_assoc old (v ∷ []) vs)) ws

  abbrev at : ℕ → Option (List ℕ)
  at v = at_value (λ vs. p (old ++ vs)) ws v

  found_by : (r : Option (List ℕ)) (v : ℕ) (new : List ℕ) → WentOn r (old ++ (v ∷ [])) new true → (vs : List ℕ) × (option_map (λ us. v ∷ us) r ≡ Some vs) × (new ≡ old ++ vs)
  found_by None v new w = absurd (true_false w.0)
  found_by (Some vs) v new w = (v ∷ vs, refl, w.1 ∙ append_assoc old (v ∷ []) vs)

  none_by : (r : Option (List ℕ)) (v : ℕ) (new : List ℕ) → WentOn r (old ++ (v ∷ [])) new false → (option_map (λ us. v ∷ us) r ≡ None) × (new ≡ old ++ (v ∷ []))
  none_by None v new w = (refl, w.1)
  none_by (Some vs) v new w = absurd (true_false (sym w.0))

  pub found_at : (v : ℕ) (new : List ℕ) → WentOn (first_failing (λ vs. p ((old ++ (v ∷ [])) ++ vs)) ws) (old ++ (v ∷ [])) new true → (vs : List ℕ) × (at v ≡ Some vs) × (new ≡ old ++ vs)
  found_at v new w =
      let f = found_by _ v new w in
      (f.0, ap (λ r. option_map (λ us. v ∷ us) r) (sym (longer v)) ∙ f.1, f.2)

  pub none_at : (v : ℕ) (new : List ℕ) → WentOn (first_failing (λ vs. p ((old ++ (v ∷ [])) ++ vs)) ws) (old ++ (v ∷ [])) new false → (at v ≡ None) × (new ≡ old ++ (v ∷ []))
  none_at v new w =
      let f = none_by _ v new w in
      (ap (λ r. option_map (λ us. v ∷ us) r) (sym (longer v)) ∙ f.0, f.1)

  -- the search ends with a counterexample, or tries the next value
  pub ends_found : (w v : ℕ) (new : List ℕ) → first_below at v ≡ None → v < w → WentOn (first_failing (λ vs. p ((old ++ (v ∷ [])) ++ vs)) ws) (old ++ (v ∷ [])) new true
      → WentOn (first_failing (λ vs. p (old ++ vs)) (w ∷ ws)) old new true
  unfolding first_failing
  ends_found w v new none l went =
      let f = found_at v new went in
      subst (λ (r : Option (List ℕ)). WentOn r old new true) (sym (below_first at v w f.0 none f.1 l)) (refl, f.2)

  pub ends_none : (w v : ℕ) (new : List ℕ) → new ≡ old → first_below at v ≡ None → v ≡ w → WentOn (first_failing (λ vs. p (old ++ vs)) (w ∷ ws)) old new false
  unfolding first_failing
  ends_none w v new same none e =
      subst (λ (r : Option (List ℕ)). WentOn r old new false) (sym (subst (λ (k : ℕ). first_below at k ≡ None) e none)) (refl, same)

-- without further bounds, the claim is tested at the values themselves
pub ends_tried : (p : List ℕ → Bool) (old : List ℕ) → WentOn (first_failing (λ vs. p (old ++ vs)) []) old old (not (p old))
unfolding first_failing
ends_tried p old = rw (append-nil old) (attempted (p old))
  where
    attempted : (b : Bool) → WentOn (whether b) old old (not b)
    attempted true = (refl, refl)
    attempted false = (refl, sym (append-nil old))

-- the same, in terms of the code
module _ (p : List ℕ → Bool) (old ws widths : List ℕ) (w v e : ℕ) (listed : widths ≡ w ∷ ws) (end_is : e ≡ w) where
  pub then_found : (pushed new : List ℕ) (b : Bool) → pushed ≡ old ++ (v ∷ []) → first_below (at_value (λ vs. p (old ++ vs)) ws) v ≡ None → v < e → b ≡ true
      → WentOn (first_failing (λ vs. p (pushed ++ vs)) ws) pushed new b → WentOn (first_failing (λ vs. p (old ++ vs)) widths) old new true
  then_found pushed new b is none l t went =
      subst (λ (us : List ℕ). WentOn (first_failing (λ vs. p (old ++ vs)) us) old new true) (sym listed)
      (ends_found p old ws w v new none (subst (λ (k : ℕ). v < k) end_is l)
      (subst (λ (q : Bool). WentOn (first_failing (λ vs. p ((old ++ (v ∷ [])) ++ vs)) ws) (old ++ (v ∷ [])) new q) t
      (subst (λ (us : List ℕ). WentOn (first_failing (λ vs. p (us ++ vs)) ws) us new b) is went)))

  pub then_none : (pushed new : List ℕ) (b : Bool) → pushed ≡ old ++ (v ∷ []) → first_below (at_value (λ vs. p (old ++ vs)) ws) v ≡ None → b ≡ false
      → WentOn (first_failing (λ vs. p (pushed ++ vs)) ws) pushed new b → (first_below (at_value (λ vs. p (old ++ vs)) ws) (v + 1) ≡ None) × (new ≡ old ++ (v ∷ []))
  then_none pushed new b is none t went =
      let n = none_at p old ws v new
      (subst (λ (q : Bool). WentOn (first_failing (λ vs. p ((old ++ (v ∷ [])) ++ vs)) ws) (old ++ (v ∷ [])) new q) t
      (subst (λ (us : List ℕ). WentOn (first_failing (λ vs. p (us ++ vs)) ws) us new b) is went)) in
      (below_more _ v none n.0, n.1)

  pub then_ended : (new : List ℕ) → new ≡ old → first_below (at_value (λ vs. p (old ++ vs)) ws) v ≡ None → v ≤ e → e ≤ v → WentOn (first_failing (λ vs. p (old ++ vs)) widths) old new false
  then_ended new same none l m =
      subst (λ (us : List ℕ). WentOn (first_failing (λ vs. p (old ++ vs)) us) old new false) (sym listed) (ends_none p old ws w v new same none (omega (arith, end_is)))

-- a list that isn't empty
pub uncons : (rest : List ℕ) → 0 < length rest → rest ≡ get_or rest 0 0 ∷ take (length rest - 1) (drop 1 rest)
uncons [] l = absurd (omega (arith, l))
uncons (x ∷ xs) l = (λ i. x ∷ sym (take_all (length (x ∷ xs) - 1) xs (omega arith)) i)

pub none_left : (xs : List ℕ) → length xs < 1 → xs ≡ []
none_left [] h = refl
none_left (x ∷ xs) h = absurd (omega (arith, h))

pub tried_alone : (p : List ℕ → Bool) (old widths shown : List ℕ) (b : Bool) → length widths < 1 → shown ≡ old → b ≡ p shown → WentOn (first_failing (λ vs. p (old ++ vs)) widths) old old (not b)
tried_alone p old widths shown b l same is =
    subst (λ (us : List ℕ). WentOn (first_failing (λ vs. p (old ++ vs)) us) old old (not b)) (sym (none_left widths l))
    (subst (λ (q : Bool). WentOn (first_failing (λ vs. p (old ++ vs)) []) old old (not q)) (sym (is ∙ ap p same)) (ends_tried p old))

-- nothing is below 0
pub none_yet : {X : Type 0} → (f : ℕ → Option X) → first_below f 0 ≡ None
unfolding first_below
none_yet f = refl

-- pushing and popping a value restores the list
pub popped : (old prev new : List ℕ) (v n : ℕ) → prev ≡ old ++ (v ∷ []) → n ≡ length prev → new ≡ take (n - 1) prev → new ≡ old
popped old prev new v n is long rest =
    let l : n - 1 ≡ length old = omega (arith, long, ap length is, length-append old (v ∷ [])) in
    rest ∙ (λ i. take (l i) (is i)) ∙ take_preceding old (v ∷ [])
  where
    take_preceding : (xs ys : List ℕ) → take (length xs) (xs ++ ys) ≡ xs
    take_preceding [] ys = refl
    take_preceding (x ∷ xs) ys = ap (λ us. x ∷ us) (take_preceding xs ys)
