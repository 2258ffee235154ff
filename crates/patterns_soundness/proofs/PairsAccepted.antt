-- Placeholders of arguments, and the values that replace them.
use Rattle.std.proofs.Common.{◌≡◌, refl, ap, sym, ◌∙◌, subst, ℕ, zero, suc, ◌+◌, ◌<◌, ◌≤◌, Bool, true, false, true≢false, cond, ◌&&◌, eqb, eq-eqb, eqb-true, List, [], ◌∷◌, length, map, inl, inr, ◌⊎◌, arith}
use Rattle.std.specs.List.{range_with_len}
use Rattle.ir_event.specs.types.Terms.{TypeTerm}
use Rattle.ir_event.specs.trees.declared.value.Value.{Value}
use Rattle.ir_event.specs.trees.declared.value.Value.TheVariants.{Result, Arg}
use Rattle.ir_event.specs.trees.declared.place.Place.{Place}
use Rattle.ir_event.specs.trees.Uses.{same_value}
use Rattle.ir_event.specs.tree_laws.Members.{In}
use Rattle.rewriter_machine.specs.Edits.{Erase, Replace}
use Rattle.patterns_soundness.specs.base.Looks.{is_index}
use Rattle.patterns_soundness.specs.base.Makes.{arguments_from, erasing, replaced, replacing}
use Rattle.patterns_soundness.specs.base.Lowering.{crossed, indices}
use Rattle.patterns_soundness.proofs.Erased.{AllOther, Held, erase_edits}
use Rattle.patterns_soundness.proofs.Holders.{holders_from}
use Rattle.patterns_soundness.proofs.Replacing.{AllApart, Pair, pair_edits}

pub less_apart : (a b : ℕ) → a < b → eqb a b ≡ false
less_apart a b l = go (eqb a b) refl
  where
    go : (c : Bool) → eqb a b ≡ c → eqb a b ≡ false
    go false e = e
    go true e = (let i = eqb-true a b e in absurd (omega (arith, i, l)))

pub more_apart : (a b : ℕ) → b < a → eqb a b ≡ false
more_apart a b l = go (eqb a b) refl
  where
    go : (c : Bool) → eqb a b ≡ c → eqb a b ≡ false
    go false e = e
    go true e = (let i = eqb-true a b e in absurd (omega (arith, i, l)))

-- placeholders with their types
pub holds : ℕ → List TypeTerm → List Held
holds h [] = []
holds h (ty ∷ tys) = (h, ty) ∷ holds (h + 1) tys

pub holds_are : (h : ℕ) (tys : List TypeTerm) → erasing (range_with_len h (length tys)) ≡ erase_edits (holds h tys)
unfolding holds
holds_are h [] = refl
holds_are h (ty ∷ tys) = ap (λ l. Erase h ∷ l) (holds_are (h + 1) tys)

holds_from : (h : ℕ) (tys : List TypeTerm) (q : Held) → In q (holds h tys) → h ≤ q.0
unfolding holds
holds_from h [] q i = absurd i
holds_from h (ty ∷ tys) q (inl s) = (let n = ap (λ (z : Held). z.0) s in omega (arith, n))
holds_from h (ty ∷ tys) q (inr i) = (let n = holds_from (h + 1) tys q i in omega (arith, n))

pub holds_other : (h : ℕ) (tys : List TypeTerm) → AllOther (holds h tys)
unfolding holds
holds_other h [] = tt
holds_other h (ty ∷ tys) = (λ q i. less_apart h q.0 (let n = holds_from (h + 1) tys q i in omega (arith, n)), holds_other (h + 1) tys)

module _ (y : ℕ) where
  -- the placeholders from h on, of the arguments from k on, where the next cast is c
  pub pairs : List Bool → ℕ → ℕ → ℕ → List TypeTerm → List Pair
  pairs (true ∷ ms) h k c (ty ∷ tys) = (h, Result c 0, ty) ∷ pairs ms (h + 1) (k + 1) (c + 1) tys
  pairs (false ∷ ms) h k c (ty ∷ tys) = (h, Arg y 0 k, ty) ∷ pairs ms (h + 1) (k + 1) c tys
  pairs _ h k c _ = []

  pub pairs_are : (ms : List Bool) (h k c : ℕ) (tys : List TypeTerm) → length ms ≡ length tys → replacing (holders_from h tys) (crossed c ms (arguments_from y k tys)) ≡ pair_edits (pairs ms h k c tys)
  unfolding pairs
  pairs_are [] h k c [] e = refl
  pairs_are [] h k c (ty ∷ tys) e = absurd (omega (arith, e))
  pairs_are (true ∷ ms) h k c [] e = absurd (omega (arith, e))
  pairs_are (false ∷ ms) h k c [] e = absurd (omega (arith, e))
  pairs_are (true ∷ ms) h k c (ty ∷ tys) e = ap (λ l. Replace (Result h 0) (Result c 0) ∷ l) (pairs_are ms (h + 1) (k + 1) (c + 1) tys (omega (arith, e)))
  pairs_are (false ∷ ms) h k c (ty ∷ tys) e = ap (λ l. Replace (Result h 0) (Arg y 0 k) ∷ l) (pairs_are ms (h + 1) (k + 1) c tys (omega (arith, e)))

  -- the properties of one placeholder
  pub record PlaceholderProperties (H : ℕ → TypeTerm → Type 0) (V : Bool → ℕ → ℕ → TypeTerm → Type 0) (h h2 c : ℕ) (p : Pair) : Type 0 where
    pub low : h ≤ p.0
    pub high : p.0 < h2
    pub held : H p.0 p.2
    pub mark : Bool
    pub number : ℕ
    pub cast : ℕ
    pub later : c ≤ cast
    pub value : p.1 ≡ cond mark (Result cast 0) (Arg y 0 number)
    pub news : V mark number cast p.2
    pub index : is_index p.2 ≡ mark

  -- each placeholder of a list, and the value that replaces it
  abbrev pub AllHeld : (ℕ → TypeTerm → Type 0) → ℕ → List TypeTerm → Type 0
  AllHeld H h [] = Unit {0}
  AllHeld H h (ty ∷ tys) = H h ty × AllHeld H (h + 1) tys

  abbrev pub AllNew : (Bool → ℕ → ℕ → TypeTerm → Type 0) → List Bool → ℕ → ℕ → List TypeTerm → Type 0
  AllNew V (b ∷ ms) k c (ty ∷ tys) = V b k c ty × AllNew V ms (k + 1) (cond b (c + 1) c) tys
  AllNew V _ k c _ = Unit {0}

  pub reported : (H : ℕ → TypeTerm → Type 0) (V : Bool → ℕ → ℕ → TypeTerm → Type 0) (ms : List Bool) (h k c : ℕ) (tys : List TypeTerm) → ms ≡ indices tys → AllHeld H h tys → AllNew V ms k c tys → (p : Pair) → In p (pairs ms h k c tys) → PlaceholderProperties H V h (h + length tys) c p
  unfolding pairs
  reported H V [] h k c tys e a n p i = absurd i
  reported H V (true ∷ ms) h k c [] e a n p i = absurd i
  reported H V (false ∷ ms) h k c [] e a n p i = absurd i
  reported H V (true ∷ ms) h k c (ty ∷ tys) e a n p (inl q) =
      let same : true ≡ is_index ty = cc in
      subst (PlaceholderProperties H V h (h + length (ty ∷ tys)) c) (sym q) (record { low = omega arith; high = omega arith; held = a.0; mark = true; number = k; cast = c; later = omega arith; value = refl; news = n.0; index = sym same })
  reported H V (true ∷ ms) h k c (ty ∷ tys) e a n p (inr i) =
      let rest : ms ≡ indices tys = cc in
      let r = reported H V ms (h + 1) (k + 1) (c + 1) tys rest a.1 n.1 p i in
      let l = r.low in
      let m = r.high in
      let j = r.later in
      record { low = omega (arith, l); high = omega (arith, m); held = r.held; mark = r.mark; number = r.number; cast = r.cast; later = omega (arith, j); value = r.value; news = r.news; index = r.index }
  reported H V (false ∷ ms) h k c (ty ∷ tys) e a n p (inl q) =
      let same : false ≡ is_index ty = cc in
      subst (PlaceholderProperties H V h (h + length (ty ∷ tys)) c) (sym q) (record { low = omega arith; high = omega arith; held = a.0; mark = false; number = k; cast = c; later = omega arith; value = refl; news = n.0; index = sym same })
  reported H V (false ∷ ms) h k c (ty ∷ tys) e a n p (inr i) =
      let rest : ms ≡ indices tys = cc in
      let r = reported H V ms (h + 1) (k + 1) c tys rest a.1 n.1 p i in
      let l = r.low in
      let m = r.high in
      record { low = omega (arith, l); high = omega (arith, m); held = r.held; mark = r.mark; number = r.number; cast = r.cast; later = r.later; value = r.value; news = r.news; index = r.index }

  -- no placeholder is one of those values
  pub record Far (h h2 : ℕ) (p : Pair) : Type 0 where
    pub low : h ≤ p.0
    pub high : p.0 < h2
    pub other : (j : ℕ) → j < h2 → same_value (Result j 0) p.1 ≡ false

  pub far : (ms : List Bool) (h k c : ℕ) (tys : List TypeTerm) → h + length tys ≤ c → (p : Pair) → In p (pairs ms h k c tys) → Far h (h + length tys) p
  unfolding pairs
  far [] h k c tys e p i = absurd i
  far (true ∷ ms) h k c [] e p i = absurd i
  far (false ∷ ms) h k c [] e p i = absurd i
  far (true ∷ ms) h k c (ty ∷ tys) e p (inl q) =
      subst (Far h (h + length (ty ∷ tys))) (sym q) (record { low = omega arith; high = omega arith; other = λ j l. ap (λ b. b && eqb 0 0) (less_apart j c (omega (arith, l, e))) })
  far (true ∷ ms) h k c (ty ∷ tys) e p (inr i) =
      let r = far ms (h + 1) (k + 1) (c + 1) tys (omega (arith, e)) p i in
      let l = r.low in
      let m = r.high in
      record { low = omega (arith, l); high = omega (arith, m); other = λ j n. r.other j (omega (arith, n)) }
  far (false ∷ ms) h k c (ty ∷ tys) e p (inl q) =
      subst (Far h (h + length (ty ∷ tys))) (sym q) (record { low = omega arith; high = omega arith; other = λ j l. refl })
  far (false ∷ ms) h k c (ty ∷ tys) e p (inr i) =
      let r = far ms (h + 1) (k + 1) c tys (omega (arith, e)) p i in
      let l = r.low in
      let m = r.high in
      record { low = omega (arith, l); high = omega (arith, m); other = λ j n. r.other j (omega (arith, n)) }

  module _ (x l : ℕ) (insertion : Place) (rs ys : List TypeTerm) (few : ℕ) where
    pub pairs_apart : (ms : List Bool) (h k c : ℕ) (tys : List TypeTerm) → h + length tys ≤ c → AllApart x y l insertion rs ys few (pairs ms h k c tys)
    unfolding pairs
    pairs_apart [] h k c tys e = tt
    pairs_apart (true ∷ ms) h k c [] e = tt
    pairs_apart (false ∷ ms) h k c [] e = tt
    pairs_apart (true ∷ ms) h k c (ty ∷ tys) e = (
      ap (λ b. b && eqb 0 0) (less_apart h c (omega (arith, e))),
      λ q i. (let f = far ms (h + 1) (k + 1) (c + 1) tys (omega (arith, e)) q i in let n = f.low in (ap (λ b. b && eqb 0 0) (less_apart h q.0 (omega (arith, n))), f.other h (omega arith))),
      pairs_apart ms (h + 1) (k + 1) (c + 1) tys (omega (arith, e)),
    )
    pairs_apart (false ∷ ms) h k c (ty ∷ tys) e = (
      refl,
      λ q i. (let f = far ms (h + 1) (k + 1) c tys (omega (arith, e)) q i in let n = f.low in (ap (λ b. b && eqb 0 0) (less_apart h q.0 (omega (arith, n))), f.other h (omega arith))),
      pairs_apart ms (h + 1) (k + 1) c tys (omega (arith, e)),
    )

  -- a value after all replacements
  pub by_case : (x : ℕ) (ms : List Bool) (h j k c : ℕ) (tys : List TypeTerm) → length ms ≡ length tys → (v : Value)
      → ((replaced (arguments_from x j tys) (crossed c ms (arguments_from y k tys)) v ≡ v) × (replaced (arguments_from x j tys) (holders_from h tys) v ≡ v)) ⊎ ((p : Pair) × In p (pairs ms h k c tys) × (replaced (arguments_from x j tys) (crossed c ms (arguments_from y k tys)) v ≡ p.1))
  unfolding pairs
  by_case x [] h j k c [] e v = inl (refl, refl)
  by_case x [] h j k c (ty ∷ tys) e v = absurd (omega (arith, e))
  by_case x (true ∷ ms) h j k c [] e v = absurd (omega (arith, e))
  by_case x (false ∷ ms) h j k c [] e v = absurd (omega (arith, e))
  by_case x (true ∷ ms) h j k c (ty ∷ tys) e v = go (same_value (Arg x 0 j) v) (by_case x ms (h + 1) (j + 1) (k + 1) (c + 1) tys (omega (arith, e)) v)
    where
      go : (b : Bool)
          → ((replaced (arguments_from x (j + 1) tys) (crossed (c + 1) ms (arguments_from y (k + 1) tys)) v ≡ v) × (replaced (arguments_from x (j + 1) tys) (holders_from (h + 1) tys) v ≡ v)) ⊎ ((p : Pair) × In p (pairs ms (h + 1) (k + 1) (c + 1) tys) × (replaced (arguments_from x (j + 1) tys) (crossed (c + 1) ms (arguments_from y (k + 1) tys)) v ≡ p.1))
          → ((cond b (Result c 0) (replaced (arguments_from x (j + 1) tys) (crossed (c + 1) ms (arguments_from y (k + 1) tys)) v) ≡ v) × (cond b (Result h 0) (replaced (arguments_from x (j + 1) tys) (holders_from (h + 1) tys) v) ≡ v))
          ⊎ ((p : Pair) × In p ((h, Result c 0, ty) ∷ pairs ms (h + 1) (k + 1) (c + 1) tys) × (cond b (Result c 0) (replaced (arguments_from x (j + 1) tys) (crossed (c + 1) ms (arguments_from y (k + 1) tys)) v) ≡ p.1))
      go true r = inr ((h, Result c 0, ty), inl refl, refl)
      go false (inl r) = inl r
      go false (inr r) = inr (r.0, inr r.1, r.2)
  by_case x (false ∷ ms) h j k c (ty ∷ tys) e v = go (same_value (Arg x 0 j) v) (by_case x ms (h + 1) (j + 1) (k + 1) c tys (omega (arith, e)) v)
    where
      go : (b : Bool)
          → ((replaced (arguments_from x (j + 1) tys) (crossed c ms (arguments_from y (k + 1) tys)) v ≡ v) × (replaced (arguments_from x (j + 1) tys) (holders_from (h + 1) tys) v ≡ v)) ⊎ ((p : Pair) × In p (pairs ms (h + 1) (k + 1) c tys) × (replaced (arguments_from x (j + 1) tys) (crossed c ms (arguments_from y (k + 1) tys)) v ≡ p.1))
          → ((cond b (Arg y 0 k) (replaced (arguments_from x (j + 1) tys) (crossed c ms (arguments_from y (k + 1) tys)) v) ≡ v) × (cond b (Result h 0) (replaced (arguments_from x (j + 1) tys) (holders_from (h + 1) tys) v) ≡ v))
          ⊎ ((p : Pair) × In p ((h, Arg y 0 k, ty) ∷ pairs ms (h + 1) (k + 1) c tys) × (cond b (Arg y 0 k) (replaced (arguments_from x (j + 1) tys) (crossed c ms (arguments_from y (k + 1) tys)) v) ≡ p.1))
      go true r = inr ((h, Arg y 0 k, ty), inl refl, refl)
      go false (inl r) = inl r
      go false (inr r) = inr (r.0, inr r.1, r.2)

  -- the placeholders alone
  pub in_pairs : (ms : List Bool) (h k c : ℕ) (tys : List TypeTerm) → length ms ≡ length tys → (q : Held) → In q (holds h tys) → (p : Pair) × In p (pairs ms h k c tys) × (p.0 ≡ q.0) × (p.2 ≡ q.1)
  unfolding pairs holds
  in_pairs [] h k c [] e q i = absurd i
  in_pairs [] h k c (ty ∷ tys) e q i = absurd (omega (arith, e))
  in_pairs (true ∷ ms) h k c [] e q i = absurd i
  in_pairs (false ∷ ms) h k c [] e q i = absurd i
  in_pairs (true ∷ ms) h k c (ty ∷ tys) e q (inl s) = ((h, Result c 0, ty), inl refl, ap (λ (z : Held). z.0) (sym s), ap (λ (z : Held). z.1) (sym s))
  in_pairs (false ∷ ms) h k c (ty ∷ tys) e q (inl s) = ((h, Arg y 0 k, ty), inl refl, ap (λ (z : Held). z.0) (sym s), ap (λ (z : Held). z.1) (sym s))
  in_pairs (true ∷ ms) h k c (ty ∷ tys) e q (inr i) = (let r = in_pairs ms (h + 1) (k + 1) (c + 1) tys (omega (arith, e)) q i in (r.0, inr r.1, r.2, r.3))
  in_pairs (false ∷ ms) h k c (ty ∷ tys) e q (inr i) = (let r = in_pairs ms (h + 1) (k + 1) c tys (omega (arith, e)) q i in (r.0, inr r.1, r.2, r.3))
