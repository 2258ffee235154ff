-- The loops of both phases, and their counts of looks.
use Rattle.std.proofs.Common.{◌≡◌, ◌<◌, ◌≤◌, ◌+◌, ℕ, List, [], ◌∷◌, ◌++◌, length, get_or, take, Option, ◌⊎◌, inl, inr, refl, sym, ap, ◌∙◌, subst, arith}
use Rattle.std.proofs.lemmas.List.{take_more, take-append-le, take_all}
use Rattle.ir_event.specs.tree_laws.Members.{In}
use Rattle.ir_event.proofs.of_tree_laws.Listed.{in_left, in_right, in_parts}
use Rattle.constants.specs.Facts.{Header, Facts}
use Rattle.constants.specs.Trails.{total, Uses, IsThere, IsTrail}
use Rattle.constants.specs.Phases.{Forgotten, Learnt, LearntFrom}
use Rattle.constants.proofs.Forgets.{in_one, in_read, forgot_more, ForgettingFrom, forgetting_from_start, forgetting_from_more, trail_more}
use Rattle.constants.proofs.Learns.{learnt_more, learnt_nothing, LearningFrom, learning_from_start, learning_from_more, learning_from_end, learnt_trail_start, learnt_trail_more}
use Prim.Native.Nat.{zero, suc}

pub total_append : (g : ℕ → ℕ) (xs ys : List ℕ) → total g (xs ++ ys) ≡ total g xs + total g ys
total_append g [] ys = omega arith
total_append g (x ∷ xs) ys = let h = total_append g xs ys in omega (arith, h)

-- a longer trail costs no less
total_preceding : (g : ℕ → ℕ) (trail more : List ℕ) (i e : ℕ) → i < length trail → e ≡ get_or trail i e → total g (take i trail) + g e ≤ total g (trail ++ more)
total_preceding g [] more i e lt is = absurd (omega (arith, lt))
total_preceding g (x ∷ xs) more zero e lt is = let h : ◌≡◌ {A = ℕ} (g e) (g x) = ap g is in omega (arith, h)
total_preceding g (x ∷ xs) more (suc i) e lt is = let h = total_preceding g xs more i e (omega (arith, lt)) is in omega (arith, h)

total_next : (g : ℕ → ℕ) (trail more : List ℕ) (i e : ℕ) → i < length trail → e ≡ get_or trail i e → total g (take (i + 1) (trail ++ more)) ≡ total g (take i trail) + g e
total_next g trail more i e lt is =
    ap (total g) (take-append-le (i + 1) trail more (omega (arith, lt)) ∙ take_more trail i e lt ∙ ap (λ z. take i trail ++ z ∷ []) (sym is))
    ∙ total_append g (take i trail) (e ∷ [])
    ∙ ap (λ n. total g (take i trail) + n) (last (g e))
  where
    last : (n : ℕ) → n + 0 ≡ n
    last n = omega arith

-- one more item of a list
taken_more : (xs : List ℕ) (i e y : ℕ) → i < length xs → e ≡ get_or xs i e → In y (take (i + 1) xs) → In y (take i xs) ⊎ (y ≡ e)
taken_more xs i e y lt is h =
    let split : take (i + 1) xs ≡ take i xs ++ e ∷ [] = take_more xs i e lt ∙ ap (λ z. take i xs ++ z ∷ []) (sym is) in
    elim (in_parts y (take i xs) (e ∷ []) (subst (In y) split h)) [ inl k ↦ inl k | inr k ↦ inr (in_one y e k) ]

taken_before : (xs : List ℕ) (i y : ℕ) → In y (take i xs) → In y xs
taken_before [] zero y h = h
taken_before [] (suc i) y h = h
taken_before (x ∷ xs) zero y h = absurd h
taken_before (x ∷ xs) (suc i) y h = elim h [ inl e ↦ inl e | inr k ↦ inr (taken_before xs i y k) ]

taken_within : (xs : List ℕ) (i e y : ℕ) → i < length xs → e ≡ get_or xs i e → In y (take i xs) → In y (take (i + 1) xs)
taken_within xs i e y lt is h =
    let split : take (i + 1) xs ≡ take i xs ++ e ∷ [] = take_more xs i e lt ∙ ap (λ z. take i xs ++ z ∷ []) (sym is) in
    subst (In y) (sym split) (in_left y (take i xs) (e ∷ []) h)

taken_last : (xs : List ℕ) (i e y : ℕ) → i < length xs → e ≡ get_or xs i e → y ≡ e → In y (take (i + 1) xs)
taken_last xs i e y lt is h =
    let split : take (i + 1) xs ≡ take i xs ++ e ∷ [] = take_more xs i e lt ∙ ap (λ z. take i xs ++ z ∷ []) (sym is) in
    subst (In y) (sym split) (in_right y (take i xs) (e ∷ []) (inl h))

-- forgetting in order
pub forgot_next : (D E F : Type 0) (xs : List ℕ) (i e : ℕ) (a b c : Facts) (l m n : List ℕ) → D → E → i < length xs → e ≡ get_or xs i e → Forgotten D (λ y. In y (take i xs)) a b l m → Forgotten E (λ y. y ≡ e) b c m n
    → Forgotten F (λ y. In y (take (i + 1) xs)) a c l n
forgot_next D E F xs i e a b c l m n d f lt is one two =
    forgot_more D E F (λ y. In y (take i xs)) (λ y. y ≡ e) (λ y. In y (take (i + 1) xs)) a b c l m n d (λ z. f) (λ y. taken_within xs i e y lt is) (λ y. taken_last xs i e y lt is) (λ z y. taken_more xs i e y lt is) one two

-- the loop breaks off
pub forgot_broken : (D E F : Type 0) (xs : List ℕ) (i e : ℕ) (a b c : Facts) (l m n : List ℕ) → D → (F → ⊥) → i < length xs → e ≡ get_or xs i e → Forgotten D (λ y. In y (take i xs)) a b l m → Forgotten E (λ y. y ≡ e) b c m n
    → Forgotten F (λ y. In y xs) a c l n
forgot_broken D E F xs i e a b c l m n d not_done lt is one two =
    forgot_more D E F (λ y. In y (take i xs)) (λ y. y ≡ e) (λ y. In y xs) a b c l m n d (λ z. absurd (not_done z)) (λ y. taken_before xs i y) (λ y h. subst (λ z. In z xs) (sym h) (in_read xs i e lt is)) (λ z. absurd (not_done z)) one two

-- the loop reaches the end
pub forgot_all : (D F : Type 0) (xs : List ℕ) (i : ℕ) (a b : Facts) (l m : List ℕ) → D → length xs ≤ i → Forgotten D (λ y. In y (take i xs)) a b l m → Forgotten F (λ y. In y xs) a b l m
forgot_all D F xs i a b l m d le f = record {
  more = f.more;
  is = f.is;
  once = f.once;
  only = λ y h. taken_before xs i y (f.only y h);
  was = f.was;
  gone = f.gone;
  kept = f.kept;
  all = λ z y h. f.all d y (subst (In y) (sym (take_all i xs le)) h);
}

module _ {W : Type 0} (ops : W → ℕ → Option Header) (uses : W → ℕ → ℕ) where
  -- the loop of the first phase
  pub record ForgetsFrom (x : ℕ) (start table : Facts) (trail : List ℕ) (next : ℕ) (first w : W) (none looks : ℕ) : Type 0 where
    pub from : ForgettingFrom (ops first) x start table trail next
    pub world : w ≡ first
    pub few : looks ≤ none + total (λ d. 1 + uses first d) (take next trail)

  pub forgets_start : (D : Type 0) (x : ℕ) (start table : Facts) (l trail : List ℕ) (w : W) (looks : ℕ) → D → l ≡ [] → Forgotten D (λ y. y ≡ x) start table l trail → ForgetsFrom x start table trail 0 w w looks looks
  forgets_start D x start table l trail w looks d empty f = record { from = forgetting_from_start (ops w) D x start table l trail d empty f; world = refl; few = omega arith }

  pub forgets_more : (D : Type 0) (x e : ℕ) (start old new : Facts) (trail longer : List ℕ) (next : ℕ) (first w v : W) (none looks more : ℕ) → D → next < length trail → e ≡ get_or trail next e
      → ForgetsFrom x start old trail next first w none looks → Forgotten D (Uses (ops w) e) old new trail longer → more ≤ looks + (1 + uses w e) → v ≡ w → ForgetsFrom x start new longer (next + 1) first v none more
  forgets_more D x e start old new trail longer next first w v none looks more d lt is b f bound same =
      let f2 : Forgotten D (Uses (ops first) e) old new trail longer = subst (λ z. Forgotten D (Uses (ops z) e) old new trail longer) b.world f in
      let bound2 : more ≤ looks + (1 + uses first e) = subst (λ z. more ≤ looks + (1 + uses z e)) b.world bound in
      let few = b.few in
      let sum : total (λ d. 1 + uses first d) (take (next + 1) longer) ≡ total (λ d. 1 + uses first d) (take next trail) + (1 + uses first e) =
      ap (λ l. total (λ d. 1 + uses first d) (take (next + 1) l)) f2.is ∙ total_next (λ d. 1 + uses first d) trail f2.more next e lt is in
      record {
        from = forgetting_from_more (ops first) D x e start old new trail longer next d lt is b.from f2;
        world = same ∙ b.world;
        few = omega (arith, few, bound2, sum);
      }

  pub forgets_looks : (D : Type 0) (x e : ℕ) (start old new : Facts) (trail longer : List ℕ) (next : ℕ) (first w : W) (none looks more : ℕ) → next < length trail → e ≡ get_or trail next e
      → ForgetsFrom x start old trail next first w none looks → Forgotten D (Uses (ops w) e) old new trail longer → more ≤ looks + (1 + uses w e) → more ≤ none + total (λ d. 1 + uses first d) longer
  forgets_looks D x e start old new trail longer next first w none looks more lt is b f bound =
      let bound2 : more ≤ looks + (1 + uses first e) = subst (λ z. more ≤ looks + (1 + uses z e)) b.world bound in
      let few = b.few in
      let sum : total (λ d. 1 + uses first d) (take next trail) + (1 + uses first e) ≤ total (λ d. 1 + uses first d) longer =
      subst (λ l. total (λ d. 1 + uses first d) (take next trail) + (1 + uses first e) ≤ total (λ d. 1 + uses first d) l) (sym f.is) (total_preceding (λ d. 1 + uses first d) trail f.more next e lt is) in
      omega (arith, few, bound2, sum)

  pub forgets_trail : (D : Type 0) (x e : ℕ) (start old new : Facts) (trail longer : List ℕ) (next : ℕ) (first w : W) (none looks : ℕ) → next < length trail → e ≡ get_or trail next e
      → ForgetsFrom x start old trail next first w none looks → Forgotten D (Uses (ops w) e) old new trail longer → IsTrail (ops first) (λ y. y ≡ x) start longer
  forgets_trail D x e start old new trail longer next first w none looks lt is b f =
      trail_more (ops first) D x e start old new trail longer (in_read trail next e lt is) b.from.gone b.from.below b.from.path (subst (λ z. Forgotten D (Uses (ops z) e) old new trail longer) b.world f)

  pub forgets_end : (x : ℕ) (start table : Facts) (trail : List ℕ) (next : ℕ) (first w : W) (none looks : ℕ) → length trail ≤ next → ForgetsFrom x start table trail next first w none looks → looks ≤ none + total (λ d. 1 + uses first d) trail
  forgets_end x start table trail next first w none looks le b = subst (λ l. looks ≤ none + total (λ d. 1 + uses first d) l) (take_all next trail le) b.few

  -- folding in order
  pub record LearnsAll (xs : List ℕ) (i : ℕ) (start table : Facts) (l trail : List ℕ) (first w : W) (none looks : ℕ) : Type 0 where
    pub learnt : ((y : ℕ) → In y xs → IsThere (ops first) y) → Learnt (Unit {0}) (ops first) (λ y. In y (take i xs)) start table l trail
    pub world : w ≡ first
    pub few : looks ≤ none + i

  pub learns_start : (xs : List ℕ) (t : Facts) (trail : List ℕ) (w : W) (looks : ℕ) → LearnsAll xs 0 t t trail trail w w looks looks
  learns_start xs t trail w looks = record { learnt = λ there. learnt_nothing (ops w) (Unit {0}) (λ y. In y []) t trail (λ d y h. absurd h); world = refl; few = omega arith }

  pub learns_more : (D : Type 0) (xs : List ℕ) (i e : ℕ) (start old new : Facts) (l trail longer : List ℕ) (first w v : W) (none looks more : ℕ) → D → i < length xs → e ≡ get_or xs i e
      → LearnsAll xs i start old l trail first w none looks → (IsThere (ops w) e → Learnt D (ops w) (λ y. y ≡ e) old new trail longer) → more ≤ looks + 1 → v ≡ w → LearnsAll xs (i + 1) start new l longer first v none more
  learns_more D xs i e start old new l trail longer first w v none looks more d lt is b f bound same = record {
    learnt = λ there.
        let g : Learnt D (ops first) (λ y. y ≡ e) old new trail longer = subst (λ z. IsThere (ops z) e → Learnt D (ops z) (λ y. y ≡ e) old new trail longer) b.world f (there e (in_read xs i e lt is)) in
        learnt_more (ops first) (Unit {0}) D (Unit {0}) (λ y. In y (take i xs)) (λ y. y ≡ e) (λ y. In y (take (i + 1) xs)) start old new l trail longer tt (λ z. d)
        (λ y. taken_within xs i e y lt is) (λ y. taken_last xs i e y lt is) (λ z y. taken_more xs i e y lt is) (b.learnt there) g;
    world = same ∙ b.world;
    few = let few = b.few in omega (arith, few, bound);
  }

  pub learns_broken : (D F : Type 0) (xs : List ℕ) (i e : ℕ) (start old new : Facts) (l trail longer : List ℕ) (first w : W) (none looks : ℕ) → (F → ⊥) → i < length xs → e ≡ get_or xs i e
      → LearnsAll xs i start old l trail first w none looks → (IsThere (ops w) e → Learnt D (ops w) (λ y. y ≡ e) old new trail longer)
      → ((y : ℕ) → In y xs → IsThere (ops first) y) → Learnt F (ops first) (λ y. In y xs) start new l longer
  learns_broken D F xs i e start old new l trail longer first w none looks not_done lt is b f there =
      let g : Learnt D (ops first) (λ y. y ≡ e) old new trail longer = subst (λ z. IsThere (ops z) e → Learnt D (ops z) (λ y. y ≡ e) old new trail longer) b.world f (there e (in_read xs i e lt is)) in
      learnt_more (ops first) (Unit {0}) D F (λ y. In y (take i xs)) (λ y. y ≡ e) (λ y. In y xs) start old new l trail longer tt (λ z. absurd (not_done z))
      (λ y. taken_before xs i y) (λ y h. subst (λ z. In z xs) (sym h) (in_read xs i e lt is)) (λ z. absurd (not_done z)) (b.learnt there) g

  pub learns_all : (F : Type 0) (xs : List ℕ) (i : ℕ) (start table : Facts) (l trail : List ℕ) (first w : W) (none looks : ℕ) → length xs ≤ i → LearnsAll xs i start table l trail first w none looks
      → ((y : ℕ) → In y xs → IsThere (ops first) y) → Learnt F (ops first) (λ y. In y xs) start table l trail
  learns_all F xs i start table l trail first w none looks le b there =
      let f = b.learnt there in
      record {
        more = f.more;
        is = f.is;
        once = f.once;
        only = λ y h. taken_before xs i y (f.only y h);
        was = f.was;
        now = f.now;
        grows = f.grows;
        sound = f.sound;
        kept = λ z. f.kept tt;
        settled = λ z y h. f.settled tt y (subst (In y) (sym (take_all i xs le)) h);
      }

  -- the loop of the second phase
  pub record LearnsFrom (x : ℕ) (forgotten : List ℕ) (start table : Facts) (trail : List ℕ) (next : ℕ) (first w : W) (none looks : ℕ) : Type 0 where
    pub from : LearningFrom (ops first) x forgotten start table trail next
    pub world : w ≡ first
    pub few : looks ≤ none + (1 + length forgotten + (total (λ d. 1 + uses first d) (take next trail) + total (uses first) (take next trail)))

  pub learns_from_start : (D : Type 0) (x : ℕ) (forgotten : List ℕ) (start table : Facts) (l trail : List ℕ) (first w : W) (none looks : ℕ) → D → l ≡ [] → Learnt D (ops first) (λ y. (y ≡ x) ⊎ In y forgotten) start table l trail → w ≡ first
      → looks ≤ none + (1 + length forgotten) → LearnsFrom x forgotten start table trail 0 first w none looks
  learns_from_start D x forgotten start table l trail first w none looks d empty f same bound = record {
    from = learning_from_start (ops first) D x forgotten start table l trail d empty f;
    world = same;
    few = omega (arith, bound);
  }

  pub learns_from_more : (D : Type 0) (x e : ℕ) (forgotten : List ℕ) (start old new : Facts) (trail longer : List ℕ) (next : ℕ) (first w v : W) (none looks more : ℕ) → D → next < length trail → e ≡ get_or trail next e
      → LearnsFrom x forgotten start old trail next first w none looks → Learnt D (ops w) (Uses (ops w) e) old new trail longer → more ≤ looks + (1 + uses w e + uses w e) → v ≡ w
      → LearnsFrom x forgotten start new longer (next + 1) first v none more
  learns_from_more D x e forgotten start old new trail longer next first w v none looks more d lt is b f bound same =
      let f2 : Learnt D (ops first) (Uses (ops first) e) old new trail longer = subst (λ z. Learnt D (ops z) (Uses (ops z) e) old new trail longer) b.world f in
      let bound2 : more ≤ looks + (1 + uses first e + uses first e) = subst (λ z. more ≤ looks + (1 + uses z e + uses z e)) b.world bound in
      let few = b.few in
      let sum : total (λ d. 1 + uses first d) (take (next + 1) longer) ≡ total (λ d. 1 + uses first d) (take next trail) + (1 + uses first e) =
      ap (λ l. total (λ d. 1 + uses first d) (take (next + 1) l)) f2.is ∙ total_next (λ d. 1 + uses first d) trail f2.more next e lt is in
      let sum2 : total (uses first) (take (next + 1) longer) ≡ total (uses first) (take next trail) + uses first e = ap (λ l. total (uses first) (take (next + 1) l)) f2.is ∙ total_next (uses first) trail f2.more next e lt is in
      record {
        from = learning_from_more (ops first) D x e forgotten start old new trail longer next d lt is b.from f2;
        world = same ∙ b.world;
        few = omega (arith, few, bound2, sum, sum2);
      }

  pub learns_from_broken : (D F : Type 0) (x e : ℕ) (forgotten : List ℕ) (start old new : Facts) (trail longer : List ℕ) (next : ℕ) (first w : W) (none looks more : ℕ) → (F → ⊥) → next < length trail → e ≡ get_or trail next e
      → LearnsFrom x forgotten start old trail next first w none looks → Learnt D (ops w) (Uses (ops w) e) old new trail longer → more ≤ looks + (1 + uses w e + uses w e)
      → LearntFrom F (ops first) (uses first) x forgotten start new none more
  learns_from_broken D F x e forgotten start old new trail longer next first w none looks more not_done lt is b f bound =
      let f2 : Learnt D (ops first) (Uses (ops first) e) old new trail longer = subst (λ z. Learnt D (ops z) (Uses (ops z) e) old new trail longer) b.world f in
      let bound2 : more ≤ looks + (1 + uses first e + uses first e) = subst (λ z. more ≤ looks + (1 + uses z e + uses z e)) b.world bound in
      let few = b.few in
      let sum : total (λ d. 1 + uses first d) (take next trail) + (1 + uses first e) ≤ total (λ d. 1 + uses first d) longer =
      subst (λ l. total (λ d. 1 + uses first d) (take next trail) + (1 + uses first e) ≤ total (λ d. 1 + uses first d) l) (sym f2.is) (total_preceding (λ d. 1 + uses first d) trail f2.more next e lt is) in
      let sum2 : total (uses first) (take next trail) + uses first e ≤ total (uses first) longer =
      subst (λ l. total (uses first) (take next trail) + uses first e ≤ total (uses first) l) (sym f2.is) (total_preceding (uses first) trail f2.more next e lt is) in
      record {
        trail = longer;
        path = learnt_trail_more (ops first) D (λ y. (y ≡ x) ⊎ In y forgotten) e old new trail longer (in_read trail next e lt is) b.from.path f2;
        sound = λ h. f2.sound (b.from.sound h);
        few = omega (arith, few, bound2, sum, sum2);
        local = λ d. absurd (not_done d);
      }

  pub learns_first_broken : (D F : Type 0) (x : ℕ) (forgotten : List ℕ) (start table : Facts) (l trail : List ℕ) (first : W) (none looks : ℕ) → (F → ⊥) → l ≡ [] → Learnt D (ops first) (λ y. (y ≡ x) ⊎ In y forgotten) start table l trail
      → looks ≤ none + (1 + length forgotten) → LearntFrom F (ops first) (uses first) x forgotten start table none looks
  learns_first_broken D F x forgotten start table l longer first none looks not_done empty f bound = record {
    trail = longer;
    path = learnt_trail_start (ops first) D (λ y. (y ≡ x) ⊎ In y forgotten) start table l longer empty f;
    sound = f.sound;
    few = omega (arith, bound);
    local = λ d. absurd (not_done d);
  }

  pub learns_from_end : (D : Type 0) (x : ℕ) (forgotten : List ℕ) (start table : Facts) (trail : List ℕ) (next : ℕ) (first w : W) (none looks : ℕ) → length trail ≤ next → LearnsFrom x forgotten start table trail next first w none looks
      → LearntFrom D (ops first) (uses first) x forgotten start table none looks
  learns_from_end D x forgotten start table longer next first w none looks le b = record {
    trail = longer;
    path = b.from.path;
    sound = b.from.sound;
    few = subst (λ l. looks ≤ none + (1 + length forgotten + (total (λ d. 1 + uses first d) l + total (uses first) l))) (take_all next longer le) b.few;
    local = λ d from. learning_from_end (ops first) x forgotten start table longer next le b.from from;
  }
