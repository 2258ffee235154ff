-- Steps of loops that go through a list and match on the rest.
use Rattle.std.proofs.Common.{◌≡◌, ◌∙◌, ap, sym, ℕ, ◌+◌, ◌<◌, ◌≤◌, List, [], ◌∷◌, ◌++◌, length, get_or, set, take, drop, map, add-one, append_assoc, append-nil, arith, subst, length-append, min, max, ◌-◌, ◌^◌}
use Rattle.std.proofs.Math.Seq.{drop-cons}
use Rattle.std.proofs.lemmas.List.{map-append, drop_all, take_all, take_more_set, drop-set-lt, take-append-le}

-- the rest is the next item, followed by the new rest
pub next_left : {X : Type 0} (xs : List X) (n : ℕ) (x : X) → n < length xs → x ≡ get_or xs n x → drop n xs ≡ x ∷ drop (n + 1) xs
next_left xs n x l e = drop-cons xs n x l ∙ (λ i. sym e i ∷ drop (sym (add-one n) i) xs)

-- the rest after one more step
pub left_next : {X Y : Type 0} (before after : List X → Y) (xs : List X) (n : ℕ) (x : X) (all : Y) → n < length xs → x ≡ get_or xs n x → before (x ∷ drop (n + 1) xs) ≡ after (drop (n + 1) xs) → all ≡ before (drop n xs)
    → all ≡ after (drop (n + 1) xs)
left_next before after xs n x all l e t h = h ∙ ap before (next_left xs n x l e) ∙ t

-- a step that decides the whole
pub left_stop : {X Y : Type 0} (left : List X → Y) (xs : List X) (n : ℕ) (x : X) (all y : Y) → n < length xs → x ≡ get_or xs n x → left (x ∷ drop (n + 1) xs) ≡ y → all ≡ left (drop n xs) → all ≡ y
left_stop left xs n x all y l e t h = h ∙ ap left (next_left xs n x l e) ∙ t

-- the end, with an empty rest
pub left_none : {X Y : Type 0} (left : List X → Y) (xs : List X) (n : ℕ) (all : Y) → length xs ≤ n → all ≡ left (drop n xs) → all ≡ left []
left_none left xs n all l h = h ∙ ap left (drop_all n xs l)

-- a loop that builds a list from the items: the part built, and the part still to build, are the whole
pub made_next : {X Y : Type 0} (todo : ℕ → List X → List Y) (xs : List X) (n : ℕ) (x : X) (ys made new whole : List Y)
    → n < length xs → x ≡ get_or xs n x → new ≡ made ++ ys → ys ++ todo (n + 1) (drop (n + 1) xs) ≡ todo n (x ∷ drop (n + 1) xs) → made ++ todo n (drop n xs) ≡ whole
    → new ++ todo (n + 1) (drop (n + 1) xs) ≡ whole
made_next todo xs n x ys made new whole l e m t h =
    ap (λ z. z ++ todo (n + 1) (drop (n + 1) xs)) m ∙ append_assoc made ys (todo (n + 1) (drop (n + 1) xs)) ∙ ap (λ z. made ++ z) (t ∙ ap (todo n) (sym (next_left xs n x l e))) ∙ h

-- at the end, the built part is the whole
pub made_all : {X Y : Type 0} (todo : ℕ → List X → List Y) (xs : List X) (n : ℕ) (made whole : List Y) → todo n [] ≡ [] → length xs ≤ n → made ++ todo n (drop n xs) ≡ whole → made ≡ whole
made_all todo xs n made whole none l h = sym (append-nil made) ∙ ap (λ z. made ++ z) (sym (ap (todo n) (drop_all n xs l) ∙ none)) ∙ h

-- the part built after an existing list
pub made_after : {Y : Type 0} (old first rest mid new whole : List Y) → mid ≡ old ++ first → new ≡ mid ++ rest → first ++ rest ≡ whole → new ≡ old ++ whole
made_after old first rest mid new whole m n w = n ∙ ap (λ z. z ++ rest) m ∙ append_assoc old first rest ∙ ap (λ z. old ++ z) w

-- the views of a list with one more element
pub map_more : {X Y : Type 0} (f : X → Y) (made new : List X) (x : X) → new ≡ made ++ x ∷ [] → map f new ≡ map f made ++ f x ∷ []
map_more f made new x e = ap (map f) e ∙ map-append f made (x ∷ [])

-- a loop that replaces each item by f of it: the replaced part, and f of the rest, are the whole
pub write_next : {X : Type 0} (f : X → X) (xs : List X) (n : ℕ) (x y : X) (whole : List X) → n < length xs → x ≡ get_or xs n x → y ≡ f x → take n xs ++ map f (drop n xs) ≡ whole
    → take (n + 1) (set xs n y) ++ map f (drop (n + 1) (set xs n y)) ≡ whole
write_next f xs n x y whole l e v h =
    (λ i. take_more_set xs n y l i ++ map f (drop-set-lt (n + 1) xs n y (omega arith) i))
    ∙ append_assoc (take n xs) (y ∷ []) (map f (drop (n + 1) xs))
    ∙ ap (λ z. take n xs ++ z) (ap (λ z. z ∷ map f (drop (n + 1) xs)) v ∙ ap (map f) (sym (next_left xs n x l e)))
    ∙ h

pub write_all : {X : Type 0} (f : X → X) (xs : List X) (n : ℕ) (whole : List X) → length xs ≤ n → take n xs ++ map f (drop n xs) ≡ whole → xs ≡ whole
write_all f xs n whole l h = sym (append-nil xs) ∙ (λ i. sym (take_all n xs l) i ++ map f (sym (drop_all n xs l) i)) ∙ h

-- a prefix of length n of a list with one more item appended
pub within_more : {X : Type 0} (n : ℕ) (old new : List X) (x : X) → new ≡ old ++ x ∷ [] → n ≤ length old → n ≤ length new
within_more n old new x e l = subst (λ (z : ℕ). n ≤ z) (sym (ap length e ∙ length-append old (x ∷ []))) (omega arith)

pub take_of_more : {X : Type 0} (n : ℕ) (old new : List X) (x : X) → new ≡ old ++ x ∷ [] → n ≤ length old → take n new ≡ take n old
take_of_more n old new x e l = ap (take n) e ∙ take-append-le n old (x ∷ []) l

-- a saturating count, with the rest still to count
pub sum_next : (count got own new left rest all : ℕ) → got ≡ min own (2 ^ 64 - 1) → new ≡ min (count + got) (2 ^ 64 - 1) → left ≡ own + rest → min (count + left) (2 ^ 64 - 1) ≡ all
    → (new ≤ 2 ^ 64 - 1) × (min (new + rest) (2 ^ 64 - 1) ≡ all)
sum_next count got own new left rest all g n l h = (omega arith, omega arith)

-- a saturating maximum
pub most_next : (most got own new left rest all : ℕ) → got ≡ min own (2 ^ 64 - 1) → new ≡ max most got → left ≡ max own rest → (most ≤ 2 ^ 64 - 1) × (min (max most left) (2 ^ 64 - 1) ≡ all)
    → (new ≤ 2 ^ 64 - 1) × (min (max new rest) (2 ^ 64 - 1) ≡ all)
most_next most got own new left rest all g n l h = (omega arith, omega arith)
