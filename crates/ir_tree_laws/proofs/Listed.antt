-- Lists: members, and functions of the concatenation of two lists.
use Rattle.std.proofs.Common.{◌≡◌, refl, ap, sym, ◌∙◌, subst, ℕ, max, Bool, true, false, true≢false, cond, not, ◌&&◌, ◌||◌, eqb, List, [], ◌∷◌, ◌++◌, map, filter, append_assoc, Option, Some, None, inl, inr, ◌⊎◌, arith}
use Rattle.std.specs.List.{list_any, list_all}
use Rattle.ir_tree.specs.Ids.{first_of}
use Rattle.ir_tree_laws.specs.Members.{In}
use Rattle.ir_tree_laws.specs.Stands.{OpWithPathOf, op_with_path_id, find_op_with_path, gather, first_some, greatest}

pub bool_cases : (b : Bool) → (b ≡ true) ⊎ (b ≡ false)
bool_cases true = inl refl
bool_cases false = inr refl

pub in_left : {X : Type 0} (x : X) (xs ys : List X) → In x xs → In x (xs ++ ys)
in_left x [] ys h = absurd h
in_left x (y ∷ xs) ys (inl e) = inl e
in_left x (y ∷ xs) ys (inr h) = inr (in_left x xs ys h)

pub in_right : {X : Type 0} (x : X) (xs ys : List X) → In x ys → In x (xs ++ ys)
in_right x [] ys h = h
in_right x (y ∷ xs) ys h = inr (in_right x xs ys h)

pub in_parts : {X : Type 0} (x : X) (xs ys : List X) → In x (xs ++ ys) → In x xs ⊎ In x ys
in_parts x [] ys h = inr h
in_parts x (y ∷ xs) ys (inl e) = inl (inl e)
in_parts x (y ∷ xs) ys (inr h) = elim (in_parts x xs ys h) [ inl a ↦ inl (inr a) | inr b ↦ inr b ]

pub in_map : {X Y : Type 0} (f : X → Y) (x : X) (xs : List X) → In x xs → In (f x) (map f xs)
in_map f x [] h = absurd h
in_map f x (y ∷ xs) (inl e) = inl (ap f e)
in_map f x (y ∷ xs) (inr h) = inr (in_map f x xs h)

-- a member of a mapped list is the image of a member
pub in_mapped : {X Y : Type 0} (f : X → Y) (y : Y) (xs : List X) → In y (map f xs) → (x : X) × In x xs × (y ≡ f x)
in_mapped f y [] h = absurd h
in_mapped f y (x ∷ xs) (inl e) = (x, inl refl, e)
in_mapped f y (x ∷ xs) (inr h) = let r = in_mapped f y xs h in (r.0, inr r.1, r.2)

-- a member of a filtered list
pub in_filter : {X : Type 0} (p : X → Bool) (x : X) (xs : List X) → p x ≡ true → In x xs → In x (filter p xs)
in_filter p x [] e h = absurd h
in_filter p x (y ∷ xs) e (inl k) = subst (λ b. In x (cond b (y ∷ filter p xs) (filter p xs))) (sym (sym (ap p k) ∙ e)) (inl k)
in_filter p x (y ∷ xs) e (inr h) =
    let later = in_filter p x xs e h in
    elim (p y) as (λ b. In x (cond b (y ∷ filter p xs) (filter p xs))) [ true ↦ inr later | false ↦ later ]

filtered_step : {X : Type 0} (p : X → Bool) (x y : X) (xs : List X) → (In x (filter p xs) → In x xs × (p x ≡ true)) → (b : Bool) → p y ≡ b → In x (cond b (y ∷ filter p xs) (filter p xs)) → In x (y ∷ xs) × (p x ≡ true)
filtered_step p x y xs f true e (inl k) = (inl k, ap p k ∙ e)
filtered_step p x y xs f true e (inr h) = let r = f h in (inr r.0, r.1)
filtered_step p x y xs f false e h = let r = f h in (inr r.0, r.1)

pub in_filtered : {X : Type 0} (p : X → Bool) (x : X) (xs : List X) → In x (filter p xs) → In x xs × (p x ≡ true)
in_filtered p x [] h = absurd h
in_filtered p x (y ∷ xs) h = filtered_step p x y xs (in_filtered p x xs) (p y) refl h

-- a property of all members, and of each
pub both : (a b : Bool) → (a && b) ≡ true → (a ≡ true) × (b ≡ true)
both true b h = (refl, h)
both false b h = absurd (true≢false (sym h))

pub both_hold : (a b : Bool) → a ≡ true → b ≡ true → (a && b) ≡ true
both_hold a b h k = ap (λ c. c && b) h ∙ k

pub neither : (a b : Bool) → (a || b) ≡ false → (a ≡ false) × (b ≡ false)
neither true b h = absurd (true≢false h)
neither false b h = (refl, h)

pub either : (a b : Bool) → (a || b) ≡ true → (a ≡ true) ⊎ (b ≡ true)
either true b h = inl refl
either false b h = inr h

pub not_false : (b : Bool) → not b ≡ true → b ≡ false
not_false true e = absurd (true≢false (sym e))
not_false false e = refl

pub or_left : (a b : Bool) → a ≡ true → (a || b) ≡ true
or_left a b h = ap (λ c. c || b) h

pub or_right : (a b : Bool) → b ≡ true → (a || b) ≡ true
or_right true b h = refl
or_right false b h = h

pub all_each : {X : Type 0} (p : X → Bool) (xs : List X) → list_all p xs ≡ true → (x : X) → In x xs → p x ≡ true
all_each p [] e x h = absurd h
all_each p (y ∷ xs) e x (inl i) = ap p i ∙ (both (p y) (list_all p xs) e).0
all_each p (y ∷ xs) e x (inr h) = all_each p xs (both (p y) (list_all p xs) e).1 x h

pub each_all : {X : Type 0} (p : X → Bool) (xs : List X) → ((x : X) → In x xs → p x ≡ true) → list_all p xs ≡ true
each_all p [] f = refl
each_all p (y ∷ xs) f = ap (λ b. b && list_all p xs) (f y (inl refl)) ∙ each_all p xs (λ x h. f x (inr h))

-- a property of some member
pub any_one : {X : Type 0} (p : X → Bool) (xs : List X) (x : X) → In x xs → p x ≡ true → list_any p xs ≡ true
any_one p [] x h e = absurd h
any_one p (y ∷ xs) x (inl k) e = ap (λ b. b || list_any p xs) (sym (ap p k) ∙ e)
any_one p (y ∷ xs) x (inr h) e = elim (p y) as (λ b. (b || list_any p xs) ≡ true) [ true ↦ refl | false ↦ any_one p xs x h e ]

pub one_any : {X : Type 0} (p : X → Bool) (xs : List X) → list_any p xs ≡ true → (x : X) × In x xs × (p x ≡ true)
one_any p [] e = absurd (true≢false (sym e))
one_any p (y ∷ xs) e = elim (either (p y) (list_any p xs) e) [ inl k ↦ (y, inl refl, k) | inr k ↦ let r = one_any p xs k in (r.0, inr r.1, r.2) ]

-- the concatenation of two lists
pub gather-append : {X Y : Type 0} (f : X → List Y) (xs ys : List X) → gather f (xs ++ ys) ≡ gather f xs ++ gather f ys
gather-append f [] ys = refl
gather-append f (x ∷ xs) ys = ap (λ l. f x ++ l) (gather-append f xs ys) ∙ sym (append_assoc (f x) (gather f xs) (gather f ys))

first_of-assoc : {X : Type 0} (a b c : Option X) → first_of a (first_of b c) ≡ first_of (first_of a b) c
first_of-assoc None b c = refl
first_of-assoc (Some a) b c = refl

pub first_some-append : {X Y : Type 0} (f : X → Option Y) (xs ys : List X) → first_some f (xs ++ ys) ≡ first_of (first_some f xs) (first_some f ys)
first_some-append f [] ys = refl
first_some-append f (x ∷ xs) ys = ap (first_of (f x)) (first_some-append f xs ys) ∙ first_of-assoc (f x) (first_some f xs) (first_some f ys)

pub greatest-append : {X : Type 0} (f : X → ℕ) (xs ys : List X) → greatest f (xs ++ ys) ≡ max (greatest f xs) (greatest f ys)
greatest-append f [] ys = omega arith
greatest-append f (x ∷ xs) ys = let e = greatest-append f xs ys in omega (arith, e)

pub find_op_with_path-append : {N T A : Type 0} (x : ℕ) (ss us : List (OpWithPathOf N T A)) → find_op_with_path x (ss ++ us) ≡ first_of (find_op_with_path x ss) (find_op_with_path x us)
find_op_with_path-append x [] us = refl
find_op_with_path-append x (s ∷ ss) us =
    ap (cond (eqb (op_with_path_id s) x) (Some s)) (find_op_with_path-append x ss us)
    ∙ elim (eqb (op_with_path_id s) x) as (λ b. cond b (Some s) (first_of (find_op_with_path x ss) (find_op_with_path x us)) ≡ first_of (cond b (Some s) (find_op_with_path x ss)) (find_op_with_path x us)) [ true ↦ refl | false ↦ refl ]
