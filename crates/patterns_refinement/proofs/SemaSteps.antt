-- Rules for outcomes of semantic analysis, and for lists that grow.
use Rattle.std.proofs.Common.{◌≡◌, ℕ, zero, suc, ◌+◌, List, [], ◌∷◌, ◌++◌, length, Option, Some, None, Ok, Err, refl, sym, ap, subst, ◌∙◌, ◌⊎◌, inl, inr, arith, slice_get}
use Rattle.std.specs.List.{AllByRecursion}
use Rattle.std.proofs.lemmas.Option.{none-some, same_Some}
use Rattle.user_patterns_text.specs.Parts.{Placed, operation_part, value_part, literal_part, name_part, function_part, condition_part, type_part, end_part}
use Rattle.user_patterns_text.specs.Refusing.{Outcome, ◌>>=◌}
use Rattle.user_patterns_sema.specs.Sema.{Sema, State, after_end, gathered, gathered_from}

-- ---- outcomes
-- a property of the value, if the outcome has one
abbrev pub Holds : {X : Type 0} → (X → Type 0) → Outcome X → Type 0
Holds P (Ok x) = P x
Holds P (Err e) = Unit {0}

pub holds_then : {X Y : Type 0} (P : X → Type 0) (Q : Y → Type 0) (o : Outcome X) (f : X → Outcome Y) → Holds P o → ((x : X) → P x → Holds Q (f x)) → Holds Q (o >>= f)
holds_then P Q (Ok x) f h k = k x h
holds_then P Q (Err e) f h k = tt

pub holds_more : {X : Type 0} (P Q : X → Type 0) (o : Outcome X) → Holds P o → ((x : X) → P x → Q x) → Holds Q o
holds_more P Q (Ok x) h k = k x h
holds_more P Q (Err e) h k = tt

pub held : {X : Type 0} (P : X → Type 0) (o : Outcome X) (x : X) → Holds P o → o ≡ Ok x → P x
held P o x h e = subst (Holds P) e h

pub holds_itself : {X : Type 0} (o : Outcome X) → Holds (λ x. o ≡ Ok x) o
holds_itself (Ok x) = refl
holds_itself (Err e) = tt

-- ---- items of lists
abbrev pub At : {X : Type 0} → List X → X → Type 0
At xs x = (k : ℕ) × (slice_get xs k ≡ Some x)

pub at_more : {X : Type 0} (xs ys : List X) (k : ℕ) (x : X) → slice_get xs k ≡ Some x → slice_get (xs ++ ys) k ≡ Some x
at_more [] ys k x e = absurd (none-some x e)
at_more (z ∷ xs) ys zero x e = e
at_more (z ∷ xs) ys (suc k) x e = at_more xs ys k x e

pub at_end : {X : Type 0} (xs : List X) (x : X) → slice_get (xs ++ (x ∷ [])) (length xs) ≡ Some x
at_end [] x = refl
at_end (z ∷ xs) x = at_end xs x

pub at_either : {X : Type 0} (xs : List X) (x y : X) (k : ℕ) → slice_get (xs ++ (x ∷ [])) k ≡ Some y → (slice_get xs k ≡ Some y) ⊎ ((k ≡ length xs) × (x ≡ y))
at_either [] x y zero e = inr (refl, same_Some x y e)
at_either [] x y (suc k) e = absurd (none-some y e)
at_either (z ∷ xs) x y zero e = inl e
at_either (z ∷ xs) x y (suc k) e = elim (at_either xs x y k e) [ inl i ↦ inl i | inr i ↦ inr (ap suc i.0, i.1) ]

pub one_longer : {X : Type 0} (xs : List X) (x : X) → length (xs ++ (x ∷ [])) ≡ length xs + 1
one_longer [] x = refl
one_longer (z ∷ xs) x = ap suc (one_longer xs x) ∙ same (length xs)
  where
    same : (n : ℕ) → suc (n + 1) ≡ suc n + 1
    same n = omega arith

pub all_more : {X : Type 0} (P : X → Type 0) (xs : List X) (x : X) → AllByRecursion P xs → P x → AllByRecursion P (xs ++ (x ∷ []))
all_more P [] x all p = (p, tt)
all_more P (y ∷ xs) x all p = (all.0, all_more P xs x all.1 p)

pub all_into : {X : Type 0} (P Q : X → Type 0) (xs : List X) → AllByRecursion P xs → ((x : X) → P x → Q x) → AllByRecursion Q xs
all_into P Q [] all f = tt
all_into P Q (x ∷ xs) all f = (f x all.0, all_into P Q xs all.1 f)

-- ---- lists up to an end
ends_here : (ps qs : List Placed) → after_end ps ≡ Some qs → (left : ℕ) × (ps ≡ (left, end_part) ∷ qs)
ends_here [] qs e = absurd (none-some qs e)
ends_here ((l, end_part) ∷ ps) qs e = (l, ap (λ qs. (l, end_part) ∷ qs) (same_Some ps qs e))
ends_here ((l, operation_part w asks) ∷ ps) qs e = absurd (none-some qs e)
ends_here ((l, value_part w) ∷ ps) qs e = absurd (none-some qs e)
ends_here ((l, literal_part negative magnitude) ∷ ps) qs e = absurd (none-some qs e)
ends_here ((l, name_part w) ∷ ps) qs e = absurd (none-some qs e)
ends_here ((l, function_part w) ∷ ps) qs e = absurd (none-some qs e)
ends_here ((l, condition_part w) ∷ ps) qs e = absurd (none-some qs e)
ends_here ((l, type_part w) ∷ ps) qs e = absurd (none-some qs e)

abbrev pub Parts : Type 0
Parts = List Placed

-- the state of a walk over parts is sound, its steps compose, and a property of items is kept
pub record Walk {X : Type 0} (T : State → Outcome (X × State)) (I : Parts → Sema → Type 0) (R : Parts → Sema → Parts → Sema → Type 0) (P : X → Sema → Type 0) : Type 0 where
  pub still : (ps : Parts) (f : Sema) → I ps f → R ps f ps f
  pub through : (ps qs rs : Parts) (f g h : Sema) → R ps f qs g → R qs g rs h → R ps f rs h
  pub ends : (left : ℕ) (ps : Parts) (f : Sema) → I ((left, end_part) ∷ ps) f → I ps f × R ((left, end_part) ∷ ps) f ps f
  pub keeps : (ps qs : Parts) (f g : Sema) (x : X) → R ps f qs g → P x f → P x g
  pub step : (ps : Parts) (f : Sema) → I ps f → Holds (λ (y : X × State). I y.1.0 y.1.1 × R ps f y.1.0 y.1.1 × P y.0 y.1.1) (T (ps, f))

module _ {X : Type 0} (T : State → Outcome (X × State)) (I : Parts → Sema → Type 0) (R : Parts → Sema → Parts → Sema → Type 0) (P : X → Sema → Type 0) (walk : Walk T I R P) where
  abbrev Walked : Parts → Sema → List X × State → Type 0
  Walked ps f y = I y.1.0 y.1.1 × R ps f y.1.0 y.1.1 × AllByRecursion (λ x. P x y.1.1) y.0

  pub gathered_holds : (n : ℕ) (xs : List X) (ps : Parts) (f : Sema) → I ps f → AllByRecursion (λ x. P x f) xs → Holds (λ (y : List X × State). I y.1.0 y.1.1 × R ps f y.1.0 y.1.1 × AllByRecursion (λ x. P x y.1.1) y.0) (gathered T n xs (ps, f))
  unfolding gathered
  gathered_holds zero xs ps f i all = tt
  gathered_holds (suc n) xs ps f i all = go (λ xs ps f i all. gathered_holds n xs ps f i all) (after_end ps) refl
    where
      go : ((xs : List X) (ps : Parts) (f : Sema) → I ps f → AllByRecursion (λ x. P x f) xs → Holds (Walked ps f) (gathered T n xs (ps, f))) → (o : Option Parts) → after_end ps ≡ o → Holds (Walked ps f) (gathered_from T (gathered T n) xs (ps, f) o)
      go more (Some qs) e =
          let h = ends_here ps qs e in
          let moved = walk.ends h.0 qs f (subst (λ ps. I ps f) h.1 i) in
          (moved.0, subst (λ ps. R ps f qs f) (sym h.1) moved.1, all)
      go more None e =
          holds_then (λ (y : X × State). I y.1.0 y.1.1 × R ps f y.1.0 y.1.1 × P y.0 y.1.1) (Walked ps f) (T (ps, f)) (λ x. gathered T n (xs ++ x.0 ∷ []) x.1) (walk.step ps f i)
          (λ x h. holds_more (Walked x.1.0 x.1.1) (Walked ps f) (gathered T n (xs ++ (x.0 ∷ [])) (x.1.0, x.1.1))
          (more (xs ++ (x.0 ∷ [])) x.1.0 x.1.1 h.0 (all_more (λ y. P y x.1.1) xs x.0 (all_into (λ y. P y f) (λ y. P y x.1.1) xs all (λ y p. walk.keeps ps x.1.0 f x.1.1 y h.1 p)) h.2))
          (λ y w. (w.0, walk.through ps x.1.0 y.1.0 f x.1.1 y.1.1 h.1 w.1, w.2)))
