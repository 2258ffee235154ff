-- Lists of operations that grow: the entries that they have, and the entries still to be added.
use Rattle.std.specs.Prelude.{◌≡◌, ◌⊎◌, ℕ, List, ◌++◌, true}
use Rattle.ir_event.specs.tree_laws.Members.{In}
use Rattle.greedy.specs.LocalContext.{is_listed}

-- a list grew at its end
abbrev pub Grown : List ℕ → List ℕ → Type 0
Grown xs ys = (zs : List ℕ) × (ys ≡ xs ++ zs)

-- ys extends xs and holds every operation with property P
pub record Adds (P : ℕ → Type 0) (xs ys : List ℕ) : Type 0 where
  pub grown : Grown xs ys
  pub kept : (x : ℕ) → is_listed x xs ≡ true → is_listed x ys ≡ true
  pub added : (x : ℕ) → P x → is_listed x ys ≡ true

-- ys extends xs and holds every operation with property P, except those with property Q, which are still to be added
pub record Adding (P Q : ℕ → Type 0) (xs ys : List ℕ) : Type 0 where
  pub grown : Grown xs ys
  pub kept : (x : ℕ) → is_listed x xs ≡ true → is_listed x ys ≡ true
  pub added : (x : ℕ) → P x → (is_listed x ys ≡ true) ⊎ Q x

-- R relates operation x to an element of a list
abbrev pub OneOf : {X : Type 0} → (X → ℕ → Type 0) → List X → ℕ → Type 0
OneOf {X} R ys x = (y : X) × In y ys × R y x
